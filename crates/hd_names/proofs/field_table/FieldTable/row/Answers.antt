use Rattle.std.proofs.Common.{◌≡◌, ◌∙◌, Some, List, length, sym, ap, subst, arith}
use Rattle.std.specs.List.{slice_get}
use Rattle.std.specs.Option.{option_map}
use Rattle.std.proofs.lemmas.Option.{slice_get_past}
use Rattle.hd_names.specs.declared.field_table.FieldRow.{FieldRow}
use Rattle.hd_names.proofs.TableLemmas.{slice-some, zip-some, zip-none_first, zip-none_second}
use Rattle.hd_names.proofs.field_table.FieldTable.row.Goals as goal

pub returns-in_err-row : goal.returns-in_err-row
returns-in_err-row c =
    let t = c.args.self.now in
    let past = c.in_err-row.ensures.lookup.3 in
    ap (option_map (λ r. (r.0, r.1.now))) c.from_residual.ensures
    ∙ sym (zip-none_first t.rows.items t.fields c.args.number
    (slice_get_past t.rows.items c.args.number (omega (arith, past, ap (λ (rs : List FieldRow). length rs) c.deref.ensures.value))))

pub returns-in_err-own : goal.returns-in_err-own
returns-in_err-own c =
    let t = c.args.self.now in
    ap (option_map (λ r. (r.0, r.1.now))) c.from_residual-in_err-own.ensures
    ∙ sym (zip-none_second t.rows.items t.fields c.args.number (sym c.in_err-own.ensures))

pub returns : goal.returns
returns c =
    let t = c.args.self.now in
    let here = c.in_ok-row.ensures.lookup.3 in
    let at : slice_get t.rows.items c.args.number ≡ Some c.in_ok-row.row.now =
    subst (λ (rs : List FieldRow). slice_get rs c.args.number ≡ Some c.in_ok-row.row.now) c.deref.ensures.value
    (slice-some c.deref.result.now c.args.number c.in_ok-row.row.now here.0 here.1) in
    sym (zip-some t.rows.items t.fields c.args.number c.in_ok-row.row.now c.in_ok-own.own.now at (sym c.in_ok-own.ensures))
