-- One known class after another: its own fields get names behind those of the classes above it.
-- Its row points to the row of the class above, which comes before.
use Rattle.std.proofs.Common.{◌≡◌, ◌∙◌, ℕ, ◌^◌, ◌++◌, ◌∷◌, [], List, Option, Some, map, take, sym, ap, subst, arith}
use Rattle.std.specs.List.{slice_get}
use Rattle.std.proofs.lemmas.Option.{slice_get_within}
use Rattle.hd_names.specs.declared.field_table.FieldRow.{FieldRow}
use Rattle.hd_classes.specs.declared.known.LayoutField.{LayoutField}
use Rattle.hd_classes.specs.Sources.{table_of}
use Rattle.hd_classes.specs.Links.{Row}
use Rattle.hd_classes.specs.Naming.{AreNumbers, AreLists, field_row, field_names}
use Rattle.hd_classes.proofs.NamingLemmas.{notes-nothing, notes-further, map-next, lists-next, take-whole}
use Rattle.hd_classes.proofs.NamedTableLemmas.{below-more}
use Rattle.hd_classes.proofs.naming.field_rows.Goals as goal

pub four_bytes-requires : goal.four_bytes-requires
four_bytes-requires c =
    let rows = c.args.known.now.entries in
    let at = sym c.in-Some.ensures.entry in
    let i = c.loop-id.i in
    let lt = slice_get_within rows i _ at in
    below-more i (2 ^ 32) c.in-Some.class.now.fields_above (omega (arith, lt, c.requires.few)) (c.requires.linked i _ at).nearer

pub loop-id-init : goal.loop-id-init
loop-id-init c = record {
  within = omega arith;
  more = notes-nothing (table_of c.args.source.now) c.args.names.now c.requires.noted;
  rows = c.in_ok-rows.ensures.items;
  fields = λ texts' on. ap (map _) c.in_ok-fields.ensures;
}

pub loop-id-preserved : goal.loop-id-preserved
loop-id-preserved c =
    let t = table_of c.args.source.now in
    let rows = c.args.known.now.entries in
    let h = c.loop-id.invariant in
    let i = c.loop-id.i in
    let row : Row = (c.in-Some.id.now, c.in-Some.class.now) in
    let at : slice_get rows i ≡ Some row = sym c.in-Some.ensures.entry in
    let more = c.in_ok-numbers.ensures.more in
    let are : AreNumbers t c.of_fields.new.self.texts (field_names row) c.in_ok-numbers.numbers.items =
    subst (λ (fs : List LayoutField). AreNumbers t c.of_fields.new.self.texts (map (λ (f : LayoutField). f.name) fs) c.in_ok-numbers.numbers.items)
    c.as_slice.ensures.value c.in_ok-numbers.ensures.are in
    let lt = slice_get_within rows i row at in
    record {
      within = omega (arith, lt);
      more = notes-further t c.args.names.now c.loop-id.names c.of_fields.new.self h.more more;
      rows = c.in_ok-push-2.ensures.items
          ∙ ap (λ (rs : List FieldRow). rs ++ record { class = row.0; above = c.four_bytes.result } ∷ []) h.rows
          ∙ ap (λ (o : Option ℕ). map field_row (take i rows) ++ record { class = row.0; above = o } ∷ []) c.four_bytes.ensures
          ∙ sym (map-next field_row rows i row at);
      fields = lists-next t c.loop-id.names.texts c.of_fields.new.self.texts field_names rows i row c.loop-id.fields c.push.new.self
          c.in_ok-numbers.numbers.items at h.fields more.more are
          (c.in_ok-push.ensures.added ∙ ap (λ (ns : List ℕ). c.loop-id.fields ++ ns ∷ []) c.as_slice-in-Some.ensures.value);
    }

pub returns-clause-rows : goal.returns-clause-rows
returns-clause-rows c = c.loop-id.invariant.rows ∙ ap (map field_row) (take-whole c.args.known.now.entries c.loop-id.i (sym c.in_default.ensures.entry))

pub returns-clause-fields : goal.returns-clause-fields
returns-clause-fields c =
    subst (λ (rs : List Row). AreLists (table_of c.args.source.now) c.loop-id.names.texts (map field_names rs) c.loop-id.fields)
    (take-whole c.args.known.now.entries c.loop-id.i (sym c.in_default.ensures.entry)) c.loop-id.invariant.fields
