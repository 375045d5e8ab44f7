use Rattle.std.proofs.Common.{◌∙◌, ◌+◌, ◌<◌, ℕ, Option, arith, sym, ap, subst}
use Rattle.std.specs.Option.{option_map_or}
use Rattle.hd_names.specs.Tables.{layout_in}
use Rattle.hd_names.proofs.TableLemmas.{zip-first, layout-none, pass-row, own-first, above-lower}
use Rattle.hd_names.proofs.field_table.FieldTable.walk.Goals as goal

pub returns-in_default-row-clause-passed : goal.returns-in_default-row-clause-passed
returns-in_default-row-clause-passed c =
    let t = c.args.self.now in
    c.loop-row.invariant.passed ∙ ap (layout_in t) c.in-Some.is ∙ layout-none t c.in-Some.number (sym c.in_default-row.ensures)

pub returns-then-rest-own-clause-own : goal.returns-then-rest-own-clause-own
returns-then-rest-own-clause-own c =
    own-first c.args.self.now c.requires c.in-Some.number (c.in-Some-row.link, c.in-Some-row.own.now) (sym c.in-Some-row.ensures) c.loop-row.rest
    c.if-rest-own.true

pub loop-row-smaller : goal.loop-row-smaller
loop-row-smaller c =
    let t = c.args.self.now in
    let link = c.in-Some-row.link in
    let height : Option ℕ → ℕ = λ (number : Option ℕ). option_map_or (λ (n : ℕ). n + 1) number 0 in
    subst (λ (number : Option ℕ). height link.above < height number) (sym c.in-Some.is)
    (above-lower c.in-Some.number link.above
    (c.requires c.in-Some.number link (zip-first t.rows.items t.fields c.in-Some.number link c.in-Some-row.own.now (sym c.in-Some-row.ensures))))

pub loop-row-preserved : goal.loop-row-preserved
loop-row-preserved c =
    let t = c.args.self.now in
    let h = c.loop-row.invariant in
    record {
      rest = omega (arith, h.rest);
      passed = pass-row t c.requires c.in-Some.number (c.in-Some-row.link, c.in-Some-row.own.now) (sym c.in-Some-row.ensures) c.args.field c.loop-row.rest
          (layout_in t c.args.from) h.rest c.if-rest-own.false
          (h.passed ∙ ap (layout_in t) c.in-Some.is);
    }
