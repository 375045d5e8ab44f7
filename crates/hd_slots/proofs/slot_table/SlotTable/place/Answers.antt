use Rattle.std.proofs.Common.{◌∙◌, ℕ, ◌<◌, List, length, take, ap, arith}
use Rattle.std.specs.Arc.{arc_value}
use Rattle.std.specs.List.{sum}
use Rattle.std.proofs.lemmas.List.{length-map}
use Rattle.hd_slots.specs.Table.{Rows, row_at}
use Rattle.hd_slots.proofs.PartLemmas.{len_of_part, total, row-of_part}
use Rattle.hd_slots.proofs.slot_table.SlotTable.place.Goals as goal

pub find-part-requires : goal.find-part-requires
find-part-requires c =
    let a = c.self.inside in
    omega (arith, c.requires, ap (λ (t : Rows). length t.rows) c.self.view_is, total a.parts.items, ap sum c.self.invariant.lens_are)

pub returns-clause-same : goal.returns-clause-same
returns-clause-same c =
    let a = c.self.inside in
    let lens = c.self.invariant.lens_are in
    let within : c.find-part.result.0 < length a.parts.items = omega (arith, c.find-part.ensures.part, ap length lens, length-map a.parts.items len_of_part) in
    let first = c.find-part.ensures.first ∙ ap (λ (xs : List ℕ). sum (take c.find-part.result.0 xs)) lens in
    let before = c.find-part.ensures.within.1 in
    let found = c.find-part.result in
    let after = c.find-part.ensures.within.0 in
    let at = row-of_part (arc_value a.ids) a.parts.items found.0 c.args.o found.1 c.index.result.now within c.index.ensures first after (rw lens at before) in
    at.1 ∙ ap (λ (t : Rows). row_at t c.args.o) c.self.view_is
