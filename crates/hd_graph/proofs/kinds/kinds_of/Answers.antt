use Rattle.std.proofs.Common.{◌∙◌, ◌<◌, ◌^◌, ◌∷◌, length, Ok, ap, arith}
use Rattle.hd_graph.specs.Shapes.{row_objects}
use Rattle.hd_graph.proofs.ArrayLemmas.{length-row_objects}
use Rattle.hd_graph.proofs.KindLemmas.{none-joined, next-joined, all-joined}
use Rattle.hd_graph.proofs.kinds.kinds_of.Goals as goal

pub loop-part-init : goal.loop-part-init
loop-part-init g c =
    let objects = row_objects c.args.shapes.now.objects c.args.slot_table.now.ids c.args.slot_table.now.rows in
    rw c.into_iter-part-iterator.ensures.into_iter_gives.0
    (none-joined objects c.in_ok-parts.parts.items (Ok c.none-lists.result) c.none-lists.result (omega (arith, c.in_ok-parts.ensures.len))
    (λ i lt. (c.in_ok-parts.ensures.each i (Ok c.none-lists.result) lt).1.met) c.none-lists.ensures)

pub loop-part-preserved : goal.loop-part-preserved
loop-part-preserved g c =
    let objects = row_objects c.args.shapes.now.objects c.args.slot_table.now.ids c.args.slot_table.now.rows in
    let next = c.in-Some.ensures.steps.0 ∙ ap (λ r. r ∷ c.next.new.self.rest.items) c.in_ok-part.was in
    next-joined objects c.loop-part.part-iterator.rest.items c.next.new.self.rest.items c.loop-part.lists c.in_ok-part.field-0 c.append.new.self
    c.loop-part.invariant next c.in_ok-append.ensures

pub returns : goal.returns
returns g c =
    let objects = row_objects c.args.shapes.now.objects c.args.slot_table.now.ids c.args.slot_table.now.rows in
    let rest = c.loop-part.part-iterator.rest in
    let few : length objects < 2 ^ 31 =
    omega (arith, length-row_objects c.args.shapes.now.objects c.args.slot_table.now.ids c.args.slot_table.now.rows c.requires.columns, c.requires.few) in
    all-joined objects rest.items c.loop-part.lists few c.loop-part.invariant (omega (arith, c.in-None.ensures.steps.0, rest.ok.0))
