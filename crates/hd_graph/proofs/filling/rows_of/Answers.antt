use Rattle.std.proofs.Common.{◌∙◌, sym, arith}
use Rattle.hd_classes.specs.Known.{known_at}
use Rattle.hd_graph.specs.Building.{HasAllRows, HasAllShapes}
use Rattle.hd_graph.proofs.AllRowLemmas.{rows-of-all}
use Rattle.hd_graph.proofs.filling.rows_of.Goals as goal

pub with_ids-requires-clause-room : goal.with_ids-requires-clause-room
with_ids-requires-clause-room c =
    let rows : HasAllRows (known_at c.args.classes.now) c.args.bytes.now c.args.id_size c.args.list.now c.in-Some.field-0.slot_table =
    rw c.in-Some.is at c.requires.rows in
    omega (arith, rows.few, c.requires.within.few, c.requires.few)

pub returns-then-len : goal.returns-then-len
returns-then-len c =
    let known = known_at c.args.classes.now in
    let list = c.args.list.now in
    let all = c.in-Some.field-0 in
    let rows : HasAllRows known c.args.bytes.now c.args.id_size list all.slot_table = rw c.in-Some.is at c.requires.rows in
    let shapes : HasAllShapes known c.args.id_size list all.shapes.objects = rw c.in-Some.is at c.requires.shapes in
    rw c.in_ok-slot_table.ensures
    (rows-of-all known c.args.bytes.now c.args.id_size list all.slot_table all.shapes.objects c.args.ids rows shapes c.requires.ids
    (sym c.len.ensures ∙ c.if-len.true ∙ c.len-in-Some.ensures.len))
