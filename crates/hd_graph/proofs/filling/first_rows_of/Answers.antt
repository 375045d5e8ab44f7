use Rattle.std.proofs.Common.{arith}
use Rattle.hd_classes.specs.Known.{known_at}
use Rattle.hd_graph.specs.Building.{HasRowsOf, columns}
use Rattle.hd_graph.proofs.AllRowLemmas.{one-part}
use Rattle.hd_graph.proofs.MadeLemmas.{none-made}
use Rattle.hd_graph.proofs.OpenLemmas.{length-le-weight}
use Rattle.hd_graph.proofs.filling.first_rows_of.Goals as goal

pub fill_first_rows-requires-clause-classes : goal.fill_first_rows-requires-clause-classes
fill_first_rows-requires-clause-classes c = rw (c.in_ok-shapes.ensures, c.in_ok-layouts.ensures)
    (none-made c.args.id_size c.args.classes.now _ c.requires.classes c.len.ensures)

pub join-requires : goal.join-requires
join-requires c =
    let list = c.args.list.now in
    let t = c.fill_first_rows.new.slot_table in
    let s = c.fill_first_rows.new.shapes in
    let filled : HasRowsOf (known_at c.args.classes.now) c.args.bytes.now c.args.id_size list (columns t s.objects) =
    rw (c.in_ok-layouts.ensures, c.in_ok-slot_table.ensures) at c.in_ok-fill_first_rows.ensures in
    rw (c.in_ok-push.ensures.slot_tables, c.in_ok-parts.ensures.slot_tables, c.in_ok-push.ensures.shapes, c.in_ok-parts.ensures.shapes)
    (one-part (known_at c.args.classes.now) c.args.bytes.now c.args.id_size list t s filled (omega (arith, length-le-weight list, c.requires.within.few)))
