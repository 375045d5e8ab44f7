use Rattle.std.proofs.Common.{◌+◌, ap, arith, length}
use Rattle.hd_slots.specs.Table.{Table}
use Rattle.hd_graph.specs.ArrayRows.{layout_by_number, placed_fields, value_ids}
use Rattle.hd_graph.proofs.LayoutLemmas.{placed-few}
use Rattle.hd_graph.proofs.AddedLemmas.{instance-by_id-added}
use Rattle.hd_graph.proofs.instance_rows.push_row.Goals as goal

pub push_shared-requires-clause-room : goal.push_shared-requires-clause-room
push_shared-requires-clause-room c =
    omega (
      arith,
      placed-few c.args.slot_table.now.bytes c.args.slot_table.now.size c.args.start (layout_by_number c.args.layouts.now.classes c.args.number),
      ap (λ (t : Table). t.count) c.in_ok-push_values.ensures.row,
      ap (λ (t : Table). length t.ids) c.in_ok-push_values.ensures.row,
      c.requires.room,
    )

pub returns-clause-row : goal.returns-clause-row
returns-clause-row c =
    let t = c.args.slot_table.now in
    let layout = layout_by_number c.args.layouts.now.classes c.args.number in
    instance-by_id-added (value_ids t.bytes t.size (placed_fields t.size c.args.start layout)) c.args.id (length layout + 1)
    t c.push_values.new.slot_table c.push_shared.new.self c.end_row.new.self
    c.requires.filled c.in_ok-push_values.ensures.row c.in_ok-push_shared.ensures c.in_ok-end_row.ensures
    (omega (arith, placed-few t.bytes t.size c.args.start layout))
