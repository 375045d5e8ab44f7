use Rattle.std.proofs.Common.{ℕ, ◌<◌, length, map, subst, arith}
use Rattle.hd_terms.specs.declared.Span.{Span}
use Rattle.hd_subs.specs.declared.class.Static.{Static}
use Rattle.hd_subs.specs.Views.{static_view}
use Rattle.hd_graph.specs.ArrayRows.{IsValueWithin, values_of_statics}
use Rattle.hd_graph.proofs.ValueLemmas.{static-at, length-static-values, no-ids, one-id, over-so-far, room-so-far, all-ids}
use Rattle.hd_graph.proofs.GrownLemmas.{value-over}
use Rattle.hd_graph.proofs.class_rows.push_statics.Goals as goal

-- what stands past the last one
abbrev none : Static
none = record { name = 0; code = 0; value = record { start = 0; len = 0 } }

pub loop-i-init : goal.loop-i-init
loop-i-init c = no-ids (values_of_statics (map static_view c.args.statics.now)) c.args.slot_table.now

pub push_value-requires-clause-within : goal.push_value-requires-clause-within
push_value-requires-clause-within c =
    let within : c.loop-i.i < length (values_of_statics (map static_view c.args.statics.now)) = omega (arith, length-static-values c.args.statics.now) in
    let values = values_of_statics (map static_view c.args.statics.now) in
    let first = c.args.slot_table.now in
    let over = over-so-far values c.loop-i.i first c.loop-i.slot_table c.loop-i.invariant in
    value-over first c.loop-i.slot_table _ over
    (subst (λ (v : ℕ × Span). IsValueWithin first.size (length first.bytes) v) (static-at c.args.statics.now c.loop-i.i none)
    (c.requires.within c.loop-i.i (none.code, none.value) within))

pub push_value-requires-clause-room : goal.push_value-requires-clause-room
push_value-requires-clause-room c =
    let room = room-so-far (values_of_statics (map static_view c.args.statics.now)) c.loop-i.i c.args.slot_table.now c.loop-i.slot_table c.loop-i.invariant in
    omega (arith, room.0, room.1, c.requires.room)

pub loop-i-preserved : goal.loop-i-preserved
loop-i-preserved c =
    let within : c.loop-i.i < length (values_of_statics (map static_view c.args.statics.now)) = omega (arith, length-static-values c.args.statics.now) in
    one-id (values_of_statics (map static_view c.args.statics.now)) c.loop-i.i (none.code, none.value) c.args.slot_table.now c.loop-i.slot_table _
    within c.loop-i.invariant _ (static-at c.args.statics.now c.loop-i.i none) c.in_ok-push_value.ensures

pub returns : goal.returns
returns c = all-ids (values_of_statics (map static_view c.args.statics.now)) c.loop-i.i c.args.slot_table.now c.loop-i.slot_table
    (omega (arith, length-static-values c.args.statics.now)) c.loop-i.invariant
