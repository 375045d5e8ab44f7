use Rattle.std.proofs.Common.{[], refl, map, arith}
use Rattle.std.proofs.lemmas.List.{length-map}
use Rattle.hd_classes.specs.Known.{field_view}
use Rattle.hd_graph.proofs.LayoutLemmas.{none-pushed, class-pushed, class-within, class-room, all-pushed}
use Rattle.hd_graph.proofs.instance_rows.push_fields.Goals as goal

pub loop-own-init : goal.loop-own-init
loop-own-init c = record { front = []; whole = refl; pushed = none-pushed c.args.start c.args.slot_table.now }

pub push_own_fields-requires-clause-within : goal.push_own_fields-requires-clause-within
push_own_fields-requires-clause-within c =
    class-within c.args.start c.args.layout c.loop-own.rest
    (map field_view c.in-Some.own.now) c.in-Some.above c.args.slot_table.now c.loop-own.slot_table c.loop-own.at c.loop-own.invariant c.in-Some.ensures.0
    c.requires.within

pub push_own_fields-requires-clause-room : goal.push_own_fields-requires-clause-room
push_own_fields-requires-clause-room c =
    let room = class-room c.args.start c.args.layout c.loop-own.rest
    (map field_view c.in-Some.own.now) c.in-Some.above c.args.slot_table.now c.loop-own.slot_table c.loop-own.at _ c.loop-own.invariant c.in-Some.ensures.0
    c.requires.room in
    omega (arith, room, length-map c.in-Some.own.now field_view)

pub loop-own-preserved : goal.loop-own-preserved
loop-own-preserved c =
    class-pushed c.args.start c.args.layout c.loop-own.rest
    (map field_view c.in-Some.own.now) c.in-Some.above c.args.slot_table.now c.loop-own.slot_table c.push_own_fields.new.slot_table c.loop-own.at _
    c.loop-own.invariant c.in-Some.ensures.0 c.in_ok-at.ensures.row c.in_ok-at.ensures.end

pub returns : goal.returns
returns c = all-pushed c.args.start c.args.layout c.loop-own.rest c.args.slot_table.now c.loop-own.slot_table c.loop-own.at c.loop-own.invariant
    c.in_default.ensures
