use Rattle.std.proofs.Common.{◌<◌, length, map, sym, arith}
use Rattle.std.proofs.lemmas.List.{append-nil}
use Rattle.hd_terms.specs.declared.Slot.TheVariants as slots
use Rattle.hd_subs.specs.declared.class.Static.{Static}
use Rattle.hd_subs.specs.Views.{static_view}
use Rattle.hd_graph.specs.ArrayRows.{values_of_statics}
use Rattle.hd_graph.proofs.ValueLemmas.{static-at, length-static-values, one-name, all-names}
use Rattle.hd_graph.proofs.class_shapes.push_static_names.Goals as goal

-- what stands past the last one
abbrev none : Static
none = record { name = 0; code = 0; value = record { start = 0; len = 0 } }

pub loop-i-init : goal.loop-i-init
loop-i-init c = sym (append-nil c.args.names.now.items)

pub loop-i-preserved : goal.loop-i-preserved
loop-i-preserved c =
    let within : c.loop-i.i < length (values_of_statics (map static_view c.args.statics.now)) = omega (arith, length-static-values c.args.statics.now) in
    one-name (λ i. slots.Static i) (values_of_statics (map static_view c.args.statics.now)) c.loop-i.i
    (none.code, none.value) c.args.names.now.items c.loop-i.names.items _
    within c.loop-i.invariant _ (static-at c.args.statics.now c.loop-i.i none) c.in_ok-push_name.ensures

pub returns : goal.returns
returns c = all-names (λ i. slots.Static i) (values_of_statics (map static_view c.args.statics.now)) c.loop-i.i c.args.names.now.items c.loop-i.names.items
    (omega (arith, length-static-values c.args.statics.now)) c.loop-i.invariant
