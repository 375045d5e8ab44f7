use Rattle.std.proofs.Common.{◌<◌, length, map, sym, arith}
use Rattle.std.proofs.lemmas.List.{append-nil}
use Rattle.hd_terms.specs.declared.Slot.TheVariants as slots
use Rattle.hd_subs.specs.declared.class.Constant.{Constant}
use Rattle.hd_subs.specs.Views.{constant_view}
use Rattle.hd_graph.specs.ArrayRows.{values_of_constants}
use Rattle.hd_graph.proofs.ValueLemmas.{constant-at, length-constant-values, one-name, all-names}
use Rattle.hd_graph.proofs.class_shapes.push_constant_names.Goals as goal

-- what stands past the last one
abbrev none : Constant
none = record { code = 0; value = record { start = 0; len = 0 } }

pub loop-i-init : goal.loop-i-init
loop-i-init c = sym (append-nil c.args.names.now.items)

pub loop-i-preserved : goal.loop-i-preserved
loop-i-preserved c =
    let within : c.loop-i.i < length (values_of_constants (map constant_view c.args.constants.now)) =
    omega (arith, length-constant-values c.args.constants.now) in
    one-name (λ i. slots.Const i) (values_of_constants (map constant_view c.args.constants.now)) c.loop-i.i
    (none.code, none.value) c.args.names.now.items c.loop-i.names.items _
    within c.loop-i.invariant _ (constant-at c.args.constants.now c.loop-i.i none) c.in_ok-push_name.ensures

pub returns : goal.returns
returns c = all-names (λ i. slots.Const i) (values_of_constants (map constant_view c.args.constants.now)) c.loop-i.i c.args.names.now.items c.loop-i.names.items
    (omega (arith, length-constant-values c.args.constants.now)) c.loop-i.invariant
