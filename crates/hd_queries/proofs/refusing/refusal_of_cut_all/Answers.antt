-- The objects are gone through one by one. The first that has the field decides; else it is decided by whether there was one.
use Rattle.std.proofs.Common.{◌<◌, ◌≤◌, ◌∙◌, length, refl, sym, arith}
use Rattle.hd_queries.proofs.RefusalLemmas.{others_class, others_field, one_of_class, one_without, one_with, refused_by_class}
use Rattle.hd_queries.proofs.refusing.refusal_of_cut_all.Goals as goal
use Rattle.hd_queries.proofs.refusing.refusal_of_cut_all.Goals.{then-is_of_class+else-is_some, else-is_of_class}

pub loop-o-init : goal.loop-o-init
loop-o-init c = (refl, refl)

pub loop-o-preserved : goal.loop-o-preserved
loop-o-preserved c =
    let dump = c.args.graph.now in
    let o = c.loop-o.o in
    let lt : o < length dump.objects = omega (arith, c.objects-o-end.ensures, c.loop-o-test.true) in
    elim c.if-is_of_class.branch [
      | then-is_of_class+else-is_some w ↦
          let counted = sym c.is_of_class.ensures ∙ w.if-is_of_class.true in
          rw w.has_class-is (
            one_of_class dump c.args.class c.args.field o lt counted,
            one_without dump c.args.class c.args.field o lt counted w.slot_index.result w.slot_index.ensures.first w.slot_index.ensures.only
                (sym w.is_some.ensures ∙ w.if-is_some.false) c.loop-o.invariant.1,
          )
      | else-is_of_class w ↦
          let other = sym c.is_of_class.ensures ∙ w.if-is_of_class.false in
          rw w.has_class-is (
            others_class dump c.args.class c.args.field o lt other c.loop-o.has_class c.loop-o.invariant.0,
            others_field dump c.args.class c.args.field o lt other c.loop-o.invariant.1,
          )
    ]

pub returns-then-is_some : goal.returns-then-is_some
returns-then-is_some c =
    let dump = c.args.graph.now in
    let lt : c.loop-o.o < length dump.objects = omega (arith, c.objects-o-end.ensures, c.loop-o-test.true) in
    one_with dump c.args.class c.args.field c.loop-o.o lt (sym c.is_of_class.ensures ∙ c.if-is_of_class.true) c.slot_index.result
    c.slot_index.ensures.first c.slot_index.ensures.only (sym c.is_some.ensures ∙ c.if-is_some.true)

pub returns-then-has_class : goal.returns-then-has_class
returns-then-has_class c =
    let dump = c.args.graph.now in
    let past : length dump.objects ≤ c.loop-o.o = omega (arith, c.objects-o-end.ensures, c.loop-o-test.false) in
    sym (rw c.if-has_class.true at (refused_by_class dump c.args.class c.args.field c.loop-o.o past
    c.loop-o.has_class c.loop-o.invariant.0 c.loop-o.invariant.1))

pub returns-else-has_class : goal.returns-else-has_class
returns-else-has_class c =
    let dump = c.args.graph.now in
    let past : length dump.objects ≤ c.loop-o.o = omega (arith, c.objects-o-end.ensures, c.loop-o-test.false) in
    sym (rw c.if-has_class.false at (refused_by_class dump c.args.class c.args.field c.loop-o.o past
    c.loop-o.has_class c.loop-o.invariant.0 c.loop-o.invariant.1))
