use Rattle.std.proofs.Common.{◌∙◌, ◌<◌, length, refl, subst, arith}
use Rattle.std.proofs.lemmas.List.{take_more, take_all}
use Rattle.hd_repair.specs.Falling.{AreDetached}
use Rattle.hd_repair.proofs.FallLemmas.{detached_both, none_detached}
use Rattle.hd_repair.proofs.falling.detach_each.Goals as goal

pub loop-o-init : goal.loop-o-init
loop-o-init c = record { count = refl; detached = none_detached c.args.kept.now c.args.gone.now }

pub loop-o-preserved : goal.loop-o-preserved
loop-o-preserved c =
    let i = c.loop-o.o-index in
    let xs = c.args.objects.now in
    let lt : i < length xs = omega arith in
    record {
      count = c.detach_one.ensures.count ∙ c.loop-o.invariant.count;
      detached = rw (take_more xs i 0 lt) (detached_both c.args.kept.now c.loop-o.kept c.detach_one.new.kept c.args.gone.now c.loop-o.gone
          c.detach_one.new.gone _ _ c.loop-o.invariant.detached c.in_ok-detach_one.ensures.ok);
    }

pub returns-clause-ok : goal.returns-clause-ok
returns-clause-ok c =
    subst (AreDetached c.args.kept.now c.loop-o.kept c.args.gone.now c.loop-o.gone) (take_all c.loop-o.o-index c.args.objects.now (omega arith))
    c.loop-o.invariant.detached
