use Rattle.std.proofs.Common.{subst, sym}
use Rattle.hd_repair.specs.Falling.{AreDetached}
use Rattle.hd_repair.proofs.FallLemmas.{detached_both, second_within}
use Rattle.hd_repair.proofs.falling.detach_waiting.Goals as goal

pub detach_each-requires-2 : goal.detach_each-requires-2
detach_each-requires-2 c = second_within c.as_slices.result.0.now c.as_slices.result.1.now c.args.losing.now.waiting.items _ _
    (sym c.as_slices.ensures.items) c.requires c.detach_each.ensures.count

pub returns-clause-ok : goal.returns-clause-ok
returns-clause-ok c =
    subst (AreDetached c.args.kept.now c.detach_each-2.new.kept c.args.losing.now.gone c.detach_each-2.new.gone) c.as_slices.ensures.items
    (detached_both c.args.kept.now c.detach_each.new.kept c.detach_each-2.new.kept c.args.losing.now.gone c.detach_each.new.gone c.detach_each-2.new.gone
    c.as_slices.result.0.now c.as_slices.result.1.now c.in_ok-detach_each.ensures.ok c.in_ok-detach_each-2.ensures.ok)
