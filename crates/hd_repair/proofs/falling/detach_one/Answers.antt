use Rattle.std.proofs.Common.{◌∙◌, ◌++◌, ◌∷◌, [], ap, arith}
use Rattle.hd_terms.specs.Ranks.{rank}
use Rattle.hd_repair.proofs.FallLemmas.{not_detached, one_detached}
use Rattle.hd_repair.proofs.falling.detach_one.Goals as goal

pub returns-then-rank-eq0-clause-ok : goal.returns-then-rank-eq0-clause-ok
returns-then-rank-eq0-clause-ok c =
    not_detached c.args.kept.now c.args.gone.now c.args.o (omega (arith, c.if-rank-eq0.true, c.rank.ensures, ap rank c.strength-strength.ensures))

pub returns-clause-ok : goal.returns-clause-ok
returns-clause-ok c =
    one_detached c.args.kept.now c.put.new.self c.args.gone.now _ c.args.o
    (omega (arith, c.if-rank-eq0.false, c.rank.ensures, ap rank c.strength-strength.ensures)) c.in_ok-push.ensures.items
    (c.in_ok-push-2.ensures.items ∙ ap (λ s. c.args.gone.now.strengths.items ++ s ∷ []) c.strength-strength.ensures) c.put.ensures.count
    (c.in_ok-put.ensures.here ∙ ap (λ n. record { strength = _; support = _; stamp = n }) c.stamp-stamp.ensures.stamp) c.in_ok-put.ensures.others
