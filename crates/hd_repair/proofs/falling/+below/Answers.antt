use Rattle.std.proofs.Common.{[], rules}
use Rattle.std.proofs.lemmas.Result.{IfOk-at_ok}
use Rattle.hd_repair.specs.Falling.{FindsBelow}
use Rattle.hd_repair.proofs.FallLemmas.{joined_below}
use Rattle.hd_repair.proofs.falling.+below.Goals as goal

pub returns-clause-below : goal.returns-clause-below
returns-clause-below g t c =
    let r = g.E.Edges.rows c.args.edges.now in
    let ks = c.args.kept.now in
    joined_below r ks c.split_at.result.0.now c.split_at.result.1.now c.args.objects.now _ _ _ (search rules) c.in_ok-all-2.ensures.objects
    (IfOk-at_ok (λ b. FindsBelow r ks c.split_at.result.0.now [] b.objects.items) c.in_ok-first.was c.join-first.ensures.first.1)
    (IfOk-at_ok (λ b. FindsBelow r ks c.split_at.result.1.now [] b.objects.items) c.in_ok-rest.was c.join-first.ensures.second.1)
