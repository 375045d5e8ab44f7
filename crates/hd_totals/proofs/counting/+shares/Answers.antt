use Rattle.std.proofs.Common.{arith}
use Rattle.hd_totals.specs.Counting.{totals_of}
use Rattle.hd_totals.specs.Running.{strength_in}
use Rattle.hd_totals.proofs.CountingLemmas.{counts-fit, bytes-fit, both-shares}
use Rattle.hd_totals.proofs.counting.+shares.Goals as goal

pub join_shares-requires-clause-counts : goal.join_shares-requires-clause-counts
join_shares-requires-clause-counts g t c =
    let first = rw c.in_ok-one.was at c.join-one.ensures.first in
    let second = rw c.in_ok-other.was at c.join-one.ensures.second in
    counts-fit c.args.graph.now (strength_in c.args.supports.now) _ _ _ (totals_of c.in_ok-one.field-0.counted)
    (totals_of c.in_ok-other.field-0.counted) first.counted second.counted (omega arith)

pub join_shares-requires-clause-bytes : goal.join_shares-requires-clause-bytes
join_shares-requires-clause-bytes g t c =
    let first = rw c.in_ok-one.was at c.join-one.ensures.first in
    let second = rw c.in_ok-other.was at c.join-one.ensures.second in
    bytes-fit c.args.graph.now (strength_in c.args.supports.now) _ _ _ (totals_of c.in_ok-one.field-0.counted)
    (totals_of c.in_ok-other.field-0.counted) first.counted second.counted (omega arith)

pub returns : goal.returns
returns g t c =
    let first = rw c.in_ok-one.was at c.join-one.ensures.first in
    let second = rw c.in_ok-other.was at c.join-one.ensures.second in
    both-shares c.args.graph.now c.args.supports.now _ _ _ c.in_ok-one.field-0 c.in_ok-other.field-0 first second c.in_ok-both.both
    c.requires.page c.first_end-middle.ensures.page (omega arith)
    (omega arith) c.in_ok-both.ensures.marks c.in_ok-both.ensures.joined c.in_ok-both.ensures.pages
