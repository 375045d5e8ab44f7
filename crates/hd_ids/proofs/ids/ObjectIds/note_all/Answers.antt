use Rattle.std.proofs.Common.{◌≡◌, ◌++◌, true, get_or, take, arith}
use Rattle.hd_ids.specs.Noted.{is_noted}
use Rattle.hd_ids.proofs.FollowLemmas.{not-apart, was-there}
use Rattle.hd_ids.proofs.ids.ObjectIds.note_all.Goals as goal

pub returns-then-not-branch-clause-apart : goal.returns-then-not-branch-clause-apart
returns-then-not-branch-clause-apart c =
    let i = c.loop-number.number in
    let front = c.args.self.now in
    let back = c.args.back.now in
    let there : is_noted (front ++ take i back) (get_or back i 0) ≡ true = rw (← c.loop-number.invariant.0, ← c.get.ensures)
    (was-there (is_noted c.loop-number.self c.get.result) _ c.in_ok-note.ensures.is_new c.if-not-branch.true) in
    not-apart front back c.len-number-end.ensures.distinct i (omega arith) there
