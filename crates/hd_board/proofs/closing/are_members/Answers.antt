use Rattle.std.proofs.Common.{◌≤◌, length, arith, refl}
use Rattle.hd_terms.specs.Schedule.{numbers_from}
use Rattle.hd_board.proofs.Closings.{ours_there, all_ours}
use Rattle.hd_board.proofs.closing.are_members.Goals as goal

pub returns-then-not-is_member-clause-members : goal.returns-then-not-is_member-clause-members
returns-then-not-is_member-clause-members c =
    let numbers = numbers_from c.args.first c.args.count in (
      λ yes. absurd (cc (yes)),
      λ all. absurd (cc (
        c.is_member.ensures.1
            (ours_there numbers c.args.log.now c.args.from c.loop-i.i c.event.result (omega arith) (omega arith) c.event.ensures all),
        c.if-not-is_member.true,
      )),
    )

pub returns-clause-members : goal.returns-clause-members
returns-clause-members c =
    let end : length c.args.log.now ≤ c.loop-i.i = omega arith in
    (λ _. all_ours (numbers_from c.args.first c.args.count) c.args.log.now c.args.from c.loop-i.i end c.loop-i.invariant, λ _. refl)
