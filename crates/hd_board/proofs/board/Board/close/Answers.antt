-- The log that the lock gives up is compared with what each desk has seen, and with the board's numbers.
-- The first thing that differs is the fault; where nothing does, the board closes with these desks.
use Rattle.std.proofs.Common.{◌≡◌, ℕ, List, map, drop, inr, subst, sym}
use Rattle.std.specs.List.{All}
use Rattle.hd_terms.specs.declared.Event.{Event}
use Rattle.hd_terms.specs.Schedule.{Board, AreMembers, Closes}
use Rattle.hd_board.specs.Closing.{numbered, IsMismatch, IsMissingDesk}
use Rattle.hd_board.specs.BoardInside.{board_of}
use Rattle.hd_board.specs.Replicas.{Replica}
use Rattle.hd_board.proofs.Closings.{is_ours, desk_differs, no_mismatch, no_desk, closes}
use Rattle.hd_board.proofs.board.Board.close.Goals as goal
use Rattle.hd_board.proofs.board.Board.close.Goals.{then-not-all_find-via-then-not-all_find, then-not-all_find-via-else-not-all_find+then-not-are_members}

pub returns-then-not-all_find-clause-err : goal.returns-then-not-all_find-clause-err
returns-then-not-all_find-clause-err c =
    let board : Board = board_of c.self.inside in
    let is : board ≡ c.args.self = c.self.view_is in
    let log : List Event = c.into_inner-log.result in
    let desks : List Replica = c.args.desks.now in
    let found : IsMismatch board log (map numbered desks) = elim c.then-not-all_find.branch [
      | then-not-all_find-via-then-not-all_find w ↦ desk_differs board log desks w.if-not-all_find.ensures
      | then-not-all_find-via-else-not-all_find+then-not-are_members w ↦ inr (λ ours.
          absurd (cc (
            w.are_members.ensures.members.1
                (subst (λ (n : ℕ). All (is_ours board.numbers) (drop n log)) (sym w.len.ensures.len) ours),
            w.if-not-are_members.true,
          )))
    ] in
    subst (λ (b : Board). IsMismatch b log (map numbered desks)) is found

pub returns-then-not-has_all-clause-err : goal.returns-then-not-has_all-clause-err
returns-then-not-has_all-clause-err c =
    let board : Board = board_of c.self.inside in
    let is : board ≡ c.args.self = c.self.view_is in
    let log : List Event = c.into_inner-log.result in
    let desks : List Replica = c.args.desks.now in
    let ours : AreMembers board log = subst (λ (n : ℕ). All (is_ours board.numbers) (drop n log)) c.len.ensures.len
    (c.are_members.ensures.members.0 c.if-not-are_members.false) in
    subst (λ (b : Board). (IsMismatch b log (map numbered desks) → ⊥) × IsMissingDesk b (map numbered desks)) is
    (no_mismatch board log desks c.if-not-all_find.ensures ours, no_desk board desks c.if-not-has_all.ensures)

pub returns-clause-ok : goal.returns-clause-ok
returns-clause-ok c =
    let board : Board = board_of c.self.inside in
    let is : board ≡ c.args.self = c.self.view_is in
    let log : List Event = c.into_inner-log.result in
    let desks : List Replica = c.args.desks.now in
    let ours : AreMembers board log = subst (λ (n : ℕ). All (is_ours board.numbers) (drop n log)) c.len.ensures.len
    (c.are_members.ensures.members.0 c.if-not-are_members.false) in
    subst (λ (b : Board). Closes b log (map numbered desks)) is (closes board log desks c.if-not-all_find.ensures ours c.if-not-has_all.ensures)
