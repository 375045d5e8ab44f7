use Rattle.std.proofs.Common.{◌≡◌, List, subst}
use Rattle.std.specs.Prelude.{IfErr}
use Rattle.std.proofs.lemmas.Result.{IfErr-weaker}
use Rattle.hd_terms.specs.declared.Event.{Event}
use Rattle.hd_terms.specs.Schedule.{Board}
use Rattle.hd_board.specs.Appends.{RefusesAppend}
use Rattle.hd_board.specs.BoardInside.{board_of}
use Rattle.hd_board.proofs.board.Board.append.Goals as goal

pub returns-clause-err : goal.returns-clause-err
returns-clause-err g c =
    let board : Board = board_of c.self.inside in
    let is : board ≡ c.args.self.now = c.self.view_is in
    let seen : List Event = c.args.seen.now in
    let log : List Event = c.deref_mut.result.now in
    let event : Event = c.args.event in
    subst (λ (b : Board). IfErr c.append_to.result (λ fault. (x : List Event) × RefusesAppend b.roots b.numbers seen x event fault)) is
    (IfErr-weaker c.append_to.result _ _ (λ fault h. (log, h.0)) c.append_to.ensures.err)
