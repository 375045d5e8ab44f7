use Rattle.std.proofs.Common.{sym, subst}
use Rattle.std.proofs.lemmas.Grind.{merely}
use Rattle.hd_analyst.specs.Work.{Work}
use Rattle.hd_web.specs.Seats.{HasSession}
use Rattle.hd_web.proofs.SessionLemmas.{begun}
use Rattle.hd_web.proofs.seat.Seat.begin.Goals as goal

pub invariant_of-result : goal.invariant_of-result
invariant_of-result c = record {
  session = subst (λ (work : Work). ∥ HasSession work ∥₁) (sym c.begin.ensures) (merely (begun c.args.board.now c.args.desk));
}
