-- A session goes on by a line that is answered.
use Rattle.std.proofs.Common.{◌≡◌, ℕ, false, List, [], ◌∷◌, ◌++◌, Option, None, Some, refl, sym, subst}
use Rattle.std.proofs.Math.Logic.{∥∥₁_map}
use Rattle.std.specs.Prelude.{MatchOption}
use Rattle.hd_terms.specs.Schedule.{Board}
use Rattle.hd_lines.specs.Lines.{command_of, last_word}
use Rattle.hd_lines.specs.Memory.{beginning}
use Rattle.hd_lines.specs.Sessions.{Analyst}
use Rattle.hd_board.specs.Replicas.{Replica}
use Rattle.hd_analyst.specs.Answering.{IsAnswered}
use Rattle.hd_analyst.specs.Work.{Work, work_begun}
use Rattle.hd_protocol.specs.Steps.{IsAnsweredSoFar}
use Rattle.hd_protocol.proofs.ServedLines.{answered_same}
use Rattle.hd_protocol.proofs.Turns.{answered_none, answered_push}
use Rattle.hd_web.specs.Seats.{HasSession}

-- a session that begins has no turn yet
pub begun : (board : Board) (desk : Replica) → HasSession (work_begun board false desk)
begun board desk =
    let work = work_begun board false desk in (desk.seen, desk.front, [], [], answered_none work.analyst work.memory)

-- one more line is answered
pub goes_on : (old new : Work) (line reply : List ℕ) → IsAnswered old new (last_word line) (command_of line) reply → HasSession old → HasSession new
goes_on old new line reply h (seen, front, lines, written, so_far) = (
  seen,
  front,
  lines ++ line ∷ [],
  written ++ reply,
  subst (λ (a : Analyst). IsAnsweredSoFar a (beginning false seen front) (lines ++ line ∷ []) (written ++ reply) new.memory)
      (sym (answered_same old new (last_word line) (command_of line) reply h))
      (answered_push old.analyst (beginning false seen front) lines written old new line reply refl so_far h),
)

-- the same by a long reply, or else a short one
pub goes_on_by : {X : Type 0} (text : X → List ℕ) (old new : Work) (line short : List ℕ) (long : Option X)
    → MatchOption long (IsAnswered old new (last_word line) (command_of line) short) (λ x. IsAnswered old new (last_word line) (command_of line) (text x))
    → ∥ HasSession old ∥₁ → ∥ HasSession new ∥₁
goes_on_by text old new line short None h session = ∥∥₁_map session (goes_on old new line short h)
goes_on_by text old new line short (Some x) h session = ∥∥₁_map session (goes_on old new line (text x) h)
