-- What a line that spells something is answered.
-- Source: this project.
use Rattle.std.specs.Prelude.{◌≡◌, ℕ, List, Result}
use Rattle.hd_terms.specs.declared.Event.{Event}
use Rattle.hd_lines.specs.declared.commands.Command.{Command}
use Rattle.hd_lines.specs.declared.commands.LineFault.{LineFault}
use Rattle.hd_lines.specs.Lines.{command_of, last_word}
use Rattle.hd_terms.specs.Log.{IsLawful}
use Rattle.hd_lines.specs.Memory.{Memory}
use Rattle.hd_lines.specs.Sessions.{Turn, IsLater, IsTurn}
use Rattle.hd_analyst.specs.Marking.{Refreshes}
use Rattle.hd_analyst.specs.Work.{Work}

-- the turn of a line
abbrev pub turn_of : (line : List ℕ) → (before : Memory) → (found : List Event) → (after : Memory) → (reply : List ℕ) → Turn
turn_of line before found after reply = record { line = line; before = before; found = found; after = after; reply = reply }

-- a line that spells this, and has this last word, is run: it has this reply, a later log may be found as it is run, and this is
-- remembered then
pub record IsRun (old new : Work) (text : List ℕ) (reading : Result Command LineFault) (reply : List ℕ) : Type 0 where
  pub same_analyst : new.analyst ≡ old.analyst
  pub found : List Event
  pub later : IsLawful old.memory.log → IsLater old.analyst.who old.memory.log found
  pub is_turn : (line : List ℕ) → command_of line ≡ reading → last_word line ≡ text → IsTurn old.analyst (turn_of line old.memory found new.memory reply)

-- a line that spells this, and has this last word, is answered: a later log may have been seen before it is run
pub record IsAnswered (old new : Work) (text : List ℕ) (reading : Result Command LineFault) (reply : List ℕ) : Type 0 where
  pub between : Work
  pub refreshes : Refreshes old between
  pub run : IsRun between new text reading reply
