-- What serving keeps between two bytes and at the end of each line: the loops' invariants.
-- Source: this project.
use Rattle.std.specs.Prelude.{◌≡◌, ℕ, Bool, true, false, List, [], ◌∷◌, ◌++◌, take, Option, Result, Ok, Err}
use Rattle.std.specs.List.{AllByRecursion}
use Rattle.std.specs.Io.KnownBytes.{Appends}
use Rattle.hd_lines.specs.Lines.{command_of, last_word, pieces, whole_lines, is_quit}
use Rattle.hd_lines.specs.Memory.{Memory}
use Rattle.hd_lines.specs.Sessions.{Analyst, Turn, IsSessionOver, memory_after, replies}
use Rattle.hd_analyst.specs.Answering.{IsAnswered}
use Rattle.hd_analyst.specs.Work.{Work}
use Rattle.hd_protocol.specs.declared.serving.ServeFault.{ServeFault}
use Rattle.hd_protocol.specs.declared.serving.ServeFault.TheVariants as faults
use Rattle.hd_protocol.specs.declared.serving.Flow.{Flow}
use Rattle.hd_protocol.specs.declared.serving.Flow.TheVariants as flows
use Rattle.hd_protocol.specs.Serving.{ServedFrom, ServedUntilWriteFrom, ServesFrom}

-- the last of the pieces
abbrev pub last_piece : List (List ℕ) → List ℕ
last_piece [] = []
last_piece (piece ∷ []) = piece
last_piece (piece ∷ next ∷ rest) = last_piece (next ∷ rest)

-- the line that no newline ends yet
abbrev pub open_line : List ℕ → List ℕ
open_line seen = last_piece (pieces seen)

-- as much of a line as is kept
abbrev pub kept_of : List ℕ → List ℕ
kept_of line = take 4097 line

-- these lines were answered so, from what is remembered at first, and this is remembered then
pub record IsAnsweredSoFar (a : Analyst) (first : Memory) (lines : List (List ℕ)) (written : List ℕ) (memory : Memory) : Type 0 where
  pub turns : List Turn
  pub session : IsSessionOver a first lines turns
  pub written_is : written ≡ replies turns
  pub memory_is : memory ≡ memory_after first turns

-- the lines that don't end a session
abbrev pub NoneQuits : List (List ℕ) → Type 0
NoneQuits lines = AllByRecursion (λ line. is_quit line ≡ false) lines

-- what is known between two bytes: what is worked on, and what is kept of the open line
pub record Midway : Type 0 where
  pub work : Work
  pub kept : List ℕ

abbrev pub midway : Work → List ℕ → Midway
midway work kept = record { work = work; kept = kept }

-- the whole lines of what was read are answered, none of them is `quit`, and the open line is kept
pub record IsOpen (a : Analyst) (first : Memory) (seen : List ℕ) (m : Midway) (written : List ℕ) : Type 0 where
  pub same_analyst : m.work.analyst ≡ a
  pub so_far : IsAnsweredSoFar a first (whole_lines seen) written m.work.memory
  pub none_quits : NoneQuits (whole_lines seen)
  pub kept_is : m.kept ≡ kept_of (open_line seen)

-- how it stands once these bytes were read and those written: open, ended by `quit`, or by a fault of the writer
abbrev pub Stands : Analyst → (first : Memory) → (seen : List ℕ) → Midway → (written : List ℕ) → Result Flow ServeFault → Type 0
Stands a first seen m written (Ok flows.GoesOn) = IsOpen a first seen m written
Stands a first seen m written (Ok flows.Quits) = (rest : List ℕ) → ServedFrom a first m.work.memory (seen ++ rest) written
Stands a first seen m written (Err faults.Read) = ⊥
Stands a first seen m written (Err faults.Write) = (rest : List ℕ) → ServedUntilWriteFrom a first m.work.memory (seen ++ rest) written
Stands a first seen m written (Err faults.OutOfMemory) = ⊥

-- bytes are run: from how it stood before them to how it stands after them
abbrev pub RunsBytes : (bytes : List ℕ) → (m m' : Midway) → (before after : Option (List ℕ)) → Result Flow ServeFault → Type 0
RunsBytes bytes m m' before after result =
    (m'.work.analyst ≡ m.work.analyst)
    × ((a : Analyst) (first : Memory) (seen written : List ℕ) → IsOpen a first seen m written
    → (more : List ℕ) × Appends before after more × Stands a first (seen ++ bytes) m' (written ++ more) result)

-- how a line that has this reply ends: the whole reply is written, or a beginning of it at a fault of the writer
abbrev pub EndsLine : (line reply : List ℕ) → (before after : Option (List ℕ)) → Result Flow ServeFault → Type 0
EndsLine line reply before after (Ok flows.GoesOn) = Appends before after reply × (is_quit line ≡ false)
EndsLine line reply before after (Ok flows.Quits) = Appends before after reply × (is_quit line ≡ true)
EndsLine line reply before after (Err faults.Read) = ⊥
EndsLine line reply before after (Err faults.Write) = (k : ℕ) × Appends before after (take k reply)
EndsLine line reply before after (Err faults.OutOfMemory) = ⊥

-- a line is run
pub record RunsLine (old new : Work) (line : List ℕ) (before after : Option (List ℕ)) (result : Result Flow ServeFault) : Type 0 where
  pub reply : List ℕ
  pub answered : IsAnswered old new (last_word line) (command_of line) reply
  pub ends : EndsLine line reply before after result

-- how it stands at the end of the input
abbrev pub StandsAtEnd : Analyst → (first last : Memory) → (seen written : List ℕ) → Result Unit ServeFault → Type 0
StandsAtEnd a first last seen written (Ok done) = ServedFrom a first last seen written
StandsAtEnd a first last seen written (Err faults.Read) = ⊥
StandsAtEnd a first last seen written (Err faults.Write) = ServedUntilWriteFrom a first last seen written
StandsAtEnd a first last seen written (Err faults.OutOfMemory) = ⊥

-- what is open at the end of the input is run
abbrev pub RunsEnd : Midway → (new : Work) → (before after : Option (List ℕ)) → Result Unit ServeFault → Type 0
RunsEnd m new before after result =
    (new.analyst ≡ m.work.analyst)
    × ((a : Analyst) (first : Memory) (seen written : List ℕ) → IsOpen a first seen m written
    → (more : List ℕ) × Appends before after more × StandsAtEnd a first new.memory seen (written ++ more) result)

-- lines were served: the analyst is the same, and the session went on from what was remembered to what is
pub record RunsInput (old new : Work) (input rest before after : Option (List ℕ)) (result : Result Unit ServeFault) : Type 0 where
  pub same_analyst : new.analyst ≡ old.analyst
  pub serves : ServesFrom old.analyst old.memory new.memory input rest before after result
