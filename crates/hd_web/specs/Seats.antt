-- What holds of a seat.
-- Source: this project.
use Rattle.std.specs.Prelude.{ℕ, List, false}
use Rattle.hd_terms.specs.declared.Event.{Event}
use Rattle.hd_lines.specs.Memory.{beginning}
use Rattle.hd_analyst.specs.Work.{Work}
use Rattle.hd_protocol.specs.Steps.{IsAnsweredSoFar}

-- a session came so far: some lines were answered, from what a session of the desk remembers at first to what is remembered now.
-- It began without names, where the desk had seen a log and its state had come to one
abbrev pub HasSession : Work → Type 0
HasSession work =
    (seen front : List Event) × (lines : List (List ℕ)) × (written : List ℕ)
    × IsAnsweredSoFar work.analyst (beginning false seen front) lines written work.memory
