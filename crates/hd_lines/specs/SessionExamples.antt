-- The worked examples of sessions in docs/DEFINITIONS.md as data: the turns of analysts over two arrays.
-- Source: this project.
use Rattle.std.specs.Prelude.{ℕ, false, List, [], ◌∷◌, ◌++◌, take, codes}
use Rattle.hd_terms.specs.declared.Event.{Event}
use Rattle.hd_lines.specs.Memory.{Memory, beginning, at_log, gone_private}
use Rattle.hd_lines.specs.Sessions.{Analyst, Turn}
use Rattle.hd_terms.specs.Examples.{two_arrays, two_cuts_of_one_slot, cut_and_undo}

-- the analyst of a number at a board over the two arrays
abbrev pub at_two_arrays : ℕ → Analyst
at_two_arrays who = record { dump = two_arrays; who = who; roots = 1 }

-- a turn: its line, what is remembered before it, the log found, what is remembered after it, and one line of reply
abbrev pub turn_over : List ℕ → (before : Memory) → (found : List Event) → (after : Memory) → List ℕ → Turn
turn_over line before found after reply = record { line = line; before = before; found = found; after = after; reply = reply ++ 10 ∷ [] }

-- the same of a session from its beginning, by the logs before and after it
abbrev pub turn : List ℕ → (before found after : List Event) → List ℕ → Turn
turn line before found after reply = turn_over line (at_log (beginning false [] []) before) found (at_log (beginning false [] []) after) reply

-- the same answered `ok 1` and a line
abbrev pub turn_done : List ℕ → (before found after : List Event) → List ℕ → Turn
turn_done line before found after reply = turn line before found after (codes "ok 1" ++ 10 ∷ reply)

-- the first `n` events of `two_cuts_of_one_slot`
abbrev pub first_cuts : ℕ → List Event
first_cuts n = take n two_cuts_of_one_slot

-- the analyst 0 cuts, tries to take back the cut of the other, which came meanwhile, and takes back the own one
abbrev pub turns_of_the_first : List Turn
turns_of_the_first =
    turn_done (codes "cut 0x1 e0") [] [] (first_cuts 1) (codes "event 0 fell 1 back 0")
    ∷ turn (codes "undo 1") (first_cuts 2) (first_cuts 2) (first_cuts 2) (codes "no NotYours")
    ∷ turn_done (codes "undo 0") (first_cuts 2) (first_cuts 2) (first_cuts 3) (codes "event 2 fell 0 back 0")
    ∷ []

-- the analyst 1 cuts where the other's cut came meanwhile, and takes that back where the other has taken back the own one
abbrev pub turns_of_the_second : List Turn
turns_of_the_second =
    turn_done (codes "cut 0x1 e0") [] (first_cuts 1) (first_cuts 2) (codes "event 1 fell 0 back 0")
    ∷ turn_done (codes "undo 1") (first_cuts 3) (first_cuts 3) (first_cuts 4) (codes "event 3 fell 0 back 1")
    ∷ []

-- a line that finds no memory
abbrev pub turn_without_memory : Turn
turn_without_memory = turn (codes "slots 0x1") [] [] [] (codes "no OutOfMemory")

-- the analyst 0 cuts, but the desk doesn't come to that; then it still doesn't, and a query isn't run
abbrev pub turns_behind : List Turn
turns_behind =
    turn (codes "cut 0x1 e0") [] [] (first_cuts 1) (codes "no Accepted 0")
    ∷ turn (codes "strength 0x2") (first_cuts 1) (first_cuts 1) (first_cuts 1) (codes "no Behind")
    ∷ turn (codes "quit") (first_cuts 1) (first_cuts 1) (first_cuts 1) (codes "ok 0")
    ∷ []

-- what is remembered over the first `n` events of `cut_and_undo`, before a private part and after it
abbrev pub at_cut : ℕ → Memory
at_cut n = at_log (beginning false [] []) (take n cut_and_undo)

-- the same in a private part that began after the first event
abbrev pub in_private : ℕ → Memory
in_private n = at_log (gone_private (at_cut 1)) (take n cut_and_undo)

-- a turn that adds no event is decided on the log that is remembered
abbrev pub turn_between : List ℕ → (before after : Memory) → List ℕ → Turn
turn_between line before after reply = turn_over line before before.log after reply

-- the analyst 0 cuts, and takes the cut back in a private part, which leaves the log as it was
abbrev pub turns_of_a_private_part : List Turn
turns_of_a_private_part =
    turn_between (codes "cut 0x1 e0") (at_cut 0) (at_cut 1) (codes "ok 1" ++ 10 ∷ codes "event 0 fell 1 back 0")
    ∷ turn_between (codes "private") (at_cut 1) (in_private 1) (codes "ok 1" ++ 10 ∷ codes "private 1")
    ∷ turn_between (codes "private") (in_private 1) (in_private 1) (codes "no AlreadyPrivate")
    ∷ turn_between (codes "undo") (in_private 1) (in_private 2) (codes "ok 1" ++ 10 ∷ codes "event 1 fell 0 back 1")
    ∷ turn_between (codes "back") (in_private 2) (at_cut 1) (codes "ok 1" ++ 10 ∷ codes "back 1")
    ∷ turn_between (codes "back") (at_cut 1) (at_cut 1) (codes "no NotPrivate")
    ∷ []
