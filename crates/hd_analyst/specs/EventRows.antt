-- The events of a log as they are shown.
-- Source: this project.
use Rattle.std.specs.Prelude.{ℕ, List, map}
use Rattle.std.specs.List.{enumerate_from}
use Rattle.hd_terms.specs.declared.Event.{Event}
use Rattle.hd_terms.specs.Log.{is_live}
use Rattle.hd_words.specs.declared.event_lines.EventRow.{EventRow}

-- an event of a log, by its number
abbrev pub event_row : List Event → ℕ × Event → EventRow
event_row log (k, event) = record { number = k; event = event; live = is_live log (k, event) }

-- all events of a log
abbrev pub event_rows : List Event → List EventRow
event_rows log = map (event_row log) (enumerate_from 0 log)
