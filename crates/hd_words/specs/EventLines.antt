-- The line of an event, by what is known of it.
-- Source: this project's protocol (docs/PROTOCOL.md).
use Rattle.std.specs.Prelude.{ℕ, List, ◌++◌, ◌∷◌, decimal}
use Rattle.hd_lines.specs.Replies.{what_text}
use Rattle.hd_words.specs.declared.event_lines.EventRow.{EventRow}

abbrev pub event_line : EventRow → List ℕ
event_line row = decimal row.number ++ 32 ∷ decimal row.event.who ++ 32 ∷ what_text row.live row.event.what
