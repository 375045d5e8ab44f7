-- The line of a message.
-- Source: this project's protocol (docs/PROTOCOL.md).
use Rattle.std.specs.Prelude.{ℕ, Bool, ◌&&◌, ◌==◌, nat_le, if◌then◌else◌, List, length, codes}
use Rattle.std.specs.List.{list_any}
use Rattle.std.specs.Io.BufRead.{strip_last}

-- a newline cuts a text that isn't too long for a line
abbrev pub is_cut : List ℕ → Bool
is_cut text = nat_le (length text) 4096 && list_any (λ byte. byte == 10) text

-- a line with an argument that no command has
abbrev pub bad_line : List ℕ
bad_line = codes "quit now"

-- the line that a text message is: without a newline at its end. One that a newline cuts in two stands for a line with a bad
-- argument
abbrev pub line_of : List ℕ → List ℕ
line_of text = if is_cut (strip_last 10 text) then bad_line else strip_last 10 text
