-- What a server prints when its connections have ended.
-- Source: this project.
use Rattle.std.specs.Prelude.{ℕ, List, Option}
use Rattle.std.specs.List.{flat_map}
use Rattle.std.specs.Io.KnownBytes.{Appends}
use Rattle.hd_terms.specs.declared.Event.{Event}
use Rattle.hd_lines.specs.Replies.{log_lines, with_newline}
use Rattle.hd_terms.specs.Log.{IsLawful}
use Rattle.hd_terms.specs.Schedule.{Board, Closes}

-- the lines of a log are printed, each with its newline: a lawful log, with which a board closes with these desks, of each its
-- number and what it has seen at the end
pub record PrintsLog (board : Board) (desks : List (ℕ × List Event)) (before after : Option (List ℕ)) : Type 0 where
  pub log : List Event
  pub lawful : IsLawful log
  pub closes : Closes board log desks
  pub appends : Appends before after (flat_map with_newline (log_lines log))

-- the same, whatever the desks are
abbrev pub PrintsBoard : Board → (before after : Option (List ℕ)) → Type 0
PrintsBoard board before after = (desks : List (ℕ × List Event)) × PrintsLog board desks before after
