-- What a view shows: a dump under a log, and how many looks were made.
-- Source: this project.
use Rattle.std.specs.Prelude.{ℕ, List}
use Rattle.hd_terms.specs.declared.Event.{Event}
use Rattle.hd_terms.specs.Dump.{Dump}

-- a dump, a log, and how many looks were made
pub record Viewed : Type 0 where
  pub dump : Dump
  pub log : List Event
  pub looks : ℕ
