-- A dump under a log.
-- Source: this project.
use Rattle.std.specs.Prelude.{List}
use Rattle.hd_terms.specs.declared.Event.{Event}
use Rattle.hd_terms.specs.Dump.{Dump}

-- the dump, and the events so far
pub record Situation : Type 0 where
  pub dump : Dump
  pub log : List Event
