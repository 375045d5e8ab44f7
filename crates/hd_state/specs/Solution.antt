-- A dump under a log, solved.
-- Source: this project.
use Rattle.std.specs.Prelude.{List}
use Rattle.hd_terms.specs.declared.Event.{Event}
use Rattle.hd_terms.specs.Dump.{Dump}
use Rattle.hd_terms.specs.Settled.{Reached}

-- the dump, the events so far, and what is kept of each object: its strength, its support and its stamp
pub record Solution : Type 0 where
  pub dump : Dump
  pub log : List Event
  pub kept : List Reached
