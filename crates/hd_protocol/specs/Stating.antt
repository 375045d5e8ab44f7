-- What `stat` over the bytes of a dump does.
-- Source: this project.
use Rattle.std.specs.Prelude.{◌≡◌, ◌⊎◌, ℕ, List, take, Option, Result, Ok, Err}
use Rattle.std.specs.Io.KnownBytes.{Keeps, Appends}
use Rattle.hd_terms.specs.declared.errors.Cause.TheVariants.{OutOfMemory}
use Rattle.hd_terms.specs.declared.Mode.{Mode}
use Rattle.hd_terms.specs.Dump.{Dump}
use Rattle.hd_terms.specs.Objects.{IsNamelessDumpOf}
use Rattle.hd_terms.specs.ReadFaults.{fault, IsReadFault}
use Rattle.hd_lines.specs.Stat as stat
use Rattle.hd_totals.specs.declared.total.Total.{Total}
use Rattle.hd_protocol.specs.declared.run.RunFault.{RunFault}
use Rattle.hd_protocol.specs.declared.run.RunFault.TheVariants as faults
use Rattle.hd_protocol.specs.declared.serving.ServeFault.TheVariants as serve_faults

-- a total as it is shown
abbrev pub shown_total : Total → stat.Total
shown_total t = record { count = t.count; bytes = t.bytes }

-- the text of `stat` over the dump of these bytes
pub record IsStatOf (mode : Mode) (bytes text : List ℕ) : Type 0 where
  pub dump : Dump
  pub is_dump : IsNamelessDumpOf mode bytes dump
  pub is_stat : stat.IsStat dump text

-- how it ends: the whole text is written, or a beginning of it at a fault of the writer; or the dump has this fault, or
-- memory ran out, and nothing is written
abbrev pub StatsDump : Mode → (bytes : List ℕ) → (before after : Option (List ℕ)) → Result (Unit {0}) RunFault → Type 0
StatsDump mode bytes before after (Ok done) = (text : List ℕ) × IsStatOf mode bytes text × Appends before after text
StatsDump mode bytes before after (Err (faults.Dump f)) = ((f ≡ fault OutOfMemory 0) ⊎ IsReadFault bytes f) × Keeps before after
StatsDump mode bytes before after (Err faults.Memory) = Keeps before after
StatsDump mode bytes before after (Err (faults.Serve serve_faults.Read)) = ⊥
StatsDump mode bytes before after (Err (faults.Serve serve_faults.Write)) = (text : List ℕ) × IsStatOf mode bytes text × (k : ℕ)
    × Appends before after (take k text)
StatsDump mode bytes before after (Err (faults.Serve serve_faults.OutOfMemory)) = ⊥
StatsDump mode bytes before after (Err faults.Close) = ⊥
