-- What is kept of the objects of a dump under a log.
-- Source: this project.
use Rattle.std.specs.Prelude.{◌≡◌, List, length}
use Rattle.hd_terms.specs.declared.Event.{Event}
use Rattle.hd_terms.specs.Dump.{Dump}
use Rattle.hd_terms.specs.EditedDump.{standing}
use Rattle.hd_terms.specs.Settled.{Reached, Settled}

-- something is kept of each object, and all of it is settled for what stands under the log
pub record AreKept (dump : Dump) (log : List Event) (ks : List Reached) : Type 0 where
  pub count : length ks ≡ length dump.objects
  pub settled : Settled (standing dump log) ks
