-- What a server of several analysts writes on standard output.
-- Source: this project.
use Rattle.std.specs.Prelude.{ℕ, ◌++◌, List, Option, Result, Ok, Err, codes, decimal}
use Rattle.std.specs.Io.KnownBytes.{Keeps, Appends}
use Rattle.hd_terms.specs.declared.Mode.{Mode}
use Rattle.hd_terms.specs.Dump.{Dump}
use Rattle.hd_terms.specs.Objects.{IsDumpOf}
use Rattle.hd_lines.specs.Replies.{with_newline}
use Rattle.hd_board.specs.Opening.{opened_board}
use Rattle.hd_protocol.specs.Serving.{IsOpenFault}
use Rattle.hd_server.specs.Logs.{PrintsBoard}
use Rattle.hd_program.specs.declared.server.ServerFault.{ServerFault}
use Rattle.hd_program.specs.declared.server.ServerFault.TheVariants as server_faults

-- the port that is listened on, as it is told
abbrev pub listening_text : ℕ → List ℕ
listening_text port = with_newline (codes "listening " ++ decimal port)

-- a port is told, and at the end the log with which a board of `analysts` desks over a dump closes
pub record PrintsServer (dump : Dump) (analysts : ℕ) (before after : Option (List ℕ)) : Type 0 where
  pub port : ℕ
  pub told : Option (List ℕ)
  pub tells : Appends before told (listening_text port)
  pub prints : PrintsBoard (opened_board dump analysts) told after

-- the same, over a dump of the bytes
pub record ServesAnalysts (mode : Mode) (bytes : List ℕ) (analysts : ℕ) (before after : Option (List ℕ)) : Type 0 where
  pub dump : Dump
  pub is_dump : IsDumpOf mode bytes dump
  pub prints : PrintsServer dump analysts before after

-- why a server over a dump ends early: at a fault before the port is told nothing is written
abbrev pub EndsEarly : (before after : Option (List ℕ)) → ServerFault → Type 0
EndsEarly before after (server_faults.Open f) = ⊥
EndsEarly before after server_faults.Listen = Keeps before after
EndsEarly before after server_faults.Write = Unit {0}
EndsEarly before after (server_faults.Serve f) = Unit {0}

-- how a server of `analysts` analysts ends over the bytes of a dump: at a fault before the port is told nothing is written
abbrev pub EndsServer : Mode → (bytes : List ℕ) → (analysts : ℕ) → (before after : Option (List ℕ)) → Result (Unit {0}) ServerFault → Type 0
EndsServer mode bytes analysts before after (Ok done) = ServesAnalysts mode bytes analysts before after
EndsServer mode bytes analysts before after (Err (server_faults.Open f)) = IsOpenFault bytes f × Keeps before after
EndsServer mode bytes analysts before after (Err server_faults.Listen) = Keeps before after
EndsServer mode bytes analysts before after (Err server_faults.Write) = Unit {0}
EndsServer mode bytes analysts before after (Err (server_faults.Serve f)) = Unit {0}
