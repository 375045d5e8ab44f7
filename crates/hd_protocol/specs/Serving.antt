-- What `serve` and `run_bytes` promise.
-- Source: this project. What is used stands first, so read it from the end: `RunsDump` is how `run_bytes` ends, and `Serves` how
-- `serve` does. Both come to `ServesFrom`: how serving a reader's lines ends, from what a session remembers at first to what it
-- remembers at last. Which turns a session may have, and what each is answered, `IsSession` and `IsReply` of `hd_lines` say.
use Rattle.std.specs.Prelude.{◌≡◌, ◌⊎◌, ℕ, Bool, List, [], Option, Some, Result, Ok, Err, IfSome}
use Rattle.std.specs.Io.KnownBytes.{Keeps, Appends}
use Rattle.hd_terms.specs.declared.errors.Cause.TheVariants.{OutOfMemory}
use Rattle.hd_terms.specs.declared.Mode.{Mode}
use Rattle.hd_terms.specs.Dump.{Dump}
use Rattle.hd_terms.specs.Objects.{IsDumpOf}
use Rattle.hd_terms.specs.ReadFaults.{fault, IsReadFault}
use Rattle.hd_terms.specs.Schedule.{Board}
use Rattle.hd_lines.specs.Memory.{Memory, beginning, board_log}
use Rattle.hd_lines.specs.Sessions.{Analyst, Turn, IsServed, IsServedBy, IsServedUntilReadBy, IsServedUntilWriteBy, IsSessionOver, lone_analyst, memory_after}
use Rattle.hd_board.specs.Replicas.{Replica}
use Rattle.hd_analyst.specs.Work.{analyst_at}
use Rattle.hd_protocol.specs.declared.run.RunFault.{RunFault}
use Rattle.hd_protocol.specs.declared.run.RunFault.TheVariants as faults
use Rattle.hd_protocol.specs.declared.serving.ServeFault.{ServeFault}
use Rattle.hd_protocol.specs.declared.serving.ServeFault.TheVariants as serve_faults

-- the whole input was served: this is written, and this is remembered then
abbrev pub ServedFrom : Analyst → (first last : Memory) → (input written : List ℕ) → Type 0
ServedFrom a first last input written = (turns : List Turn) × IsServedBy (IsSessionOver a first) turns input written × (last ≡ memory_after first turns)

-- the same where the input could be read no further
abbrev pub ServedUntilReadFrom : Analyst → (first last : Memory) → (input rest written : List ℕ) → Type 0
ServedUntilReadFrom a first last input rest written =
    (turns : List Turn) × IsServedUntilReadBy (IsSessionOver a first) turns input rest written × (last ≡ memory_after first turns)

-- and where the output could be written no further
abbrev pub ServedUntilWriteFrom : Analyst → (first last : Memory) → (input written : List ℕ) → Type 0
ServedUntilWriteFrom a first last input written =
    (turns : List Turn) × IsServedUntilWriteBy (IsSessionOver a first) turns input written × (last ≡ memory_after first turns)

-- of some bytes, which are those of the stream where it tells them
abbrev pub OfBytes : Option (List ℕ) → (List ℕ → Type 0) → Type 0
OfBytes told P = (bytes : List ℕ) × IfSome told (λ all. all ≡ bytes) × P bytes

-- all of the input was served, and the replies were written
abbrev pub ServesAll : Analyst → (first last : Memory) → (input before after : Option (List ℕ)) → Type 0
ServesAll a first last input before after = OfBytes input (λ bytes. (written : List ℕ) × Appends before after written × ServedFrom a first last bytes written)

-- these bytes are left of a stream that tells its bytes
abbrev pub IsLeft : (input rest : Option (List ℕ)) → List ℕ → Type 0
IsLeft input rest left = IfSome input (λ all. rest ≡ Some left)

-- a beginning of the input was read and its whole lines served, and the replies were written
abbrev pub ServesUntilRead : Analyst → (first last : Memory) → (input rest before after : Option (List ℕ)) → Type 0
ServesUntilRead a first last input rest before after =
    OfBytes input (λ bytes. (left : List ℕ) × IsLeft input rest left
    × ((written : List ℕ) × Appends before after written × ServedUntilReadFrom a first last bytes left written))

-- lines of a beginning of the input were served, and a beginning of the replies was written
abbrev pub ServesUntilWrite : Analyst → (first last : Memory) → (input before after : Option (List ℕ)) → Type 0
ServesUntilWrite a first last input before after =
    OfBytes input (λ bytes. (written : List ℕ) × Appends before after written × ServedUntilWriteFrom a first last bytes written)

-- how serving ends, from what is remembered at first to what is remembered at last
abbrev pub ServesFrom : Analyst → (first last : Memory) → (input rest before after : Option (List ℕ)) → Result Unit ServeFault → Type 0
ServesFrom a first last input rest before after (Ok done) = ServesAll a first last input before after
ServesFrom a first last input rest before after (Err serve_faults.Read) = ServesUntilRead a first last input rest before after
ServesFrom a first last input rest before after (Err serve_faults.Write) = ServesUntilWrite a first last input before after
ServesFrom a first last input rest before after (Err serve_faults.OutOfMemory) = (last ≡ first) × Keeps input rest × Keeps before after

-- a session of a desk at a board was served, which began with names or without. The desk has then seen what the session had seen at
-- last of the board's log: that of its last turn, or where it ended in a private part, of the part's home
pub record Serves (board : Board) (names : Bool) (old new : Replica) (input rest before after : Option (List ℕ))
    (result : Result Unit ServeFault) : Type 0 where
  pub last : Memory
  pub served : ServesFrom (analyst_at board old) (beginning names old.seen old.front) last input rest before after result
  pub same_who : new.who ≡ old.who
  pub same_dump : new.dump ≡ old.dump
  pub seen_is : new.seen ≡ board_log last

-- an analyst was served alone over a dump, with names from the beginning or without, to the end of the input or to `quit`
abbrev pub ServesAlone : Dump → (names : Bool) → (input before after : Option (List ℕ)) → Type 0
ServesAlone dump names input before after = OfBytes input (λ bytes. (written : List ℕ) × Appends before after written × IsServed dump names bytes written)

-- the only analyst of a board over a dump was served from the empty log. That nothing came between the turns isn't said
abbrev pub ServesLone : Dump → (names : Bool) → (input rest before after : Option (List ℕ)) → Result (Unit {0}) ServeFault → Type 0
ServesLone dump names input rest before after ended = (last : Memory)
    × ServesFrom (lone_analyst dump) (beginning names [] []) last input rest before after ended

-- how a run over an open dump ends: an analyst was served alone; or memory ran out before anything was read or written; or
-- serving ended early; or it ended well, and the board could not be closed then
abbrev pub RunsOver : Dump → (names : Bool) → (input rest before after : Option (List ℕ)) → Result (Unit {0}) RunFault → Type 0
RunsOver dump names input rest before after (Ok done) = ServesAlone dump names input before after
RunsOver dump names input rest before after (Err (faults.Dump f)) = ⊥
RunsOver dump names input rest before after (Err faults.Memory) = Keeps input rest × Keeps before after
RunsOver dump names input rest before after (Err (faults.Serve f)) = ServesLone dump names input rest before after (Err f)
RunsOver dump names input rest before after (Err faults.Close) = ServesLone dump names input rest before after (Ok tt)

-- why a dump isn't open: it has this fault, or memory ran out
abbrev pub IsOpenFault : (bytes : List ℕ) → RunFault → Type 0
IsOpenFault bytes (faults.Dump f) = (f ≡ fault OutOfMemory 0) ⊎ IsReadFault bytes f
IsOpenFault bytes faults.Memory = Unit {0}
IsOpenFault bytes (faults.Serve f) = ⊥
IsOpenFault bytes faults.Close = ⊥

-- a run over the dump of these bytes
abbrev pub RunsOverDump : Mode → (names : Bool) → (bytes : List ℕ) → (input rest before after : Option (List ℕ)) → Result (Unit {0}) RunFault → Type 0
RunsOverDump mode names bytes input rest before after ended = (dump : Dump) × IsDumpOf mode bytes dump × RunsOver dump names input rest before after ended

-- how a run over bytes ends: as one over their dump; or the dump has this fault, or memory ran out, and nothing was read or
-- written
abbrev pub RunsDump : Mode → (names : Bool) → (bytes : List ℕ) → (input rest before after : Option (List ℕ)) → Result (Unit {0}) RunFault → Type 0
RunsDump mode names bytes input rest before after (Ok done) = RunsOverDump mode names bytes input rest before after (Ok done)
RunsDump mode names bytes input rest before after (Err (faults.Dump f)) = ((f ≡ fault OutOfMemory 0) ⊎ IsReadFault bytes f) × Keeps input rest
    × Keeps before after
RunsDump mode names bytes input rest before after (Err faults.Memory) = Keeps input rest × Keeps before after
RunsDump mode names bytes input rest before after (Err (faults.Serve f)) = RunsOverDump mode names bytes input rest before after (Err (faults.Serve f))
RunsDump mode names bytes input rest before after (Err faults.Close) = RunsOverDump mode names bytes input rest before after (Err faults.Close)
