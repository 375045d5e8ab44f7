-- What the program does with what the words ask for, and the exit status that it ends with.
-- Source: this project.
use Rattle.std.specs.Prelude.{◌≡◌, ◌≢◌, ◌⊎◌, ◌++◌, ℕ, Bool, List, Option, Result, Ok, Err, OnOk, codes}
use Rattle.std.specs.Io.KnownBytes.{Keeps, Appends}
use Rattle.hd_terms.specs.declared.Mode.{Mode}
use Rattle.hd_lines.specs.Replies.{with_newline}
use Rattle.hd_protocol.specs.declared.run.RunFault.{RunFault}
use Rattle.hd_protocol.specs.declared.run.RunFault.TheVariants as faults
use Rattle.hd_protocol.specs.Serving.{RunsDump}
use Rattle.hd_protocol.specs.Stating.{StatsDump}
use Rattle.hd_program.specs.Listening.{EndsServer}
use Rattle.hd_program.specs.declared.server.ServerFault.{ServerFault}
use Rattle.hd_program.specs.declared.server.ServerFault.TheVariants as server_faults
use Rattle.hd_arguments.specs.declared.task.Task.{Task}
use Rattle.hd_arguments.specs.declared.task.Task.TheVariants as tasks

-- the exit status that a run ends with
abbrev pub status : Result (Unit {0}) RunFault → ℕ
status (Ok done) = 0
status (Err (faults.Dump f)) = 2
status (Err faults.Memory) = 1
status (Err (faults.Serve f)) = 1
status (Err faults.Close) = 1

-- the exit status that a server ends with
abbrev pub server_status : Result (Unit {0}) ServerFault → ℕ
server_status (Ok done) = 0
server_status (Err (server_faults.Open f)) = status (Err f)
server_status (Err server_faults.Listen) = 1
server_status (Err server_faults.Write) = 1
server_status (Err (server_faults.Serve f)) = 1

-- lines were served over the bytes that were read from a file, opened in a mode, with names from the beginning or without
pub record RunsFile (mode : Mode) (names : Bool) (input rest before after : Option (List ℕ)) (exit : ℕ) : Type 0 where
  pub bytes : List ℕ
  pub ended : Result (Unit {0}) RunFault
  pub runs : RunsDump mode names bytes input rest before after ended
  pub exit_is : exit ≡ status ended

-- the counts and totals of the bytes that were read from a file, opened in a mode, were printed, and no line was read
pub record StatsFile (mode : Mode) (input rest before after : Option (List ℕ)) (exit : ℕ) : Type 0 where
  pub bytes : List ℕ
  pub ended : Result (Unit {0}) RunFault
  pub stats : StatsDump mode bytes before after ended
  pub unread : Keeps input rest
  pub exit_is : exit ≡ status ended

-- analysts were served over connections, over the bytes that were read from a file, opened in a mode
pub record ServesBytes (mode : Mode) (before after : Option (List ℕ)) (exit : ℕ) : Type 0 where
  pub bytes : List ℕ
  pub analysts : ℕ
  pub ended : Result (Unit {0}) ServerFault
  pub ends : EndsServer mode bytes analysts before after ended
  pub exit_is : exit ≡ server_status ended

-- analysts were served so, or the run failed before anything was written: no file is in memory
abbrev pub ServesOrFails : Mode → (before after : Option (List ℕ)) → (exit : ℕ) → Type 0
ServesOrFails mode before after exit = ServesBytes mode before after exit ⊎ (Keeps before after × (exit ≢ 0))

-- analysts were served so, or the run failed, and no line was read
pub record ServesFile (mode : Mode) (input rest before after : Option (List ℕ)) (exit : ℕ) : Type 0 where
  pub serves : ServesOrFails mode before after exit
  pub unread : Keeps input rest

-- the run failed before any line was read and anything was written: no file is in memory, or the words are wrong
pub record FailsFirst (input rest before after : Option (List ℕ)) (exit : ℕ) : Type 0 where
  pub unread : Keeps input rest
  pub unwritten : Keeps before after
  pub failed : exit ≢ 0

-- the line that tells a version
abbrev pub version_text : List ℕ → List ℕ
version_text version = with_newline (codes "hdesk " ++ version)

-- the line of a version was written, where the run ended well, and no line was read
pub record TellsVersion (version : List ℕ) (input rest before after : Option (List ℕ)) (exit : ℕ) : Type 0 where
  pub ended : Result (Unit {0}) RunFault
  pub tells : OnOk ended (Appends before after (version_text version))
  pub unread : Keeps input rest
  pub exit_is : exit ≡ status ended

-- what is asked for is done: a version is told, or a task over the bytes that are read from the file, or these can't be read
abbrev pub Performs : Task → (input rest before after : Option (List ℕ)) → (exit : ℕ) → Type 0
Performs (tasks.Run opening) input rest before after exit = RunsFile opening.mode opening.names input rest before after exit
    ⊎ FailsFirst input rest before after exit
Performs (tasks.Stat opening) input rest before after exit = StatsFile opening.mode input rest before after exit ⊎ FailsFirst input rest before after exit
Performs (tasks.Serve serving) input rest before after exit = ServesFile serving.opening.mode input rest before after exit
Performs (tasks.Web browsing) input rest before after exit = ServesFile browsing.serving.opening.mode input rest before after exit
Performs (tasks.Version version) input rest before after exit = TellsVersion version.now input rest before after exit

-- one of the three tasks over a file is done over the bytes that are read from it, in some mode and with names or without, or nothing
abbrev pub RunsOnFile : (input rest before after : Option (List ℕ)) → (exit : ℕ) → Type 0
RunsOnFile input rest before after exit =
    (mode : Mode) × (names : Bool)
    × (RunsFile mode names input rest before after exit
    ⊎ (StatsFile mode input rest before after exit ⊎ (ServesFile mode input rest before after exit ⊎ FailsFirst input rest before after exit)))

-- a run with words: a version is told; or one of the three tasks over a file is done over the bytes that are read from it, in
-- some mode and with names or without; or nothing
abbrev pub RunsWords : (input rest before after : Option (List ℕ)) → (exit : ℕ) → Type 0
RunsWords input rest before after exit = ((version : List ℕ) × TellsVersion version input rest before after exit) ⊎ RunsOnFile input rest before after exit
