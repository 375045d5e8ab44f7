-- What an edit or an undo asks of the log: an event, or nothing where it is refused before.
-- Source: this project.
use Rattle.std.specs.Prelude.{ℕ, List, Option, Some, None, Result, Ok, Err}
use Rattle.hd_terms.specs.declared.Event.{Event}
use Rattle.hd_terms.specs.declared.What.{What}
use Rattle.hd_terms.specs.declared.What.TheVariants as whats
use Rattle.hd_terms.specs.declared.errors.Refusal.{Refusal}
use Rattle.hd_terms.specs.declared.errors.Refusal.TheVariants as refusals
use Rattle.hd_terms.specs.Dump.{Dump}
use Rattle.hd_terms.specs.Refusals.{edit_refusal}
use Rattle.hd_terms.specs.Log.{last_live}
use Rattle.hd_lines.specs.declared.commands.Command.{Command}
use Rattle.hd_lines.specs.declared.commands.Command.TheVariants as commands

-- what is done, or why not
abbrev pub unless_refused : Option Refusal → What → Result What Refusal
unless_refused None what = Ok what
unless_refused (Some refusal) what = Err refusal

-- the undo of the last live edit, if there is one
abbrev pub undo_of_last : Option ℕ → Result What Refusal
undo_of_last None = Err refusals.NothingToUndo
undo_of_last (Some k) = Ok (whats.Undo k)

-- the undo of event k, or where none is named that of the analyst's last live edit
abbrev pub undo_asked : List Event → ℕ → Option ℕ → Result What Refusal
undo_asked log who None = undo_of_last (last_live log who)
undo_asked log who (Some k) = Ok (whats.Undo k)

-- what a command of an analyst asks of the log, where it asks something: what its event is to do, or why it is
-- refused before the log is asked
abbrev pub asked : Dump → List Event → ℕ → Command → Option (Result What Refusal)
asked dump log who (commands.Ask most query) = None
asked dump log who (commands.Names on) = None
asked dump log who (commands.Edit edit) = Some (unless_refused (edit_refusal dump edit) (whats.Do edit))
asked dump log who (commands.Undo number) = Some (undo_asked log who number)
asked dump log who commands.Mark = None
asked dump log who commands.Private = None
asked dump log who commands.Back = None
asked dump log who commands.Quit = None
