-- Sessions: what one analyst's lines are answered, one after another.
-- Source: this project. A session beside other analysts is the general form; alone, each turn begins with what the last
-- one left.
use Rattle.std.specs.Prelude.{◌≡◌, ℕ, ◌<◌, ◌≤◌, ◌⊎◌, Bool, true, false, List, [], ◌∷◌, ◌++◌, length, map, drop, Option, Some, None, Ok, Err}
use Rattle.std.specs.List.{flat_map, AllByRecursion}
use Rattle.hd_terms.specs.declared.Event.{Event}
use Rattle.hd_terms.specs.Dump.{Dump}
use Rattle.hd_terms.specs.declared.What.{What}
use Rattle.hd_terms.specs.declared.errors.Refusal.{Refusal}
use Rattle.hd_lines.specs.declared.commands.Command.{Command}
use Rattle.hd_lines.specs.declared.commands.Command.TheVariants as commands
use Rattle.hd_lines.specs.Memory.{Memory, beginning, at_log, most_marks, with_mark, with_names}
use Rattle.hd_lines.specs.Memory as memories
use Rattle.hd_terms.specs.Appending.{append_refusal, event_by, with_event}
use Rattle.hd_lines.specs.Lines.{command_of, whole_lines, lines_of, run_lines, is_quit}
use Rattle.hd_lines.specs.Replies.{IsReply, RepliesDone, IsUnserved, accepted_reply, back_reply, mark_reply, names_reply, private_reply, refused, refusal_name}
use Rattle.hd_lines.specs.Replies.{refreshes}
use Rattle.hd_lines.specs.Asking.{asked}
use Rattle.hd_terms.specs.Log.{IsLawful, own}

-- an analyst at a board: the dump, the analyst's number, and how many roots the board counts, which are the dump's where it is a
-- board over this dump
pub record Analyst : Type 0 where
  pub dump : Dump
  pub who : ℕ
  pub roots : ℕ

-- the only analyst of a board over a dump
abbrev pub lone_analyst : Dump → Analyst
lone_analyst dump = record { dump = dump; who = 0; roots = length dump.roots }

-- how many roots the board counts on which a line is run: a private part has a board of its own, over the analyst's dump
abbrev pub roots_at : Analyst → (home : Option (List Event)) → ℕ
roots_at a None = a.roots
roots_at a (Some home) = length a.dump.roots

-- one line: what the session remembers as the line is run, and of whose log its queries speak; the log on which an edit is
-- decided; what the session remembers after it; and the reply
pub record Turn : Type 0 where
  pub line : List ℕ
  pub before : Memory
  pub found : List Event
  pub after : Memory
  pub reply : List ℕ

-- a later log: it is lawful, begins with the earlier one, and has no more events of that analyst
pub record IsLater (who : ℕ) (before after : List Event) : Type 0 where
  pub more : List Event
  pub begins : after ≡ before ++ more
  pub same_own : own who after ≡ own who before
  pub lawful : IsLawful after

-- after the turn the session remembers what it did before it, but with this log
abbrev pub LeavesLog : Turn → List Event → Type 0
LeavesLog t log = t.after ≡ at_log t.before log

-- why the log that is found on a turn doesn't take what the analyst does, if it doesn't
abbrev pub turn_refusal : Analyst → Turn → What → Option Refusal
turn_refusal a t what = append_refusal (roots_at a t.before.home) t.found (event_by a.who what)

-- what a turn of an analyst may be
pub data IsTurn (a : Analyst) (t : Turn) : Type 0 where
  -- a line that changes nothing: the reply is the one under what is remembered
  answered : IsReply a.dump t.before t.line t.reply → t.found ≡ t.before.log → LeavesLog t t.found → IsTurn a t
  -- an edit or undo that is refused before the log is asked
  declined : (c : Command) (r : Refusal) → command_of t.line ≡ Ok c → asked a.dump t.before.log a.who c ≡ Some (Err r) → t.reply ≡ refused (refusal_name r)
      → t.found ≡ t.before.log → LeavesLog t t.found → IsTurn a t
  -- an edit or undo that the log doesn't take
  rejected : (c : Command) (what : What) (r : Refusal) → command_of t.line ≡ Ok c → asked a.dump t.before.log a.who c ≡ Some (Ok what)
      → turn_refusal a t what ≡ Some r → t.reply ≡ refused (refusal_name r) → LeavesLog t t.found → IsTurn a t
  -- an edit or undo that the log takes: its event is added
  accepted : (c : Command) (what : What) → command_of t.line ≡ Ok c → asked a.dump t.before.log a.who c ≡ Some (Ok what)
      → turn_refusal a t what ≡ None → RepliesDone a.dump t.found (with_event t.found (event_by a.who what)) t.reply
      → LeavesLog t (with_event t.found (event_by a.who what)) → IsTurn a t
  -- the same, but memory ran out as the desk caught up with the event: its number is answered
  unfinished : (c : Command) (what : What) → command_of t.line ≡ Ok c → asked a.dump t.before.log a.who c ≡ Some (Ok what)
      → turn_refusal a t what ≡ None → t.reply ≡ accepted_reply (length t.found) → LeavesLog t (with_event t.found (event_by a.who what)) → IsTurn a t
  -- a mark is added: it keeps the log, and its number is answered
  marked : command_of t.line ≡ Ok commands.Mark → length t.before.marks < most_marks → t.reply ≡ mark_reply (length t.before.marks)
      → t.found ≡ t.before.log → t.after ≡ with_mark t.before → IsTurn a t
  -- a private part begins: its home is the log, whose length is answered
  gone_private : command_of t.line ≡ Ok commands.Private → t.before.home ≡ None → t.reply ≡ private_reply (length t.before.log)
      → t.found ≡ t.before.log → t.after ≡ memories.gone_private t.before → IsTurn a t
  -- a private part ends: the log is its home again, and how many events came after that is answered
  gone_back : (home : List Event) → command_of t.line ≡ Ok commands.Back → t.before.home ≡ Some home
      → t.reply ≡ back_reply (length (drop (length home) t.before.log))
      → t.found ≡ t.before.log → t.after ≡ memories.gone_back t.before home → IsTurn a t
  -- replies show names from here on, or no longer
  renamed : (on : Bool) → command_of t.line ≡ Ok (commands.Names on) → t.reply ≡ names_reply → t.found ≡ t.before.log → t.after ≡ with_names t.before on
      → IsTurn a t
  -- a command that comes to nothing, since memory ran out or the board's log is foreign: nothing is added
  unserved : refreshes (command_of t.line) ≡ true → IsUnserved t.reply → t.found ≡ t.before.log → LeavesLog t t.found → IsTurn a t

-- between two turns of an analyst a later log may be found; all else is remembered
pub record IsRefreshed (who : ℕ) (before after : Memory) : Type 0 where
  pub later : IsLater who before.log after.log
  pub same : after ≡ at_log before after.log

-- the turns of an analyst, from what the session remembers on
abbrev pub IsSession : Analyst → Memory → List Turn → Type 0
IsSession a memory [] = Unit {0}
IsSession a memory (t ∷ ts) = IsRefreshed a.who memory t.before × IsLater a.who t.before.log t.found × IsTurn a t × IsSession a t.after ts

-- nothing came between the turn and what was remembered before it
abbrev pub IsUndisturbed : Memory → Turn → Type 0
IsUndisturbed memory t = (t.before ≡ memory) × (t.found ≡ memory.log)

-- the analyst is alone: nothing comes between the turns. Of those in a private part nothing is said
abbrev pub IsAlone : Memory → List Turn → Type 0
IsAlone memory [] = Unit {0}
IsAlone memory (t ∷ ts) = (memory.home ≡ None → IsUndisturbed memory t) × IsAlone t.after ts

-- the replies of a session, joined
abbrev pub replies : List Turn → List ℕ
replies ts = flat_map (λ (t : Turn). t.reply) ts

-- what is remembered after turns
abbrev pub memory_after : Memory → List Turn → Memory
memory_after memory [] = memory
memory_after memory (t ∷ ts) = memory_after t.after ts

-- a session of an analyst over these lines, from what it remembers on
pub record IsSessionOver (a : Analyst) (memory : Memory) (lines : List (List ℕ)) (ts : List Turn) : Type 0 where
  pub session : IsSession a memory ts
  pub over : map (λ (t : Turn). t.line) ts ≡ lines

-- a session of the analyst 0, alone from the empty log, over these lines; it begins with names or without
pub record IsSessionAlone (dump : Dump) (names : Bool) (lines : List (List ℕ)) (ts : List Turn) : Type 0 where
  pub session : IsSessionOver (lone_analyst dump) (beginning names [] []) lines ts
  pub alone : IsAlone (beginning names [] []) ts

-- the whole input was served by these turns: the replies to its lines up to `quit` or to its end. What turns over lines are
-- is said by the relation
pub record IsServedBy (IsOver : List (List ℕ) → List Turn → Type 0) (turns : List Turn) (input written : List ℕ) : Type 0 where
  pub session : IsOver (run_lines (lines_of input)) turns
  pub written_is : written ≡ replies turns

-- the input could be read no further, and this much of it is left: the replies to the whole lines of what was read
pub record IsServedUntilReadBy (IsOver : List (List ℕ) → List Turn → Type 0) (turns : List Turn) (input rest written : List ℕ) : Type 0 where
  pub consumed : List ℕ
  pub split : input ≡ consumed ++ rest
  pub session : IsOver (whole_lines consumed) turns
  pub no_quit : AllByRecursion (λ line. is_quit line ≡ false) (whole_lines consumed)
  pub written_is : written ≡ replies turns

-- the output could be written no further: the lines of what was read were run up to the one whose reply broke off, and the replies
-- to all before it are whole
pub record IsServedUntilWriteBy (IsOver : List (List ℕ) → List Turn → Type 0) (turns : List Turn) (input written : List ℕ) : Type 0 where
  pub consumed : List ℕ
  pub rest : List ℕ
  pub split : input ≡ consumed ++ rest
  pub lines : List (List ℕ)
  pub read : (lines ≡ whole_lines consumed) ⊎ ((rest ≡ []) × (lines ≡ lines_of consumed))
  pub session : IsOver (run_lines lines) turns
  pub whole : List Turn
  pub broken : List Turn
  pub turns_are : turns ≡ whole ++ broken
  pub one_at_most : length broken ≤ 1
  pub part : List ℕ
  pub more : List ℕ
  pub broken_is : replies broken ≡ part ++ more
  pub written_is : written ≡ replies whole ++ part

-- the same of the analyst 0, alone from the empty log, by some turns
abbrev pub IsServed : Dump → (names : Bool) → (input written : List ℕ) → Type 0
IsServed dump names input written = (turns : List Turn) × IsServedBy (IsSessionAlone dump names) turns input written

abbrev pub IsServedUntilRead : Dump → (names : Bool) → (input rest written : List ℕ) → Type 0
IsServedUntilRead dump names input rest written = (turns : List Turn) × IsServedUntilReadBy (IsSessionAlone dump names) turns input rest written

abbrev pub IsServedUntilWrite : Dump → (names : Bool) → (input written : List ℕ) → Type 0
IsServedUntilWrite dump names input written = (turns : List Turn) × IsServedUntilWriteBy (IsSessionAlone dump names) turns input written
