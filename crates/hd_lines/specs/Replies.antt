-- The reply to a line: bytes that are a function of the dump, of logs and of the line, but for which chain is shown, and for
-- replies that say that memory ran out or that a log is foreign.
-- Source: this project's protocol (docs/PROTOCOL.md).
use Rattle.std.specs.Prelude.{◌≡◌, ◌⊎◌, ◌≤◌, ℕ, false, Bool, not, if◌then◌else◌, List, [], ◌∷◌, ◌++◌, length, map, slice_get, codes, decimal, Option, Some}
use Rattle.std.specs.Prelude.{None, Result, Ok, Err}
use Rattle.std.specs.Option.{option_map}
use Rattle.std.specs.List.{flat_map, enumerate_from}
use Rattle.hd_terms.specs.declared.Strength.{Strength}
use Rattle.hd_terms.specs.declared.Strength.TheVariants as strengths
use Rattle.hd_terms.specs.declared.Slot.{Slot}
use Rattle.hd_terms.specs.declared.Slot.TheVariants as slots
use Rattle.hd_terms.specs.declared.EdgeKind.{EdgeKind}
use Rattle.hd_terms.specs.declared.EdgeKind.TheVariants as kinds
use Rattle.hd_terms.specs.declared.SlotMode.{SlotMode}
use Rattle.hd_terms.specs.declared.SlotMode.TheVariants as modes
use Rattle.hd_terms.specs.declared.SlotRow.{SlotRow}
use Rattle.hd_terms.specs.declared.RootKind.{RootKind}
use Rattle.hd_terms.specs.declared.RootKind.TheVariants as roots
use Rattle.hd_terms.specs.declared.RootMode.{RootMode}
use Rattle.hd_terms.specs.declared.RootMode.TheVariants as root_modes
use Rattle.hd_terms.specs.declared.RootRow.{RootRow}
use Rattle.hd_terms.specs.declared.IntoRow.{IntoRow}
use Rattle.hd_terms.specs.declared.ClassRow.{ClassRow}
use Rattle.hd_terms.specs.declared.MovedRow.{MovedRow}
use Rattle.hd_terms.specs.declared.Edit.{Edit}
use Rattle.hd_terms.specs.declared.Edit.TheVariants as edits
use Rattle.hd_terms.specs.declared.What.{What}
use Rattle.hd_terms.specs.declared.What.TheVariants as whats
use Rattle.hd_terms.specs.declared.errors.LogFault.{LogFault}
use Rattle.hd_terms.specs.declared.errors.LogFault.TheVariants as faults
use Rattle.hd_terms.specs.declared.errors.Refusal.{Refusal}
use Rattle.hd_terms.specs.declared.errors.Refusal.TheVariants as refusals
use Rattle.hd_terms.specs.declared.Event.{Event}
use Rattle.hd_terms.specs.declared.Group.{Group}
use Rattle.hd_terms.specs.Paths.{Edge, RootEntry}
use Rattle.hd_terms.specs.Strengths.{HasStrength}
use Rattle.hd_terms.specs.Chains.{IsChain}
use Rattle.hd_terms.specs.Dump.{Root, Dump, object_at}
use Rattle.hd_terms.specs.Edges.{index_of}
use Rattle.hd_terms.specs.EditedDump.{standing}
use Rattle.hd_terms.specs.Ranks.{kind_of_references}
use Rattle.hd_terms.specs.Log.{is_live}
use Rattle.hd_terms.specs.SlotRows.{slot_rows}
use Rattle.hd_terms.specs.RootRows.{root_rows}
use Rattle.hd_terms.specs.IntoRows.{into_rows}
use Rattle.hd_terms.specs.Listed.{first_items, AreMembers, AreFallen, AreClassRows, AreTopRows, AreMovedRows, AreNamedGroups}
use Rattle.hd_lines.specs.Names.{id_text, group_text, group_name, name_at, name_of_id, slot_place, IsNamedWith, place_of_slot, with_columns}
use Rattle.hd_lines.specs.Memory.{Memory, most_marks}
use Rattle.hd_terms.specs.Fell.{Falls, FellCount}
use Rattle.hd_terms.specs.Totals.{IsTotalOf, AreGroupCounts}
use Rattle.hd_lines.specs.declared.commands.Command.{Command}
use Rattle.hd_lines.specs.declared.commands.Command.TheVariants as commands
use Rattle.hd_lines.specs.declared.commands.Query.{Query}
use Rattle.hd_lines.specs.declared.commands.Query.TheVariants as queries
use Rattle.hd_lines.specs.declared.commands.LineFault.{LineFault}
use Rattle.hd_lines.specs.declared.commands.LineFault.TheVariants as line_faults
use Rattle.hd_lines.specs.Lines.{command_of, is_quit_command, last_word}

-- a text and the newline that ends it
abbrev pub with_newline : List ℕ → List ℕ
with_newline text = text ++ 10 ∷ []

-- `ok N`, and then the N lines
abbrev pub answered : List (List ℕ) → List ℕ
answered lines = with_newline (codes "ok " ++ decimal (length lines)) ++ flat_map with_newline lines

-- `no NAME`
abbrev pub refused : List ℕ → List ℕ
refused name = with_newline (codes "no " ++ name)

-- a strength as it is printed
abbrev pub strength_name : Strength → List ℕ
strength_name strengths.Unreachable = codes "UNREACHABLE"
strength_name strengths.Phantom = codes "PHANTOM"
strength_name strengths.Final = codes "FINAL"
strength_name strengths.Weak = codes "WEAK"
strength_name strengths.Soft = codes "SOFT"
strength_name strengths.Strong = codes "STRONG"

-- a line's fault as it is printed
abbrev pub line_fault_name : LineFault → List ℕ
line_fault_name line_faults.LineTooLong = codes "LineTooLong"
line_fault_name line_faults.UnknownCommand = codes "UnknownCommand"
line_fault_name line_faults.BadArgument = codes "BadArgument"

-- why a command is refused, as it is printed
abbrev pub log_fault_name : LogFault → List ℕ
log_fault_name faults.NoSuchEvent = codes "NoSuchEvent"
log_fault_name faults.NotYours = codes "NotYours"
log_fault_name faults.NotLive = codes "NotLive"
log_fault_name faults.LogFull = codes "LogFull"
log_fault_name faults.OutOfMemory = codes "OutOfMemory"

abbrev pub refusal_name : Refusal → List ℕ
refusal_name refusals.NoSuchObject = codes "NoSuchObject"
refusal_name refusals.NoSuchClass = codes "NoSuchClass"
refusal_name refusals.NoSuchSlot = codes "NoSuchSlot"
refusal_name refusals.NotCuttable = codes "NotCuttable"
refusal_name refusals.NotReference = codes "NotReference"
refusal_name refusals.EmptySlot = codes "EmptySlot"
refusal_name refusals.NothingToUndo = codes "NothingToUndo"
refusal_name refusals.NoSuchRoot = codes "NoSuchRoot"
refusal_name refusals.NoSuchMark = codes "NoSuchMark"
refusal_name refusals.MarksFull = codes "MarksFull"
refusal_name refusals.AlreadyPrivate = codes "AlreadyPrivate"
refusal_name refusals.NotPrivate = codes "NotPrivate"
refusal_name refusals.Behind = codes "Behind"
refusal_name refusals.Foreign = codes "Foreign"
refusal_name (refusals.Log f) = log_fault_name f

-- a slot as it is printed
abbrev pub slot_name : Slot → List ℕ
slot_name (slots.Field i) = codes "f" ++ decimal i
slot_name (slots.Element i) = codes "e" ++ decimal i
slot_name (slots.Static i) = codes "s" ++ decimal i
slot_name (slots.Const i) = codes "k" ++ decimal i
slot_name slots.OfClass = codes "class"
slot_name slots.Super = codes "super"
slot_name slots.Loader = codes "loader"
slot_name slots.Signers = codes "signers"
slot_name slots.Domain = codes "domain"

-- a kind as it is printed
abbrev pub kind_name : EdgeKind → List ℕ
kind_name kinds.Strong = codes "strong"
kind_name kinds.Soft = codes "soft"
kind_name kinds.Weak = codes "weak"
kind_name kinds.Final = codes "final"
kind_name kinds.Phantom = codes "phantom"

-- how a slot stands, as it is printed
abbrev pub mode_name : SlotMode → List ℕ
mode_name modes.Stands = codes "stands"
mode_name modes.Cut = codes "cut"
mode_name modes.Null = codes "null"
mode_name modes.Absent = codes "absent"

-- a kind of root as it is printed; that of a root that an edit added
abbrev pub root_kind_name : RootKind → List ℕ
root_kind_name roots.Unknown = codes "unknown"
root_kind_name roots.JniGlobal = codes "jni-global"
root_kind_name roots.JniLocal = codes "jni-local"
root_kind_name roots.JavaFrame = codes "java-frame"
root_kind_name roots.NativeStack = codes "native-stack"
root_kind_name roots.StickyClass = codes "sticky-class"
root_kind_name roots.ThreadBlock = codes "thread-block"
root_kind_name roots.MonitorUsed = codes "monitor-used"
root_kind_name roots.Thread = codes "thread"

abbrev pub root_name : Option RootKind → List ℕ
root_name None = codes "added"
root_name (Some kind) = root_kind_name kind

-- how a root stands, as it is printed
abbrev pub root_mode_name : RootMode → List ℕ
root_mode_name root_modes.Stands = codes "stands"
root_mode_name root_modes.Dropped = codes "dropped"
root_mode_name root_modes.Absent = codes "absent"

-- `R KIND ID MODE`, and with names the name of the object of that ID
abbrev pub plain_root_line : RootRow → List ℕ
plain_root_line row = decimal row.number ++ 32 ∷ root_name row.kind ++ 32 ∷ id_text row.id ++ 32 ∷ root_mode_name row.mode

abbrev pub root_line : Dump → (names : Bool) → RootRow → List ℕ
root_line dump names row = with_columns names (plain_root_line row) (name_of_id dump row.id ∷ [])

-- an edit as it is printed: as a line spells it
abbrev pub edit_text : Edit → List ℕ
edit_text (edits.Cut id slot) = codes "cut " ++ id_text id ++ 32 ∷ slot_name slot
edit_text (edits.Clear id) = codes "clear " ++ id_text id
edit_text (edits.Drop r) = codes "drop " ++ decimal r
edit_text (edits.Add id) = codes "add " ++ id_text id
edit_text (edits.ClearAll kind) = codes "clearall " ++ kind_name (kind_of_references kind)
edit_text (edits.CutAll id i) = codes "cutall " ++ id_text id ++ 32 ∷ slot_name (slots.Field i)

-- whether an edit is live, as it is printed
abbrev pub live_name : Bool → List ℕ
live_name live = if live then codes "live" else codes "undone"

-- what an event does, as it is printed: an edit and whether it is live, or an undo
abbrev pub what_text : Bool → What → List ℕ
what_text live (whats.Do edit) = edit_text edit ++ 32 ∷ live_name live
what_text live (whats.Undo k) = codes "undo " ++ decimal k

-- `E WHO EDIT live`, `E WHO EDIT undone` or `E WHO undo K`
abbrev pub log_line : List Event → ℕ × Event → List ℕ
log_line log (k, event) = decimal k ++ 32 ∷ decimal event.who ++ 32 ∷ what_text (is_live log (k, event)) event.what

-- a line for each event of a log
abbrev pub log_lines : List Event → List (List ℕ)
log_lines log = map (log_line log) (enumerate_from 0 log)

-- `SLOT KIND ID MODE` of a slot of the object of a number, and with names that of the object of that ID and the slot's place
abbrev pub plain_slot_line : SlotRow → List ℕ
plain_slot_line row = slot_name row.slot ++ 32 ∷ kind_name row.kind ++ 32 ∷ id_text row.id ++ 32 ∷ mode_name row.mode

abbrev pub slot_line : Dump → (names : Bool) → ℕ → SlotRow → List ℕ
slot_line dump names o row = with_columns names (plain_slot_line row) (name_of_id dump row.id ∷ slot_place dump o row.slot ∷ [])

-- `SOURCE SLOT KIND MODE`, and with names that of the source and the slot's place
abbrev pub plain_into_line : IntoRow → List ℕ
plain_into_line row = id_text row.source ++ 32 ∷ slot_name row.slot ++ 32 ∷ kind_name row.kind ++ 32 ∷ mode_name row.mode

abbrev pub into_line : Dump → (names : Bool) → IntoRow → List ℕ
into_line dump names row = with_columns names (plain_into_line row) (name_of_id dump row.source ∷ place_of_slot dump row.source row.slot ∷ [])

-- an ID, and with names that of its object
abbrev pub id_line : Dump → (names : Bool) → ℕ → List ℕ
id_line dump names id = with_columns names (id_text id) (name_of_id dump id ∷ [])

-- `G BYTES STRENGTH NAME`
abbrev pub object_line : Dump → ℕ → Strength → List ℕ
object_line dump o s = group_text (object_at dump o).group ++ 32 ∷ decimal (object_at dump o).bytes ++ 32 ∷ strength_name s ++ 32 ∷ name_at dump o

-- the kind of the root of a number: one of the dump's, or none where an event added it
abbrev pub root_kind : Dump → ℕ → Option RootKind
root_kind dump r = option_map (λ (root : Root). root.kind) (slice_get dump.roots r)

-- `root R KIND ID`, and with names that of the object
abbrev pub plain_chain_start : Dump → RootEntry → List ℕ
plain_chain_start dump r = codes "root " ++ decimal r.number ++ 32 ∷ root_name (root_kind dump r.number) ++ 32 ∷ id_text (object_at dump r.target).id

abbrev pub chain_start : Dump → (names : Bool) → RootEntry → List ℕ
chain_start dump names r = with_columns names (plain_chain_start dump r) (name_at dump r.target ∷ [])

-- `SLOT KIND ID`, and with names that of the link's target and the slot's place in its source
abbrev pub plain_link_line : Dump → Edge → List ℕ
plain_link_line dump e = slot_name e.slot ++ 32 ∷ kind_name e.kind ++ 32 ∷ id_text (object_at dump e.target).id

abbrev pub link_line : Dump → (names : Bool) → Edge → List ℕ
link_line dump names e = with_columns names (plain_link_line dump e) (name_at dump e.target ∷ slot_place dump e.source e.slot ∷ [])

-- the lines of a chain: its root, and then a line for each link
abbrev pub chain_lines : Dump → (names : Bool) → RootEntry → List Edge → List (List ℕ)
chain_lines dump names r es = chain_start dump names r ∷ map (link_line dump names) es

-- `G COUNT BYTES NAME`
abbrev pub class_line : Dump → ClassRow → List ℕ
class_line dump row = group_text row.group ++ 32 ∷ decimal row.count ++ 32 ∷ decimal row.bytes ++ 32 ∷ group_name dump row.group

-- the strengths, the greatest first
abbrev pub falling_strengths : List Strength
falling_strengths = strengths.Strong ∷ strengths.Soft ∷ strengths.Weak ∷ strengths.Final ∷ strengths.Phantom ∷ strengths.Unreachable ∷ []

-- `G STRONG SOFT WEAK FINAL PHANTOM UNREACHABLE NAME`: how many objects of a group have each strength
abbrev pub found_line : Dump → (count : Group → Strength → ℕ) → Group → List ℕ
found_line dump count group = group_text group ++ flat_map (λ (s : Strength). 32 ∷ decimal (count group s)) falling_strengths ++ 32 ∷ group_name dump group

-- `total COUNT BYTES`
abbrev pub total_line : (count bytes : ℕ) → List ℕ
total_line count bytes = codes "total " ++ decimal count ++ 32 ∷ decimal bytes

-- `BEFORE AFTER COUNT BYTES`
abbrev pub moved_line : MovedRow → List ℕ
moved_line row = strength_name row.before ++ 32 ∷ strength_name row.after ++ 32 ∷ decimal row.count ++ 32 ∷ decimal row.bytes

-- the reply to `mark` where it adds a mark of this number
abbrev pub mark_reply : ℕ → List ℕ
mark_reply m = answered ((codes "mark " ++ decimal m) ∷ [])

-- the reply to `private` over a log of `n` events, and to `back` from `k` events after it
abbrev pub private_reply : ℕ → List ℕ
private_reply n = answered ((codes "private " ++ decimal n) ∷ [])

abbrev pub back_reply : ℕ → List ℕ
back_reply k = answered ((codes "back " ++ decimal k) ∷ [])

-- the reply to `names on` and `names off`
abbrev pub names_reply : List ℕ
names_reply = answered []

-- `event E fell F back B`
abbrev pub event_line : (event fell back : ℕ) → List ℕ
event_line event fell back = codes "event " ++ decimal event ++ codes " fell " ++ decimal fell ++ codes " back " ++ decimal back

-- what a query is answered: lines, or why it is refused
abbrev pub Answer : Type 0
Answer = Result (List (List ℕ)) Refusal

-- the first `n` lines of an answer, all without a number, as they are written
abbrev pub answer_text : (most : Option ℕ) → Answer → List ℕ
answer_text most (Ok lines) = answered (first_items most lines)
answer_text most (Err r) = refused (refusal_name r)

-- no object has the ID; there is no mark of the number
abbrev pub no_such_object : Answer
no_such_object = Err refusals.NoSuchObject

abbrev pub no_such_mark : Answer
no_such_mark = Err refusals.NoSuchMark

-- the answer to `strength` for the object of a number, if there is one: its strength under the log
abbrev pub AnswersStrength : Dump → List Event → Option ℕ → Answer → Type 0
AnswersStrength dump log None answer = answer ≡ no_such_object
AnswersStrength dump log (Some o) answer = (s : Strength) × HasStrength (standing dump log) o s × (answer ≡ Ok (strength_name s ∷ []))

-- the answer to `object`: one line
abbrev pub AnswersObject : Dump → List Event → Option ℕ → Answer → Type 0
AnswersObject dump log None answer = answer ≡ no_such_object
AnswersObject dump log (Some o) answer = (s : Strength) × HasStrength (standing dump log) o s × (answer ≡ Ok (object_line dump o s ∷ []))

-- the answer to `chain` for an object of a strength: no line where it is unreachable, else those of a chain of its strength
abbrev pub AnswersChainOf : Dump → (names : Bool) → List Event → ℕ → Strength → Answer → Type 0
AnswersChainOf dump names log o s answer =
    ((s ≡ strengths.Unreachable) × (answer ≡ Ok []))
    ⊎ ((r : RootEntry) × (es : List Edge) × IsChain (standing dump log) r es o s × (answer ≡ Ok (chain_lines dump names r es)))

-- the answer to `chain` for the object of a number, if there is one
abbrev pub AnswersChain : Dump → (names : Bool) → List Event → Option ℕ → Answer → Type 0
AnswersChain dump names log None answer = answer ≡ no_such_object
AnswersChain dump names log (Some o) answer = (s : Strength) × HasStrength (standing dump log) o s × AnswersChainOf dump names log o s answer

-- the answer to `slots` for the object of a number, if there is one: a line for each of its slots
abbrev pub slots_answer : Dump → (names : Bool) → List Event → Option ℕ → Answer
slots_answer dump names log None = no_such_object
slots_answer dump names log (Some o) = Ok (map (slot_line dump names o) (slot_rows dump log (object_at dump o)))

-- the answer to `into` for the object of a number, if there is one: a line for each reference to it
abbrev pub into_answer : Dump → (names : Bool) → List Event → Option ℕ → Answer
into_answer dump names log None = no_such_object
into_answer dump names log (Some o) = Ok (map (into_line dump names) (into_rows dump log o))

-- the answer to `classes`: a line for each group that has objects of the strength
abbrev pub AnswersClasses : Dump → List Event → Strength → Answer → Type 0
AnswersClasses dump log s answer = (rows : List ClassRow) × AreClassRows dump log s rows × (answer ≡ Ok (map (class_line dump) rows))

-- the answer to a list of objects: the ID of each
abbrev pub AnswersIds : Dump → (names : Bool) → (AreMeant : List ℕ → Type 0) → Answer → Type 0
AnswersIds dump names AreMeant answer = (ids : List ℕ) × AreMeant ids × (answer ≡ Ok (map (id_line dump names) ids))

-- the answer to `fell` for the log of a mark, if there is one: the objects that fell since
abbrev pub AnswersFell : Dump → (names : Bool) → List Event → Option (List Event) → Answer → Type 0
AnswersFell dump names log None answer = answer ≡ no_such_mark
AnswersFell dump names log (Some before) answer = AnswersIds dump names (AreFallen dump before log) answer

-- the answer to `top`: the lines of `classes`, those with the most bytes first
abbrev pub AnswersTop : Dump → List Event → Strength → Answer → Type 0
AnswersTop dump log s answer = (rows : List ClassRow) × AreTopRows dump (λ (o : ℕ). HasStrength (standing dump log) o s) rows
    × (answer ≡ Ok (map (class_line dump) rows))

-- what fell from one log to another: how many objects, and their recorded bytes; and by groups, those with the most bytes first
pub record IsFreed (dump : Dump) (before after : List Event) (answer : Answer) : Type 0 where
  pub count : ℕ
  pub bytes : ℕ
  pub rows : List ClassRow
  pub total : IsTotalOf dump (Falls dump before after) count bytes
  pub groups : AreTopRows dump (Falls dump before after) rows
  pub lines : answer ≡ Ok (total_line count bytes ∷ map (class_line dump) rows)

-- the answer to `freed` for the log of a mark, if there is one
abbrev pub AnswersFreed : Dump → List Event → Option (List Event) → Answer → Type 0
AnswersFreed dump log None answer = answer ≡ no_such_mark
AnswersFreed dump log (Some before) answer = IsFreed dump before log answer

-- the answer to `moved` for the log of a mark, if there is one: a line for each pair of strengths that objects moved between
abbrev pub AnswersMoved : Dump → List Event → Option (List Event) → Answer → Type 0
AnswersMoved dump log None answer = answer ≡ no_such_mark
AnswersMoved dump log (Some before) answer = (rows : List MovedRow) × AreMovedRows dump before log rows × (answer ≡ Ok (map moved_line rows))

-- the answer to `find`: a line for each group whose name contains the text
pub record IsFound (dump : Dump) (log : List Event) (text : List ℕ) (answer : Answer) : Type 0 where
  pub groups : List Group
  pub count : Group → Strength → ℕ
  pub are : AreNamedGroups dump (IsNamedWith dump text) groups
  pub counts : AreGroupCounts dump log count
  pub lines : answer ≡ Ok (map (found_line dump count) groups)

-- the answer to a query, with the last word of its line
abbrev pub IsAnswer : Dump → Memory → (text : List ℕ) → Query → Answer → Type 0
IsAnswer dump m text (queries.Strength id) answer = AnswersStrength dump m.log (index_of dump.objects id) answer
IsAnswer dump m text (queries.Chain id) answer = AnswersChain dump m.names m.log (index_of dump.objects id) answer
IsAnswer dump m text (queries.Slots id) answer = answer ≡ slots_answer dump m.names m.log (index_of dump.objects id)
IsAnswer dump m text (queries.Into id) answer = answer ≡ into_answer dump m.names m.log (index_of dump.objects id)
IsAnswer dump m text queries.Roots answer = answer ≡ Ok (map (root_line dump m.names) (root_rows dump m.log))
IsAnswer dump m text (queries.Classes s) answer = AnswersClasses dump m.log s answer
IsAnswer dump m text (queries.Members group s) answer = AnswersIds dump m.names (AreMembers dump m.log group s) answer
IsAnswer dump m text (queries.Fell k) answer = AnswersFell dump m.names m.log (slice_get m.marks k) answer
IsAnswer dump m text queries.Events answer = answer ≡ Ok (log_lines m.log)
IsAnswer dump m text (queries.Object id) answer = AnswersObject dump m.log (index_of dump.objects id) answer
IsAnswer dump m text (queries.Top s) answer = AnswersTop dump m.log s answer
IsAnswer dump m text (queries.Freed k) answer = AnswersFreed dump m.log (slice_get m.marks k) answer
IsAnswer dump m text (queries.Moved k) answer = AnswersMoved dump m.log (slice_get m.marks k) answer
IsAnswer dump m text queries.Find answer = IsFound dump m.log text answer

-- the reply to a query of which at most `most` lines are wanted, all without a number
abbrev pub RepliesQuery : Dump → Memory → (text : List ℕ) → (most : Option ℕ) → Query → List ℕ → Type 0
RepliesQuery dump m text most query reply = (answer : Answer) × IsAnswer dump m text query answer × (reply ≡ answer_text most answer)

-- the reply to `mark` where it is refused: there are as many marks as there may be
pub record RefusesMark (marks : List (List Event)) (reply : List ℕ) : Type 0 where
  pub full : most_marks ≤ length marks
  pub reply_is : reply ≡ refused (refusal_name refusals.MarksFull)

-- the reply to `private` where it is refused: a private part is open
abbrev pub RefusesPrivate : Option (List Event) → List ℕ → Type 0
RefusesPrivate None reply = ⊥
RefusesPrivate (Some home) reply = reply ≡ refused (refusal_name refusals.AlreadyPrivate)

-- the reply to `back` where it is refused: none is open
abbrev pub RefusesBack : Option (List Event) → List ℕ → Type 0
RefusesBack None reply = reply ≡ refused (refusal_name refusals.NotPrivate)
RefusesBack (Some home) reply = ⊥

-- the reply to a command that changes nothing of what the session remembers, with the last word of its line. What an edit, an undo,
-- a new mark, `names`, or the beginning or end of a private part is answered isn't said here
abbrev pub RepliesTo : Dump → Memory → (text : List ℕ) → Result Command LineFault → List ℕ → Type 0
RepliesTo dump m text (Err f) reply = reply ≡ refused (line_fault_name f)
RepliesTo dump m text (Ok (commands.Ask most query)) reply = RepliesQuery dump m text most query reply
RepliesTo dump m text (Ok (commands.Names on)) reply = ⊥
RepliesTo dump m text (Ok (commands.Edit edit)) reply = ⊥
RepliesTo dump m text (Ok (commands.Undo number)) reply = ⊥
RepliesTo dump m text (Ok commands.Mark) reply = RefusesMark m.marks reply
RepliesTo dump m text (Ok commands.Private) reply = RefusesPrivate m.home reply
RepliesTo dump m text (Ok commands.Back) reply = RefusesBack m.home reply
RepliesTo dump m text (Ok commands.Quit) reply = reply ≡ answered []

-- the reply to a line that changes nothing of what the session remembers
abbrev pub IsReply : Dump → Memory → List ℕ → List ℕ → Type 0
IsReply dump m line reply = RepliesTo dump m (last_word line) (command_of line) reply

-- the reply to an edit or an undo that the log has taken: the number of its event, and how many objects fell by it and
-- how many came back
pub record RepliesDone (dump : Dump) (before after : List Event) (reply : List ℕ) : Type 0 where
  pub fell : ℕ
  pub back : ℕ
  pub fell_is : FellCount dump before after fell
  pub back_is : FellCount dump after before back
  pub reply_is : reply ≡ answered (event_line (length before) fell back ∷ [])

-- the reply to an edit or an undo that the log has taken as the event of this number, where memory ran out as the analyst's desk
-- caught up with it
abbrev pub accepted_reply : ℕ → List ℕ
accepted_reply event = refused (codes "Accepted " ++ decimal event)

-- the reply to a command for which memory ran out
abbrev pub out_of_memory_reply : List ℕ
out_of_memory_reply = refused (log_fault_name faults.OutOfMemory)

-- the reply to a command that comes to nothing: memory ran out; or it ran out as the desk caught up with the board's log; or that
-- log is foreign
abbrev pub IsUnserved : List ℕ → Type 0
IsUnserved reply = (reply ≡ out_of_memory_reply) ⊎ ((reply ≡ refused (refusal_name refusals.Behind)) ⊎ (reply ≡ refused (refusal_name refusals.Foreign)))

-- the commands before which the analyst's desk is refreshed: all but `quit`
abbrev pub refreshes : Result Command LineFault → Bool
refreshes (Err f) = false
refreshes (Ok command) = not (is_quit_command (Ok command))
