-- Lines of an input, and the commands that they spell.
-- Source: this project's protocol (docs/PROTOCOL.md).
use Rattle.std.specs.Prelude.{ℕ, ◌+◌, ◌*◌, ◌-◌, ◌==◌, Bool, true, false, ◌&&◌, nat_lt, nat_le, if◌then◌else◌, List, [], ◌∷◌, length, filter, fold, codes}
use Rattle.std.specs.Prelude.{Option, Some, None, Result, Ok, Err}
use Rattle.std.specs.Option.{option_map, option_and_then, option_or}
use Rattle.std.specs.List.{list_all, slice_split}
use Rattle.std.specs.Str.{bytes_eq}
use Rattle.std.specs.Io.BufRead.{strip_last}
use Rattle.hd_terms.specs.declared.Slot.{Slot}
use Rattle.hd_terms.specs.declared.Slot.TheVariants as slots
use Rattle.hd_terms.specs.declared.Group.{Group}
use Rattle.hd_terms.specs.declared.Group.TheVariants as groups
use Rattle.hd_terms.specs.declared.RefKind.{RefKind}
use Rattle.hd_terms.specs.declared.RefKind.TheVariants as references
use Rattle.hd_terms.specs.declared.Edit.TheVariants as edits
use Rattle.hd_terms.specs.declared.Strength.{Strength}
use Rattle.hd_terms.specs.declared.Strength.TheVariants as strengths
use Rattle.hd_lines.specs.declared.commands.Command.{Command}
use Rattle.hd_lines.specs.declared.commands.Command.TheVariants as commands
use Rattle.hd_lines.specs.declared.commands.Query.{Query}
use Rattle.hd_lines.specs.declared.commands.Query.TheVariants as queries
use Rattle.hd_lines.specs.declared.commands.LineFault.{LineFault}
use Rattle.hd_lines.specs.declared.commands.LineFault.TheVariants as faults

-- the most bytes of a line before its newline
abbrev pub longest_line : ℕ
longest_line = 4096

-- the pieces of an input between its newlines; the last is what follows the last newline
abbrev pub pieces : List ℕ → List (List ℕ)
pieces input = slice_split (λ b. b == 10) input

-- all pieces but the last, which a newline ends each
abbrev pub all_but_last : List (List ℕ) → List (List ℕ)
all_but_last [] = []
all_but_last (piece ∷ []) = []
all_but_last (piece ∷ next ∷ rest) = piece ∷ all_but_last (next ∷ rest)

-- a last piece is a line where it has a byte
abbrev pub without_empty_end : List (List ℕ) → List (List ℕ)
without_empty_end [] = []
without_empty_end ([] ∷ []) = []
without_empty_end ((b ∷ bs) ∷ []) = (b ∷ bs) ∷ []
without_empty_end (piece ∷ next ∷ rest) = piece ∷ without_empty_end (next ∷ rest)

-- the lines that a newline ends
abbrev pub whole_lines : List ℕ → List (List ℕ)
whole_lines input = all_but_last (pieces input)

-- the lines of an input that has ended
abbrev pub lines_of : List ℕ → List (List ℕ)
lines_of input = without_empty_end (pieces input)

-- the words of a line: what stands between spaces, without one carriage return at the line's end
abbrev pub words_of : List ℕ → List (List ℕ)
words_of line = filter (λ word. nat_lt 0 (length word)) (slice_split (λ b. b == 32) (strip_last 13 line))

-- the value of a hexadecimal digit of either case
abbrev pub hex_digit : ℕ → Option ℕ
hex_digit c =
    if nat_le 48 c && nat_le c 57 then Some (c - 48)
    else if nat_le 97 c && nat_le c 102 then Some (c - 87)
    else if nat_le 65 c && nat_le c 70 then Some (c - 55)
    else None

-- the value of a digit in a base of at most 16
abbrev pub digit_in : ℕ → ℕ → Option ℕ
digit_in base c = option_and_then (λ digit. if nat_lt digit base then Some digit else None) (hex_digit c)

-- the number so far with one more digit after it
abbrev pub with_digit : ℕ → Option ℕ → ℕ → Option ℕ
with_digit base so_far c = option_and_then (λ n. option_map (λ digit. base * n + digit) (digit_in base c)) so_far

-- the number that digits spell
abbrev pub number_in : ℕ → List ℕ → Option ℕ
number_in base digits = fold (with_digit base) (Some 0) digits

-- an ID is 0x and 1 to 16 hexadecimal digits
abbrev pub id_digits : List ℕ → Option ℕ
id_digits digits = if nat_le 1 (length digits) && nat_le (length digits) 16 then number_in 16 digits else None

abbrev pub id_of_word : List ℕ → Option ℕ
id_of_word [] = None
id_of_word (a ∷ []) = None
id_of_word (a ∷ b ∷ digits) = if (a == 48) && (b == 120) then id_digits digits else None

-- the greatest number of an event, a mark or a slot
abbrev pub largest_number : ℕ
largest_number = 4294967295

-- a number, where it isn't too large
abbrev pub at_most : ℕ → ℕ → Option ℕ
at_most largest n = if nat_le n largest then Some n else None

-- a number is 1 to 10 decimal digits, and at most 4294967295
abbrev pub number_of_word : List ℕ → Option ℕ
number_of_word word = if nat_le 1 (length word) && nat_le (length word) 10 then option_and_then (at_most largest_number) (number_in 10 word) else None

-- the greatest number of a root
abbrev pub largest_root : ℕ
largest_root = 18446744073709551615

-- the number of a root is 1 to 20 decimal digits, and at most 18446744073709551615
abbrev pub root_of_word : List ℕ → Option ℕ
root_of_word word = if nat_le 1 (length word) && nat_le (length word) 20 then option_and_then (at_most largest_root) (number_in 10 word) else None

-- a kind of reference objects is a word
abbrev pub kind_of_word : List ℕ → Option RefKind
kind_of_word word =
    if bytes_eq word (codes "soft") then Some references.Soft
    else if bytes_eq word (codes "weak") then Some references.Weak
    else if bytes_eq word (codes "final") then Some references.Final
    else if bytes_eq word (codes "phantom") then Some references.Phantom
    else None

-- a strength is a word, in upper case
abbrev pub strength_of_word : List ℕ → Option Strength
strength_of_word word =
    if bytes_eq word (codes "STRONG") then Some strengths.Strong
    else if bytes_eq word (codes "SOFT") then Some strengths.Soft
    else if bytes_eq word (codes "WEAK") then Some strengths.Weak
    else if bytes_eq word (codes "FINAL") then Some strengths.Final
    else if bytes_eq word (codes "PHANTOM") then Some strengths.Phantom
    else if bytes_eq word (codes "UNREACHABLE") then Some strengths.Unreachable
    else None

-- the group of primitive arrays that a word names: t and the number of a basic type
abbrev pub array_group_of_word : List ℕ → Option Group
array_group_of_word word =
    if bytes_eq word (codes "t4") then Some (groups.Prim 4)
    else if bytes_eq word (codes "t5") then Some (groups.Prim 5)
    else if bytes_eq word (codes "t6") then Some (groups.Prim 6)
    else if bytes_eq word (codes "t7") then Some (groups.Prim 7)
    else if bytes_eq word (codes "t8") then Some (groups.Prim 8)
    else if bytes_eq word (codes "t9") then Some (groups.Prim 9)
    else if bytes_eq word (codes "t10") then Some (groups.Prim 10)
    else if bytes_eq word (codes "t11") then Some (groups.Prim 11)
    else None

-- a group is the ID of a class, the type of the elements of primitive arrays, or c for the classes
abbrev pub group_of_word : List ℕ → Option Group
group_of_word word =
    if bytes_eq word (codes "c") then Some groups.Classes
    else option_or (array_group_of_word word) (option_map (λ (id : ℕ). groups.Class id) (id_of_word word))

-- the slot of a letter and a number
abbrev pub lettered_slot : ℕ → ℕ → Option Slot
lettered_slot letter i =
    if letter == 102 then Some (slots.Field i)
    else if letter == 101 then Some (slots.Element i)
    else if letter == 115 then Some (slots.Static i)
    else if letter == 107 then Some (slots.Const i)
    else None

-- a numbered slot is one of the letters f, e, s and k, and a number
abbrev pub numbered_slot : List ℕ → Option Slot
numbered_slot [] = None
numbered_slot (letter ∷ digits) = option_and_then (lettered_slot letter) (number_of_word digits)

-- a slot is a word of its own, or a numbered one
abbrev pub slot_of_word : List ℕ → Option Slot
slot_of_word word =
    if bytes_eq word (codes "class") then Some slots.OfClass
    else if bytes_eq word (codes "super") then Some slots.Super
    else if bytes_eq word (codes "loader") then Some slots.Loader
    else if bytes_eq word (codes "signers") then Some slots.Signers
    else if bytes_eq word (codes "domain") then Some slots.Domain
    else numbered_slot word

-- the only word, where there is one and no other
abbrev pub only_word : List (List ℕ) → Option (List ℕ)
only_word [] = None
only_word (word ∷ []) = Some word
only_word (word ∷ more ∷ rest) = None

-- what the arguments spell, where they spell something
abbrev pub spelled : {X : Type 0} → Option X → Result X LineFault
spelled None = Err faults.BadArgument
spelled (Some x) = Ok x

-- what is spelled by a word and one ID: `strength ID`, `chain ID`, `slots ID`, `into ID`, `object ID`, `clear ID` and `add ID`
abbrev pub with_id : {X : Type 0} → (ℕ → X) → List (List ℕ) → Result X LineFault
with_id make arguments = spelled (option_map make (option_and_then id_of_word (only_word arguments)))

-- `classes STRENGTH` and `top STRENGTH`
abbrev pub with_strength : (Strength → Query) → List (List ℕ) → Result Query LineFault
with_strength make arguments = spelled (option_map make (option_and_then strength_of_word (only_word arguments)))

-- `members G STRENGTH`
abbrev pub members_of : Option Group → Option Strength → Option Query
members_of None strength = None
members_of (Some group) strength = option_map (λ (s : Strength). queries.Members group s) strength

abbrev pub members_query : List (List ℕ) → Result Query LineFault
members_query [] = Err faults.BadArgument
members_query (group ∷ rest) = spelled (members_of (group_of_word group) (option_and_then strength_of_word (only_word rest)))

-- `fell M`, `freed M` and `moved M`
abbrev pub with_mark_number : (ℕ → Query) → List (List ℕ) → Result Query LineFault
with_mark_number make arguments = spelled (option_map make (option_and_then number_of_word (only_word arguments)))

-- what takes no word: `roots`, `events`, `mark`, `private`, `back` and `quit`
abbrev pub bare : {X : Type 0} → X → List (List ℕ) → Result X LineFault
bare x [] = Ok x
bare x (more ∷ rest) = Err faults.BadArgument

-- bytes that print as one character each, without the space
abbrev pub is_printing : ℕ → Bool
is_printing b = nat_le 0x21 b && nat_le b 0x7e

-- `find TEXT`: a word of such bytes
abbrev pub find_of_word : List ℕ → Option Query
find_of_word word = if list_all is_printing word then Some queries.Find else None

abbrev pub find_query : List (List ℕ) → Result Query LineFault
find_query arguments = spelled (option_and_then find_of_word (only_word arguments))

-- a query, by its first word, in lower case, and the arguments, which have to fit
abbrev pub query_of : List ℕ → List (List ℕ) → Result Query LineFault
query_of word arguments =
    if bytes_eq word (codes "strength") then with_id (λ id. queries.Strength id) arguments
    else if bytes_eq word (codes "chain") then with_id (λ id. queries.Chain id) arguments
    else if bytes_eq word (codes "slots") then with_id (λ id. queries.Slots id) arguments
    else if bytes_eq word (codes "into") then with_id (λ id. queries.Into id) arguments
    else if bytes_eq word (codes "object") then with_id (λ id. queries.Object id) arguments
    else if bytes_eq word (codes "roots") then bare queries.Roots arguments
    else if bytes_eq word (codes "classes") then with_strength (λ s. queries.Classes s) arguments
    else if bytes_eq word (codes "members") then members_query arguments
    else if bytes_eq word (codes "fell") then with_mark_number (λ m. queries.Fell m) arguments
    else if bytes_eq word (codes "events") then bare queries.Events arguments
    else if bytes_eq word (codes "top") then with_strength (λ s. queries.Top s) arguments
    else if bytes_eq word (codes "freed") then with_mark_number (λ m. queries.Freed m) arguments
    else if bytes_eq word (codes "moved") then with_mark_number (λ m. queries.Moved m) arguments
    else if bytes_eq word (codes "find") then find_query arguments
    else Err faults.UnknownCommand

-- the whole answer to a query is asked for
abbrev pub asks : Result Query LineFault → Result Command LineFault
asks (Err f) = Err f
asks (Ok query) = Ok (commands.Ask None query)

-- the first lines of the answer to a query: anything else behind `head N` is a wrong argument
abbrev pub asks_head : Option ℕ → Result Query LineFault → Result Command LineFault
asks_head None query = Err faults.BadArgument
asks_head (Some n) (Err f) = Err faults.BadArgument
asks_head (Some n) (Ok query) = Ok (commands.Ask (Some n) query)

-- `head N QUERY`
abbrev pub head_command : List (List ℕ) → Result Command LineFault
head_command [] = Err faults.BadArgument
head_command (n ∷ []) = Err faults.BadArgument
head_command (n ∷ word ∷ arguments) = asks_head (number_of_word n) (query_of word arguments)

-- `cut ID SLOT`
abbrev pub cut_of : Option ℕ → Option Slot → Option Command
cut_of None slot = None
cut_of (Some id) slot = option_map (λ (s : Slot). commands.Edit (edits.Cut id s)) slot

abbrev pub cut_command : List (List ℕ) → Result Command LineFault
cut_command [] = Err faults.BadArgument
cut_command (id ∷ rest) = spelled (cut_of (id_of_word id) (option_and_then slot_of_word (only_word rest)))

-- `drop R` and `clearall KIND`
abbrev pub drop_command : List (List ℕ) → Result Command LineFault
drop_command arguments = spelled (option_map (λ (r : ℕ). commands.Edit (edits.Drop r)) (option_and_then root_of_word (only_word arguments)))

abbrev pub clearall_command : List (List ℕ) → Result Command LineFault
clearall_command arguments = spelled (option_map (λ (kind : RefKind). commands.Edit (edits.ClearAll kind)) (option_and_then kind_of_word (only_word arguments)))

-- `cutall ID fN`: any other slot is a wrong argument
abbrev pub field_of_slot : Slot → Option ℕ
field_of_slot (slots.Field i) = Some i
field_of_slot (slots.Element i) = None
field_of_slot (slots.Static i) = None
field_of_slot (slots.Const i) = None
field_of_slot slots.OfClass = None
field_of_slot slots.Super = None
field_of_slot slots.Loader = None
field_of_slot slots.Signers = None
field_of_slot slots.Domain = None

abbrev pub cutall_of : Option ℕ → Option ℕ → Option Command
cutall_of None field = None
cutall_of (Some id) field = option_map (λ (i : ℕ). commands.Edit (edits.CutAll id i)) field

abbrev pub cutall_command : List (List ℕ) → Result Command LineFault
cutall_command [] = Err faults.BadArgument
cutall_command (id ∷ rest) = spelled (cutall_of (id_of_word id) (option_and_then field_of_slot (option_and_then slot_of_word (only_word rest))))

-- `undo`, and `undo N`
abbrev pub undo_command : List (List ℕ) → Result Command LineFault
undo_command [] = Ok (commands.Undo None)
undo_command (number ∷ rest) = spelled (option_map (λ (k : ℕ). commands.Undo (Some k)) (option_and_then number_of_word (only_word (number ∷ rest))))

-- `names on` and `names off`
abbrev pub switch_of_word : List ℕ → Option Bool
switch_of_word word =
    if bytes_eq word (codes "on") then Some true
    else if bytes_eq word (codes "off") then Some false
    else None

abbrev pub names_command : List (List ℕ) → Result Command LineFault
names_command arguments = spelled (option_map (λ (on : Bool). commands.Names on) (option_and_then switch_of_word (only_word arguments)))

-- the commands that change the log, and the queries
abbrev pub change_command : List ℕ → List (List ℕ) → Result Command LineFault
change_command word arguments =
    if bytes_eq word (codes "cut") then cut_command arguments
    else if bytes_eq word (codes "clear") then with_id (λ id. commands.Edit (edits.Clear id)) arguments
    else if bytes_eq word (codes "drop") then drop_command arguments
    else if bytes_eq word (codes "add") then with_id (λ id. commands.Edit (edits.Add id)) arguments
    else if bytes_eq word (codes "clearall") then clearall_command arguments
    else if bytes_eq word (codes "cutall") then cutall_command arguments
    else if bytes_eq word (codes "undo") then undo_command arguments
    else asks (query_of word arguments)

-- the first word decides, in lower case; then the arguments have to fit
abbrev pub command_of_words : List (List ℕ) → Result Command LineFault
command_of_words [] = Err faults.UnknownCommand
command_of_words (word ∷ arguments) =
    if bytes_eq word (codes "head") then head_command arguments
    else if bytes_eq word (codes "names") then names_command arguments
    else if bytes_eq word (codes "mark") then bare commands.Mark arguments
    else if bytes_eq word (codes "private") then bare commands.Private arguments
    else if bytes_eq word (codes "back") then bare commands.Back arguments
    else if bytes_eq word (codes "quit") then bare commands.Quit arguments
    else change_command word arguments

-- the last of words, and this one where there is none
abbrev pub last_of : List ℕ → List (List ℕ) → List ℕ
last_of word [] = word
last_of word (next ∷ rest) = last_of next rest

-- the last word of a line that isn't too long: what `find` looks for
abbrev pub last_word : List ℕ → List ℕ
last_word line = if nat_lt longest_line (length line) then [] else last_of [] (words_of line)

-- the command that a line spells, or the first of its faults: too long, unknown, a wrong argument
abbrev pub command_of : List ℕ → Result Command LineFault
command_of line = if nat_lt longest_line (length line) then Err faults.LineTooLong else command_of_words (words_of line)

-- the line spells `quit`
abbrev pub is_quit_command : Result Command LineFault → Bool
is_quit_command (Err f) = false
is_quit_command (Ok (commands.Ask most query)) = false
is_quit_command (Ok (commands.Names on)) = false
is_quit_command (Ok (commands.Edit edit)) = false
is_quit_command (Ok (commands.Undo number)) = false
is_quit_command (Ok commands.Mark) = false
is_quit_command (Ok commands.Private) = false
is_quit_command (Ok commands.Back) = false
is_quit_command (Ok commands.Quit) = true

abbrev pub is_quit : List ℕ → Bool
is_quit line = is_quit_command (command_of line)

-- the lines that are run: all up to the first `quit`, with it
abbrev pub run_lines : List (List ℕ) → List (List ℕ)
run_lines [] = []
run_lines (line ∷ rest) = if is_quit line then line ∷ [] else line ∷ run_lines rest
