-- What classes are resolved from: the file, and its texts and classes by their IDs.
use Rattle.std.specs.Prelude.{◌≡◌, ℕ, ◌==◌, ◌/◌, ◌%◌, Bool, not, if◌then◌else◌, List, length, Some, None, All}
use Rattle.std.specs.Option.{option_map, option_or}
use Rattle.std.specs.List.{find, filter}
use Rattle.std.specs.Map.{lookup}
use Rattle.hd_terms.specs.declared.Span.{Span}
use Rattle.hd_terms.specs.declared.Text.{Text}
use Rattle.hd_terms.specs.declared.Load.{Load}
use Rattle.hd_terms.specs.SubRecords.{Sub}
use Rattle.hd_terms.specs.Classes.{ClassTable, class_table}
use Rattle.hd_records.specs.declared.records.Records.{Records}
use Rattle.hd_terms.specs.FirstRecords.{repeats}
use Rattle.hd_classes.specs.declared.names.FirstTexts.{FirstTexts}
use Rattle.hd_classes.specs.declared.source.Source.{Source}
use Rattle.hd_classes.specs.Known.{IsTextWithin, repeated_records}
use Rattle.hd_classes.specs.FirstClass.{HasFirstClasses}

-- a value is kept by an ID, unless one was kept by it already
abbrev pub KeepsFirst : {V : Type 0} → ℕ → V → (before after : List (ℕ × V)) → Type 0
KeepsFirst id value before after = (k : ℕ) → lookup (λ (x : ℕ). k == x) after ≡ option_or (lookup (λ (x : ℕ). k == x) before)
    (if k == id then Some value else None)

-- the first text of each ID is kept by the ID
abbrev pub HasFirstTexts : List Text → List (ℕ × Span) → Type 0
HasFirstTexts texts entries = (id : ℕ) → lookup (λ (x : ℕ). id == x) entries ≡ option_map (λ (x : Text). x.text) (find (λ (x : Text). id == x.id) texts)

-- an ID is on a side: that of the IDs whose eighth, rounded down, is odd, or that of all others
abbrev pub is_on_side : Bool → ℕ → Bool
is_on_side odd id = if odd then id / 8 % 2 == 1 else not (id / 8 % 2 == 1)

-- the texts whose IDs are on a side
abbrev pub texts_of_side : Bool → List Text → List Text
texts_of_side odd strings = filter (λ (x : Text). is_on_side odd x.id) strings

-- these are the first texts of a side, and `repeated` of this side have the ID of an earlier one
pub record AreFirstOfSide (odd : Bool) (strings : List Text) (entries : List (ℕ × Span)) (repeated : ℕ) : Type 0 where
  pub texts : HasFirstTexts (texts_of_side odd strings) entries
  pub count : repeated ≡ repeats (λ (x : Text). x.id) (texts_of_side odd strings)

-- these are the first texts, and `repeated` of them all have the ID of an earlier one
pub record AreFirstTexts (strings : List Text) (first : FirstTexts) : Type 0 where
  pub texts : HasFirstTexts strings first.texts
  pub repeated : first.repeated ≡ repeats (λ (x : Text). x.id) strings

-- the name of the first LOAD CLASS of each class is kept by the class's ID
abbrev pub HasFirstNames : List Load → List (ℕ × ℕ) → Type 0
HasFirstNames loads entries = (id : ℕ) → lookup (λ (x : ℕ). id == x) entries ≡ option_map (λ (l : Load). l.name) (find (λ (l : Load). id == l.class) loads)

-- the texts, loaded classes and class objects of a file
abbrev pub table_of : Source → ClassTable
table_of s = class_table s.bytes.now s.records.now.strings s.records.now.loads s.list.now

-- texts and classes are kept by their IDs, texts lie within the file, and it is known how many records are repeated
pub record IsSource (s : Source) : Type 0 where
  pub texts : HasFirstTexts s.records.now.strings s.texts
  pub names : HasFirstNames s.records.now.loads s.names.entries
  pub within : All (IsTextWithin (length s.bytes.now)) s.records.now.strings
  pub classes : HasFirstClasses s.list.now s.classes.entries
  pub repeated : s.repeated ≡ repeated_records (table_of s)

-- and they are those of this file
pub record IsSourceOf (bytes : List ℕ) (records : Records) (list : List Sub) (s : Source) : Type 0 where
  pub of_bytes : s.bytes.now ≡ bytes
  pub of_records : s.records.now ≡ records
  pub of_list : s.list.now ≡ list
  pub kept : IsSource s
