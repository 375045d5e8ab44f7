-- What one pass over a part of the sub-records makes, and what the passes over all parts make together.
use Rattle.std.specs.Prelude.{◌≡◌, ℕ, ◌+◌, ◌-◌, ◌*◌, ◌/◌, ◌^◌, ◌<◌, ◌⊎◌, List, [], ◌∷◌, ◌++◌, length, drop, Result, Ok, Err}
use Rattle.hd_terms.specs.declared.IdSize.{IdSize}
use Rattle.hd_terms.specs.declared.errors.Cause.TheVariants as causes
use Rattle.hd_terms.specs.declared.errors.ReadFault.{ReadFault}
use Rattle.hd_terms.specs.SubRecords.{Sub}
use Rattle.hd_terms.specs.Classes.{KnownClasses}
use Rattle.hd_terms.specs.ReadFaults.{fault}
use Rattle.hd_shapes.specs.PackedShapes.{ShapeLists}
use Rattle.hd_shapes.specs.JoinedShapes.{joined_objects}
use Rattle.hd_slots.specs.Table.{Table}
use Rattle.hd_slots.specs.JoinedInside.{AreOfOneFile}
use Rattle.hd_graph.specs.declared.number.NumberedStretch.{NumberedStretch}
use Rattle.hd_graph.specs.declared.stretch.MadeStretch.{MadeStretch}
use Rattle.hd_graph.specs.Building.{HasAllRows, HasAllShapes, stretch}
use Rattle.hd_graph.specs.Numbering.{IsNumbered, IsObjectFaultOrMemory, JoinsNumbers}

-- these are the numbers, the rows and the shapes of the objects of sub-records
pub record IsMade (known : KnownClasses) (bytes : List ℕ) (size : IdSize) (list : List Sub) (m : MadeStretch) : Type 0 where
  pub numbers : IsNumbered known size list m.numbers.ids m.numbers.roots.items m.numbers.tally
  pub rows : HasAllRows known bytes size list m.rows.slot_table
  pub shapes : HasAllShapes known size list m.rows.shapes.objects

-- where a part begins, if a list is cut into this many
abbrev pub cut : {X : Type 0} → ℕ → ℕ → List X → ℕ
cut parts part list = length list * part / parts

-- the items of a part
abbrev pub part_of : {X : Type 0} → ℕ → ℕ → List X → List X
part_of parts part list = stretch (cut parts part list) (cut parts (part + 1) list - cut parts part list) list

-- what a pass over a part answers
abbrev pub Answer : Type 0
Answer = Result MadeStretch ReadFault

-- it answers what it made, or the first fault of objects from where the part begins
abbrev pub IsPart : KnownClasses → List ℕ → IdSize → List Sub → ℕ → ℕ → Answer → Type 0
IsPart known bytes size list parts part (Ok m) = IsMade known bytes size (part_of parts part list) m
IsPart known bytes size list parts part (Err f) = IsObjectFaultOrMemory known size (drop (cut parts part list) list) f

-- what was made of one more part is joined to numbers, rows and shapes
pub record Joins (part : Answer) (n : NumberedStretch) (tables : List Table) (lists : List ShapeLists) (all : NumberedStretch)
    (tables' : List Table) (lists' : List ShapeLists) : Type 0 where
  pub made : MadeStretch
  pub is : part ≡ Ok made
  pub numbers : JoinsNumbers n made.numbers all
  pub tables_are : tables' ≡ tables ++ made.rows.slot_table ∷ []
  pub lists_are : lists' ≡ lists ++ made.rows.shapes ∷ []

-- out of memory, or the fault of a part before which no other stands
abbrev pub IsFirstFaultOrMemory : Answer → List Table → ReadFault → Type 0
IsFirstFaultOrMemory part tables f = (f ≡ fault causes.OutOfMemory 0) ⊎ ((tables ≡ []) × (part ≡ Err f))

-- the rows and the shapes of parts can be joined
pub record CanBeJoined (tables : List Table) (lists : List ShapeLists) : Type 0 where
  pub file : AreOfOneFile tables
  pub as_many : length lists ≡ length tables
  pub few_shapes : length (joined_objects lists) < 2 ^ 32
