-- What numbering the objects in file order comes to.
use Rattle.std.specs.Prelude.{◌≡◌, ◌⊎◌, ◌<◌, ◌==◌, ◌+◌, ◌^◌, ◌&&◌, not, if◌then◌else◌, ℕ, true, false, List, slice_get, [], ◌∷◌, ◌++◌, map, Some, All}
use Rattle.std.specs.List.{list_any, filter_map}
use Rattle.hd_terms.specs.declared.IdSize.{IdSize}
use Rattle.hd_terms.specs.declared.errors.Cause.TheVariants as causes
use Rattle.hd_terms.specs.declared.errors.ReadFault.{ReadFault}
use Rattle.hd_terms.specs.SubRecords.{Sub, Item}
use Rattle.hd_terms.specs.FirstRecords.{repeats}
use Rattle.hd_terms.specs.Classes.{KnownClasses}
use Rattle.hd_terms.specs.HeapFaults.{is_size_mismatch, object_faults}
use Rattle.hd_terms.specs.Objects.{is_opaque, opaque_in}
use Rattle.hd_terms.specs.ReadFaults.{fault}
use Rattle.hd_graph.specs.declared.graph.StoredRoot.{StoredRoot}
use Rattle.hd_graph.specs.declared.number.Tally.{Tally}
use Rattle.hd_graph.specs.declared.number.NumberedStretch.{NumberedStretch}
use Rattle.hd_graph.specs.GraphInside.{root_of_row}
use Rattle.hd_ids.specs.Noted.{is_noted, are_apart}
use Rattle.hd_classes.specs.Repeats.{NotesId}
use Rattle.hd_graph.specs.ArrayRows.{object_id, object_ids, roots_in}

-- out of memory, or the first fault of objects
abbrev pub IsObjectFaultOrMemory : KnownClasses → IdSize → List Sub → ReadFault → Type 0
IsObjectFaultOrMemory known size list f = (f ≡ fault causes.OutOfMemory 0) ⊎ (slice_get (object_faults known size list) 0 ≡ Some f)

-- these are the IDs of the objects among sub-records, each once, and the roots, and what is counted of them; no ID is 0,
-- and no instance has values of another size than its class
pub record IsNumbered (known : KnownClasses) (size : IdSize) (list : List Sub) (ids : List ℕ) (roots : List StoredRoot) (tally : Tally) : Type 0 where
  pub ids_are : ids ≡ object_ids list
  pub known_ids : (id : ℕ) → list_any (λ k. id == k) ids ≡ list_any (λ k. id == k) (filter_map object_id list)
  pub repeated_is : tally.repeated ≡ repeats (λ (id : ℕ). id) (filter_map object_id list)
  pub opaque_is : tally.opaque ≡ opaque_in known list
  pub roots_are : map root_of_row roots ≡ roots_in list
  pub no_null : All (λ id. 0 < id) ids
  pub no_fault : object_faults known size list ≡ []

-- what is counted of two stretches
abbrev pub joined_tally : Tally → Tally → Tally
joined_tally front back = record { repeated = front.repeated + back.repeated; opaque = front.opaque + back.opaque }

-- there is room to count both
pub record HaveRoom (front back : Tally) : Type 0 where
  pub repeated : front.repeated + back.repeated < 2 ^ 64
  pub opaque : front.opaque + back.opaque < 2 ^ 64

-- one more sub-record is numbered
abbrev pub NumbersOneMore : KnownClasses → IdSize → Sub → List ℕ → List StoredRoot → Tally → List ℕ → List StoredRoot → Tally → Type 0
NumbersOneMore known size s ids roots tally ids' roots' tally' = (front : List Sub) → IsNumbered known size front ids roots tally
    → IsNumbered known size (front ++ s ∷ []) ids' roots' tally'

-- one more sub-record of an object of an ID: it is noted, and if it is new it fits, and is counted if it is opaque
pub record NotesObject (known : KnownClasses) (size : IdSize) (item : Item) (id : ℕ) (ids : List ℕ) (tally : Tally) (ids' : List ℕ)
    (tally' : Tally) : Type 0 where
  pub some : 0 < id
  pub noted : NotesId id ids tally.repeated ids' tally'.repeated
  pub fits : is_noted ids id ≡ false → is_size_mismatch known size item ≡ false
  pub opaque : tally'.opaque ≡ tally.opaque + (if not (is_noted ids id) && is_opaque known item then 1 else 0)

-- out of memory, or a fault of an object of an ID at an offset: its ID is 0, or it is new and doesn't fit
pub data IsObjectStop (known : KnownClasses) (size : IdSize) (item : Item) (id offset : ℕ) (ids : List ℕ) : ReadFault → Type 0 where
  memory : IsObjectStop known size item id offset ids (fault causes.OutOfMemory 0)
  null : id ≡ 0 → IsObjectStop known size item id offset ids (fault causes.NullObject offset)
  size_mismatch : 0 < id → is_noted ids id ≡ false → is_size_mismatch known size item ≡ true
      → IsObjectStop known size item id offset ids (fault causes.InstanceSize offset)

-- out of memory, or the ID 0 at an offset
abbrev pub IsNullIdOrMemory : ℕ → ℕ → ReadFault → Type 0
IsNullIdOrMemory id offset f = (f ≡ fault causes.OutOfMemory 0) ⊎ ((id ≡ 0) × (f ≡ fault causes.NullObject offset))

-- out of memory, or a fault of a sub-record behind others that were numbered
abbrev pub StopsAt : KnownClasses → IdSize → Sub → List ℕ → ReadFault → Type 0
StopsAt known size s ids f = (f ≡ fault causes.OutOfMemory 0) ⊎ ((id : ℕ) × (object_id s ≡ Some id) × IsObjectStop known size s.item id s.offset ids f)

-- two stretches are numbered as one, the back behind the front: no ID is in both
pub record JoinsNumbers (front back all : NumberedStretch) : Type 0 where
  pub apart : are_apart front.ids back.ids ≡ true
  pub ids_are : all.ids ≡ front.ids ++ back.ids
  pub roots_are : all.roots.items ≡ front.roots.items ++ back.roots.items
  pub tally_is : all.tally ≡ joined_tally front.tally back.tally
