-- What an object is, as far as its row of IDs doesn't say it.
use Rattle.std.specs.Prelude.{ℕ, List, Option}
use Rattle.hd_terms.specs.declared.Slot.{Slot}
use Rattle.hd_terms.specs.declared.EdgeKind.{EdgeKind}

pub data ObjectShape : Type 0 where
  -- an object array, or an instance of a class that isn't known, and its recorded bytes
  ObjectArray : (bytes : ℕ) → ObjectShape
  -- a primitive array: the type of its elements, and its recorded bytes
  PrimitiveArray : (element bytes : ℕ) → ObjectShape
  -- a class object: its recorded bytes, and the names of its slots
  ClassObject : (bytes : ℕ) → (names : List Slot) → ObjectShape
  -- an instance of a class that is known: its recorded bytes, the names of its slots, the one that is its referent, and the
  -- kind of the reference there
  Instance : (bytes : ℕ) → (names : List Slot) → (referent : Option Slot) → (kind : EdgeKind) → ObjectShape

abbrev pub shape_bytes : ObjectShape → ℕ
shape_bytes (ObjectArray bytes) = bytes
shape_bytes (PrimitiveArray element bytes) = bytes
shape_bytes (ClassObject bytes names) = bytes
shape_bytes (Instance bytes names referent kind) = bytes
