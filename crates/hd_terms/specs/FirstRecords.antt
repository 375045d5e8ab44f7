-- The first of several records of one key, and what is repeated.
-- Source: HPROF binary format. Where an ID has several object sub-records, UTF8 or LOAD CLASS records the first in file
-- order stands: this project's choice.
use Rattle.std.specs.Prelude.{ℕ, ◌==◌, Bool, if◌then◌else◌, List, take, count_by, Option, Some, None}
use Rattle.std.specs.Option.{option_map}
use Rattle.std.specs.List.{filter_map, list_any, enumerate_from}
use Rattle.hd_terms.specs.SubRecords.{ClassItem, Item, Instance, ObjArray, PrimArray, Sub}
use Rattle.hd_terms.specs.SubRecords as subs

-- the element at a place is the first of its key: none before it has it
abbrev pub first_one : {X : Type 0} → (X → ℕ) → List X → ℕ × X → Option X
first_one key all (i, x) = if list_any (λ y. key x == key y) (take i all) then None else Some x

-- the first element of each key
abbrev pub first_of_each : {X : Type 0} → (X → ℕ) → List X → List X
first_of_each key all = filter_map (first_one key all) (enumerate_from 0 all)

-- the element at a place has the key of an earlier one
abbrev pub is_repeat : {X : Type 0} → (X → ℕ) → List X → ℕ × X → Bool
is_repeat key all (i, x) = list_any (λ y. key x == key y) (take i all)

-- how many elements have the key of an earlier one
abbrev pub repeats : {X : Type 0} → (X → ℕ) → List X → ℕ
repeats key all = count_by (is_repeat key all) (enumerate_from 0 all)

-- the ID of the object of a sub-record, if it is an object's
abbrev pub id_of_item : Item → Option ℕ
id_of_item (subs.Root kind id) = None
id_of_item (subs.Class c) = Some c.id
id_of_item (Instance id class values) = Some id
id_of_item (ObjArray id class elements) = Some id
id_of_item (PrimArray id element count) = Some id

-- a sub-record of an object, with the object's ID
abbrev pub object_sub : Sub → Option (ℕ × Sub)
object_sub s = option_map (λ (id : ℕ). (id, s)) (id_of_item s.item)

-- the sub-records of objects that count: the first of each ID
abbrev pub first_subs : List Sub → List (ℕ × Sub)
first_subs list = first_of_each (λ (p : ℕ × Sub). p.0) (filter_map object_sub list)
