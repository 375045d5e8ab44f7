-- The faults of classes and of objects, in file order.
-- Source: HPROF binary format, CLASS DUMP and INSTANCE DUMP, for what a class's chain and an instance's values are. That an
-- instance whose class isn't known passes, and the places of the faults, are this project's choice.
use Rattle.std.specs.Prelude.{ℕ, ◌==◌, Bool, true, false, not, if◌then◌else◌, List, Option, Some, None}
use Rattle.std.specs.Option.{option_map_or}
use Rattle.std.specs.List.{filter_map}
use Rattle.hd_terms.specs.declared.IdSize.{IdSize}
use Rattle.hd_terms.specs.declared.errors.Cause.{Cause}
use Rattle.hd_terms.specs.declared.errors.Cause.TheVariants as causes
use Rattle.hd_terms.specs.declared.errors.ReadFault.{ReadFault}
use Rattle.hd_terms.specs.SubRecords.{ClassItem, Item, Instance, ObjArray, PrimArray, Sub}
use Rattle.hd_terms.specs.SubRecords as subs
use Rattle.hd_terms.specs.FirstRecords.{first_subs}
use Rattle.hd_terms.specs.Classes.{ClassTable, KnownClasses, ResolvedClass, class_of_item, never_ends, layout_len}

-- a fault of a cause at the tag of a sub-record, if a test holds
abbrev pub fault_if : Bool → Cause → Sub → Option ReadFault
fault_if holds cause s = if holds then Some (record { cause = cause; offset = s.offset }) else None

-- a class whose chain never ends
abbrev pub class_fault : ClassTable → ℕ × Sub → Option ReadFault
class_fault t (id, s) = fault_if (option_map_or (λ (c : ClassItem). never_ends t.classes c.id) (class_of_item s.item) false) causes.ClassCycle s

-- the faults of the classes among sub-records
abbrev pub class_faults : ClassTable → List Sub → List ReadFault
class_faults t list = filter_map (class_fault t) (first_subs list)

-- the values of an instance have another number of bytes than its class's layout
abbrev pub is_size_mismatch : KnownClasses → IdSize → Item → Bool
is_size_mismatch known size (subs.Root kind id) = false
is_size_mismatch known size (subs.Class c) = false
is_size_mismatch known size (Instance id class values) = option_map_or (λ (k : ResolvedClass). not (values.len == layout_len size k.layout)) (known class) false
is_size_mismatch known size (ObjArray id class elements) = false
is_size_mismatch known size (PrimArray id element count) = false

-- an object with ID 0, which stands for null, or an instance whose values don't fit
abbrev pub object_fault : KnownClasses → IdSize → ℕ × Sub → Option ReadFault
object_fault known size (id, s) = if id == 0 then fault_if true causes.NullObject s else fault_if (is_size_mismatch known size s.item) causes.InstanceSize s

-- the faults of the objects among sub-records
abbrev pub object_faults : KnownClasses → IdSize → List Sub → List ReadFault
object_faults known size list = filter_map (object_fault known size) (first_subs list)
