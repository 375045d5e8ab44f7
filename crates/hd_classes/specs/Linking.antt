-- Keeping the classes whose chains are whole, each below its super class.
use Rattle.std.specs.Prelude.{◌≡◌, ◌⊎◌, ℕ, ◌==◌, ◌+◌, ◌<◌, ◌^◌, true, List, length, map, nat_eq, unwrap_or, Some, All}
use Rattle.std.specs.Option.{option_map, option_or}
use Rattle.std.specs.List.{IsDistinct}
use Rattle.std.specs.Map.{lookup, keys_of}
use Rattle.hd_terms.specs.SubRecords.{ClassItem}
use Rattle.hd_terms.specs.Classes.{ClassTable, ResolvedClass, fields_of, referent_in, reference_kind, resolved_class}
use Rattle.hd_classes.specs.declared.linked.LinkedClass.{LinkedClass}
use Rattle.hd_classes.specs.declared.linking.Inherited.{Inherited}
use Rattle.hd_classes.specs.Fields.{field_view}
use Rattle.hd_classes.specs.Links.{Row, View, nothing, numbered, views, IsBelow, Declares, OwnsFields, IsLinked, is_kept, Keeps}

-- what a class takes from the class of an ID
pub record IsInherited (rows : List Row) (id : ℕ) (a : Inherited) : Type 0 where
  pub is : numbered (views rows) a.number ≡ unwrap_or (lookup (λ (x : ℕ). id == x) (views rows)) nothing
  pub earlier : IsBelow (length rows) a.number
  pub declares : Declares rows a.fields_above
  pub skips : (numbered (views rows) a.fields_above).layout ≡ (numbered (views rows) a.number).layout
  pub counted : length (numbered (views rows) a.number).layout ≡ a.layout_len
  pub referent : (numbered (views rows) a.number).referent ≡ a.referent
  pub kind : (numbered (views rows) a.number).kind ≡ a.kind

-- a class that takes this from above: its own fields stand before those of its super class's layout
pub record IsLinkedUnder (t : ClassTable) (c : ClassItem) (a : Inherited) (l : LinkedClass) : Type 0 where
  pub super_number : l.super_number ≡ a.number
  pub fields : map field_view l.fields.items ≡ fields_of c
  pub fields_above : l.fields_above ≡ a.fields_above
  pub counted : length l.fields.items + a.layout_len ≡ l.layout_len
  pub short : l.layout_len < 2 ^ 29
  pub referent : l.referent ≡ option_or (referent_in t (fields_of c)) (option_map (λ (i : ℕ). i + length l.fields.items) a.referent)
  pub kind : l.kind ≡ unwrap_or (reference_kind t c.id) a.kind

-- classes are linked, each once, and what is known of them is right
pub record AreKept (t : ClassTable) (rows : List Row) : Type 0 where
  pub linked : IsLinked rows
  pub owned : All OwnsFields rows
  pub known : (id : ℕ) (k : ResolvedClass) → lookup (λ (x : ℕ). id == x) (views rows) ≡ Some k → resolved_class t id ≡ Some k
  pub short : All (λ (p : View). length p.1.layout < 2 ^ 29) (views rows)
  pub distinct : IsDistinct nat_eq (keys_of rows)

-- a chain goes on whole from an ID: it is 0, or its class is kept
abbrev pub IsTop : List Row → ℕ → Type 0
IsTop rows id = (id ≡ 0) ⊎ (is_kept rows id ≡ true)

-- the class of an ID is kept
pub record KeepsClass (t : ClassTable) (id : ℕ) (rows rows' : List Row) : Type 0 where
  pub kept : AreKept t rows'
  pub more : Keeps rows rows'
  pub has : is_kept rows' id ≡ true

-- and so are the classes of a path from an ID
pub record KeepsPath (t : ClassTable) (start : ℕ) (rows rows' : List Row) : Type 0 where
  pub kept : AreKept t rows'
  pub more : Keeps rows rows'
  pub top : IsTop rows' start
