-- How rows of IDs are kept while they are made: of each slot the offset of its ID, or which of the shared offsets it is, in one list,
-- and where each row starts.
use Rattle.std.specs.Prelude.{◌≡◌, ℕ, List, length, map, All}
use Rattle.hd_slots.specs.declared.unresolved.UnresolvedSlots.TheInside.{Inside}
use Rattle.std.specs.Arc.{arc_value}
use Rattle.hd_slots.specs.Table.{Table, id_at, IsIdWithin}
use Rattle.hd_slots.specs.Parts.{table_from, AreOffsets}
use Rattle.hd_slots.specs.Shared.{offset_of, IsKept}

-- the offset of each slot's ID
abbrev pub offsets_in : Inside → List ℕ
offsets_in a = map (offset_of a.shared.offsets) a.items.items

abbrev pub table_of : Inside → Table
table_of a = table_from a.bytes.now a.id_size (arc_value a.ids) a.starts.items (offsets_in a)

pub record IsUnresolved (a : Inside) : Type 0 where
  pub rows : AreOffsets a.bytes.now a.id_size (arc_value a.ids) a.starts.items (offsets_in a)
  pub kept : All (IsKept a.id_size (length a.bytes.now) (length a.shared.offsets)) a.items.items
  pub shared : All (IsIdWithin a.id_size (length a.bytes.now)) a.shared.offsets
  pub ids_are : a.shared.ids ≡ map (id_at a.bytes.now a.id_size) a.shared.offsets
