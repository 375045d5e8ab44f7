-- How lists are kept: their elements one after another, and where those of each lie.
use Rattle.std.specs.Prelude.{ℕ, ◌+◌, ◌<◌, ◌≤◌, ◌^◌, List, length, map, take, drop, All}
use Rattle.hd_names.specs.declared.lists.Part.{Part}
use Rattle.hd_names.specs.declared.lists.Lists.TheInside.{Inside}

-- the elements of a part
abbrev pub part_of : {T : Type 0} → List T → Part → List T
part_of elements part = take part.len (drop part.start elements)

abbrev pub lists_of : {T : Type 0} → List T → List Part → List (List T)
lists_of elements parts = map (part_of elements) parts

-- a part lies among `n` elements
abbrev pub IsWithin : ℕ → Part → Type 0
IsWithin n part = part.start + part.len ≤ n

abbrev pub lists_in : {T : Type 0} → Inside T → List (List T)
lists_in a = lists_of a.elements.items a.parts.items

-- each part lies among the elements, and numbers of four bytes count the lists
pub record AreLists {T : Type 0} (a : Inside T) : Type 0 where
  pub within : All (IsWithin (length a.elements.items)) a.parts.items
  pub few : length a.parts.items < 2 ^ 32
