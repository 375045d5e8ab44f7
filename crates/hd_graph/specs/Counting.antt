-- Counting the slots of objects.
-- Source: this project.
use Rattle.std.specs.Prelude.{ℕ, Bool, is_some, List, count_by}
use Rattle.hd_terms.specs.Dump.{SlotEntry, Object}
use Rattle.hd_terms.specs.Edges.{index_of}

-- a slot is an edge: its ID is an object's
abbrev pub is_edge : List Object → SlotEntry → Bool
is_edge objects s = is_some (index_of objects s.id)

-- how many slots of an object are edges
abbrev pub edges_of : List Object → Object → ℕ
edges_of objects x = count_by (is_edge objects) x.slots
