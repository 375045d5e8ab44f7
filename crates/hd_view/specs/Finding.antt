-- Edges among the slots of an object, by their indexes among the edges.
-- Source: this project.
use Rattle.std.specs.Prelude.{◌≡◌, ℕ, ◌<◌, ◌≤◌, ◌==◌, nat_le, Bool, true, ◌&&◌, if◌then◌else◌, List, length, take, Some, is_some, slice_get}
use Rattle.std.specs.List.{count_by}
use Rattle.hd_terms.specs.Dump.{SlotEntry, Dump, object_at}
use Rattle.hd_terms.specs.declared.Event.{Event}
use Rattle.hd_terms.specs.Edges.{index_of}
use Rattle.hd_terms.specs.EdgeRows.{MarkedEdge, marked_edge}
use Rattle.hd_view.specs.declared.finding.Cursor.{Cursor}

-- a slot is an edge: its ID is an object's
abbrev pub is_edge : Dump → SlotEntry → Bool
is_edge dump s = is_some (index_of dump.objects s.id)

-- how many of an object's slots before an index are edges
abbrev pub edges_before : Dump → ℕ → ℕ → ℕ
edges_before dump o slot = count_by (is_edge dump) (take slot (object_at dump o).slots)

-- how many of an object's slots are edges
abbrev pub edge_count : Dump → ℕ → ℕ
edge_count dump o = count_by (is_edge dump) (object_at dump o).slots

-- a cursor has as many edges of its object before it as it says
pub record IsCursor (dump : Dump) (cursor : Cursor) : Type 0 where
  pub within : cursor.slot ≤ length (object_at dump cursor.object).slots
  pub edges : cursor.edges ≡ edges_before dump cursor.object cursor.slot

-- an edge of an object, by its index among the edges, is the slot at an index
pub record IsEdgeAt (dump : Dump) (o edge slot : ℕ) : Type 0 where
  pub within : slot < length (object_at dump o).slots
  pub before : edges_before dump o slot ≡ edge
  pub is : (s : SlotEntry) → slice_get (object_at dump o).slots slot ≡ Some s → is_edge dump s ≡ true

-- where to look for an edge of an object from: the cursor, or, where that is another object's or past the edge, the first slot
abbrev pub start_from : Cursor → (o edge : ℕ) → Cursor
start_from cursor o edge = if (cursor.object == o) && nat_le cursor.edges edge then cursor else record { object = o; edges = 0; slot = 0 }

-- an edge is that of the slot at an index, with whether it stands under a log
pub record IsMark (dump : Dump) (log : List Event) (o index : ℕ) (m : MarkedEdge) : Type 0 where
  pub entry : SlotEntry
  pub there : slice_get (object_at dump o).slots index ≡ Some entry
  pub is : marked_edge dump log (object_at dump o) o entry ≡ Some m
