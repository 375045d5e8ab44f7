-- Rows of edges and roots by object, each with whether it stands: what can be looked at of an edited dump, look by look.
-- Source: this project. Edges that a live edit takes away keep their places.
use Rattle.std.specs.Prelude.{◌≡◌, ◌↔◌, ℕ, ◌+◌, ◌<◌, ◌==◌, Bool, true, List, length, Contains, Option}
use Rattle.std.specs.Option.{option_map}
use Rattle.std.specs.List.{filter, filter_map, flat_map, enumerate_from}
use Rattle.hd_terms.specs.declared.Event.{Event}
use Rattle.hd_terms.specs.Paths.{Edge, RootEntry, Standing}
use Rattle.hd_terms.specs.Dump.{SlotEntry, Object, Dump, object_at}
use Rattle.hd_terms.specs.Edges.{edge_of}
use Rattle.hd_terms.specs.EditedDump.{RootOn, is_untouched, root_stands, root_entries, held_by, standing}

-- an edge, and whether it stands
pub record MarkedEdge : Type 0 where
  pub edge : Edge
  pub stands : Bool

-- a root on an object, and whether it stands
pub record MarkedRoot : Type 0 where
  pub root : RootEntry
  pub stands : Bool

-- the edges from an object, those to it, and the roots on it, by the object's number; and what stands of all
pub record Rows : Type 0 where
  pub objects : ℕ
  pub out : ℕ → List MarkedEdge
  pub into : ℕ → List MarkedEdge
  pub roots : ℕ → List MarkedRoot
  pub standing : Standing

-- the rows are those of what stands: the edges from an object are in its row, those marked so stand, and there are no others
-- that stand; an edge is in the row of its target as well, and no other edge is there; the same of roots
pub record AreRows (r : Rows) : Type 0 where
  pub out_source : (o : ℕ) (x : MarkedEdge) → Contains (r.out o) x → x.edge.source ≡ o
  pub out_target : (o : ℕ) (x : MarkedEdge) → Contains (r.out o) x → x.edge.target < r.objects
  pub out_stands : (o : ℕ) (x : MarkedEdge) → Contains (r.out o) x → x.stands ≡ true → Contains r.standing.edges x.edge
  pub out_all : (e : Edge) → Contains r.standing.edges e → Contains (r.out e.source) (record { edge = e; stands = true })
  pub into_source : (o : ℕ) (x : MarkedEdge) → Contains (r.into o) x → x.edge.source < r.objects
  pub into_out : (o : ℕ) (x : MarkedEdge) → Contains (r.into o) x ↔ ((x.edge.target ≡ o) × Contains (r.out x.edge.source) x)
  pub root_target : (o : ℕ) (x : MarkedRoot) → Contains (r.roots o) x → x.root.target ≡ o
  pub root_stands : (o : ℕ) (x : MarkedRoot) → Contains (r.roots o) x → x.stands ≡ true → Contains r.standing.roots x.root
  pub root_all : (x : RootEntry) → Contains r.standing.roots x → Contains (r.roots x.target) (record { root = x; stands = true })

-- the degree of an object: its edges and its roots, standing or not
abbrev pub degree : Rows → ℕ → ℕ
degree r o = length (r.out o) + (length (r.roots o) + length (r.into o))

-- the edge of a slot of an object of a number, where the ID in it is an object's, with whether it stands under a log
abbrev pub marked_edge : Dump → List Event → Object → ℕ → SlotEntry → Option MarkedEdge
marked_edge dump log x o s = option_map (λ (e : Edge). record { edge = e; stands = is_untouched log x s }) (edge_of dump.objects o s)

-- the edges of one object's slots, in their order
abbrev pub edges_of : Dump → List Event → ℕ × Object → List MarkedEdge
edges_of dump log (o, x) = filter_map (marked_edge dump log x o) x.slots

-- the edges to the object of a number, in the order of their sources and of these ones' slots
abbrev pub edges_into : Dump → List Event → ℕ → List MarkedEdge
edges_into dump log o = filter (λ (x : MarkedEdge). x.edge.target == o) (flat_map (edges_of dump log) (enumerate_from 0 dump.objects))

-- what a root holds, where its ID is an object's, with whether it stands under a log
abbrev pub marked_root : Dump → List Event → RootOn → Option MarkedRoot
marked_root dump log root = option_map (λ (x : RootEntry). record { root = x; stands = root_stands (length dump.roots) log root.number }) (held_by dump root)

-- the roots on the object of a number: those of the dump, then those that events add, live or not
abbrev pub roots_on : Dump → List Event → ℕ → List MarkedRoot
roots_on dump log o = filter (λ (x : MarkedRoot). x.root.target == o) (filter_map (marked_root dump log) (root_entries dump log))

-- the rows of a dump under a log
abbrev pub rows_of : Dump → List Event → Rows
rows_of dump log = record {
  objects = length dump.objects;
  out = λ o. edges_of dump log (o, object_at dump o);
  into = edges_into dump log;
  roots = roots_on dump log;
  standing = standing dump log;
}
