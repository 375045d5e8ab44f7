-- The edges of a dump: its references from objects to objects, by number.
-- Source: this project. A reference to an ID that is no object's is no edge.
use Rattle.std.specs.Prelude.{ℕ, ◌==◌, List, position, Option}
use Rattle.std.specs.Option.{option_map}
use Rattle.std.specs.List.{flat_map, filter_map, filter, enumerate_from}
use Rattle.hd_terms.specs.declared.RefKind.{RefKind}
use Rattle.hd_terms.specs.Ranks.{kind_of_references, same_kind}
use Rattle.hd_terms.specs.Paths.{Edge}
use Rattle.hd_terms.specs.Dump.{SlotEntry, Object, Dump}

-- the number of the object with an ID, if there is one
abbrev pub index_of : List Object → ℕ → Option ℕ
index_of objects id = position (λ (x : Object). id == x.id) objects

-- the edge of a slot of the object of a number, where the ID in it is an object's
abbrev pub edge_of : List Object → ℕ → SlotEntry → Option Edge
edge_of objects source s = option_map (λ (target : ℕ). record { source = source; slot = s.slot; target = target; kind = s.kind }) (index_of objects s.id)

-- the edges of one object's slots, in their order
abbrev pub edges_from : List Object → ℕ × Object → List Edge
edges_from objects numbered = filter_map (edge_of objects numbered.0) numbered.1.slots

-- the edges of a dump: those of each object, joined
abbrev pub edges : Dump → List Edge
edges dump = flat_map (edges_from dump.objects) (enumerate_from 0 dump.objects)

-- the edges of a dump that go through the referents of a kind of reference objects, in the order of their sources
abbrev pub kind_edges : Dump → RefKind → List Edge
kind_edges dump kind = filter (λ (e : Edge). same_kind e.kind (kind_of_references kind)) (edges dump)
