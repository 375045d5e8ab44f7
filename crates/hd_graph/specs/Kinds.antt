-- The edges that go through referents, as they are kept: a list for each kind of reference objects.
use Rattle.std.specs.Prelude.{◌≡◌, ◌≤◌, ◌<◌, ℕ, ◌+◌, ◌*◌, ◌/◌, ◌^◌, List, [], ◌∷◌, ◌++◌, length, map, slice_range, Option, Some, None}
use Rattle.std.specs.Option.{option_and_then}
use Rattle.std.specs.List.{flat_map, filter, slice_get, slice_index_or, enumerate_from}
use Rattle.hd_terms.specs.declared.EdgeKind.{EdgeKind}
use Rattle.hd_terms.specs.declared.RefKind.{RefKind}
use Rattle.hd_terms.specs.declared.RefKind.TheVariants as references
use Rattle.hd_terms.specs.Ranks.{kind_of_references, same_kind}
use Rattle.hd_terms.specs.Paths.{Edge}
use Rattle.hd_terms.specs.Dump.{Object, no_object}
use Rattle.hd_terms.specs.Edges.{edge_of, edges_from}
use Rattle.hd_graph.specs.declared.kinds.KeptEdge.{KeptEdge}
use Rattle.hd_graph.specs.declared.kinds.KindLists.{KindLists}

-- what is kept of a kind
abbrev pub kept_of : KindLists → RefKind → List KeptEdge
kept_of lists references.Soft = lists.soft.items
kept_of lists references.Weak = lists.weak.items
kept_of lists references.Final = lists.finals.items
kept_of lists references.Phantom = lists.phantom.items

-- the edge that is kept so: that of the slot at an index of an object
abbrev pub kept_edge : List Object → KeptEdge → Option Edge
kept_edge objects kept = option_and_then (λ (x : Object). option_and_then (edge_of objects kept.source) (slice_get x.slots kept.index))
    (slice_get objects kept.source)

-- the edges of a kind among edges
abbrev pub of_kind : RefKind → List Edge → List Edge
of_kind kind es = filter (λ (e : Edge). same_kind e.kind (kind_of_references kind)) es

-- these edges are kept so
abbrev pub AreKept : List Object → List KeptEdge → List Edge → Type 0
AreKept objects kept es = map (kept_edge objects) kept ≡ map (λ (e : Edge). Some e) es

-- the edges from the object of a number
abbrev pub edges_at : List Object → ℕ → List Edge
edges_at objects o = edges_from objects (o, slice_index_or objects o no_object)

-- one edge of an object, that of the slot at an index, goes through its referent, and no other
pub record IsOnlyEdge (objects : List Object) (o index : ℕ) (kind : EdgeKind) : Type 0 where
  pub edge : Edge
  pub kept : kept_edge objects (record { source = o; index = index }) ≡ Some edge
  pub through : edge.kind ≡ kind
  pub only : (k : RefKind) → of_kind k (edges_at objects o) ≡ of_kind k (edge ∷ [])

-- so for the index and kind that are found, or none of its edges does
abbrev pub IsReferentEdge : List Object → ℕ → Option (ℕ × EdgeKind) → Type 0
IsReferentEdge objects o None = (k : RefKind) → of_kind k (edges_at objects o) ≡ []
IsReferentEdge objects o (Some p) = IsOnlyEdge objects o p.0 p.1

-- these edges are kept behind what was, and they are one at most
pub record KeepsMore (objects : List Object) (es : List Edge) (old new : List KeptEdge) : Type 0 where
  pub more : List KeptEdge
  pub goes_on : new ≡ old ++ more
  pub kept : AreKept objects more es
  pub few : length more ≤ 1

-- so of each kind the edges of the object of a number
abbrev pub KeepsEdgesOf : List Object → ℕ → KindLists → KindLists → Type 0
KeepsEdgesOf objects o old new = (k : RefKind) → KeepsMore objects (of_kind k (edges_at objects o)) (kept_of old k) (kept_of new k)

-- the edges from the objects from one number on, before another
abbrev pub edges_between : List Object → ℕ → ℕ → List Edge
edges_between objects start end = flat_map (edges_from objects) (slice_range (enumerate_from 0 objects) start end)

-- of each kind the edges of the objects from one number on, before another, are kept
pub record AreKindsBetween (objects : List Object) (start end : ℕ) (lists : KindLists) : Type 0 where
  pub edges : (k : RefKind) → AreKept objects (kept_of lists k) (of_kind k (edges_between objects start end))
  pub few : (k : RefKind) → length (kept_of lists k) + start ≤ end

-- the number of the first object of a part, where `n` objects are cut into four; of part 4 it is their count
abbrev pub part_start : ℕ → ℕ → ℕ
part_start n part = n * part / 4

-- of each kind the edges of the objects of a part are kept
abbrev pub AreKindsOfPart : List Object → ℕ → KindLists → Type 0
AreKindsOfPart objects part lists = AreKindsBetween objects (part_start (length objects) part) (part_start (length objects) (part + 1)) lists

-- of each kind the edges of all objects are kept, and numbers of four bytes suffice to count them
pub record AreKinds (objects : List Object) (lists : KindLists) : Type 0 where
  pub edges : (k : RefKind) → AreKept objects (kept_of lists k) (of_kind k (flat_map (edges_from objects) (enumerate_from 0 objects)))
  pub few : (k : RefKind) → length (kept_of lists k) < 2 ^ 31
