-- Edges and roots with whether they stand, as they are read.
use Rattle.hd_edges.specs.declared.EdgeMark.{EdgeMark}
use Rattle.hd_edges.specs.declared.RootMark.{RootMark}
use Rattle.hd_terms.specs.EdgeRows.{MarkedEdge, MarkedRoot}

-- an edge that was read
abbrev pub marked_edge : EdgeMark → MarkedEdge
marked_edge x = record { edge = record { source = x.source; slot = x.slot; target = x.target; kind = x.kind }; stands = x.stands }

-- a root that was read
abbrev pub marked_root : RootMark → MarkedRoot
marked_root x = record { root = record { number = x.number; target = x.target }; stands = x.stands }
