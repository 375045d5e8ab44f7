-- The dump that a graph stands for.
use Rattle.std.specs.Prelude.{◌<◌, ◌^◌, [], length, map, unwrap_or, All}
use Rattle.hd_terms.specs.Dump.{Dump, Repeated, Root}
use Rattle.hd_graph.specs.declared.graph.Graph.TheInside.{Inside}
use Rattle.hd_graph.specs.declared.graph.StoredRoot.{StoredRoot}
use Rattle.hd_graph.specs.declared.graph.Repeats.{Repeats}
use Rattle.hd_graph.specs.Shapes.{IsSmall, row_objects, AreColumns}

-- a root as it is kept
abbrev pub root_of_row : StoredRoot → Root
root_of_row r = record { kind = r.kind; id = r.id }

-- what is repeated, as it is kept
abbrev pub repeated_in : Repeats → Repeated
repeated_in r = record { objects = r.objects; strings = r.strings; loads = r.loads }

-- how phantom references are followed; a row and a shape for each object, the roots, what is repeated, how many instances are
-- opaque, the names of classes, and the names that go with class objects, if they are kept
abbrev pub dump_of_graph : Inside → Dump
dump_of_graph a = record {
  mode = a.mode;
  objects = row_objects a.shapes.objects a.slot_table.ids a.slot_table.rows;
  roots = map root_of_row a.roots.items;
  repeated = repeated_in a.repeats;
  opaque = a.opaque;
  names = a.names;
  classes = unwrap_or a.classes [];
}

-- what holds of what is kept: a row and a shape for each object, no more recorded bytes than a file has, and numbers of four
-- bytes suffice
pub record IsGraph (a : Inside) : Type 0 where
  pub columns : AreColumns a.shapes.objects a.slot_table.ids a.slot_table.rows
  pub small : All IsSmall a.shapes.objects
  pub few : length a.slot_table.ids < 2 ^ 31
  pub few_roots : length a.roots.items < 2 ^ 32
