-- How many of what a dump has.
-- Source: this project.
use Rattle.std.specs.Prelude.{ℕ, ◌==◌, Bool, ◌&&◌, not, List, length, is_none, count_by, sum_by}
use Rattle.hd_terms.specs.declared.Counts.{Counts}
use Rattle.hd_terms.specs.Dump.{SlotEntry, Object, Dump}
use Rattle.hd_terms.specs.Edges.{index_of, edges}

-- a slot is unresolved: it isn't null, and its ID is no object's
abbrev pub is_unresolved : List Object → SlotEntry → Bool
is_unresolved objects s = not (s.id == 0) && is_none (index_of objects s.id)

-- how many slots of an object are unresolved
abbrev pub unresolved_of : List Object → Object → ℕ
unresolved_of objects x = count_by (is_unresolved objects) x.slots

-- the counts of a dump
abbrev pub counts_of : Dump → Counts
counts_of dump = record {
  objects = length dump.objects;
  roots = length dump.roots;
  edges = length (edges dump);
  unresolved = sum_by (unresolved_of dump.objects) dump.objects;
  repeated_objects = dump.repeated.objects;
  repeated_strings = dump.repeated.strings;
  repeated_loads = dump.repeated.loads;
  opaque = dump.opaque;
}
