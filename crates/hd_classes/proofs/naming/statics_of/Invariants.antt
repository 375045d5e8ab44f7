use Rattle.std.proofs.Common.{◌-◌, ◌≤◌, length, map, take}
use Rattle.hd_classes.specs.Sources.{table_of}
use Rattle.hd_classes.specs.Naming.{NotesMore, AreLists, static_names}
use Rattle.hd_classes.proofs.naming.statics_of.Given as goal

-- the class objects so far
abbrev pub invariant-loop-first : goal.invariant-loop-first
invariant-loop-first l = record {
  within : l.i ≤ length l.source.classes.entries;
  more : NotesMore (table_of l.source) l.initial.names l.names;
  statics : AreLists (table_of l.source) l.names.texts (map static_names (take l.i l.source.classes.entries)) l.statics;
}

abbrev pub decreases-loop-first : goal.decreases-loop-first
decreases-loop-first l = length l.source.classes.entries - l.i
