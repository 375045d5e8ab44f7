use Rattle.std.proofs.Common.{◌≡◌, ◌-◌, ◌≤◌, length, map, take}
use Rattle.hd_classes.specs.Sources.{table_of}
use Rattle.hd_classes.specs.Naming.{NotesMore, AreLists, field_row, field_names}
use Rattle.hd_classes.proofs.naming.field_rows.Given as goal

-- the classes so far
abbrev pub invariant-loop-id : goal.invariant-loop-id
invariant-loop-id l = record {
  within : l.i ≤ length l.known.entries;
  more : NotesMore (table_of l.source) l.initial.names l.names;
  rows : l.rows.items ≡ map field_row (take l.i l.known.entries);
  fields : AreLists (table_of l.source) l.names.texts (map field_names (take l.i l.known.entries)) l.fields;
}

abbrev pub decreases-loop-id : goal.decreases-loop-id
decreases-loop-id l = length l.known.entries - l.i
