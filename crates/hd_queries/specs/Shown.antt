-- How a slot is shown, by what is read of it.
-- Source: this project.
use Rattle.std.specs.Prelude.{◌==◌, Bool, not, if◌then◌else◌}
use Rattle.hd_terms.specs.declared.SlotMode.TheVariants as modes
use Rattle.hd_terms.specs.declared.SlotRow.{SlotRow}
use Rattle.hd_terms.specs.SlotRows.{mode_of}
use Rattle.hd_graph.specs.declared.graph.SlotRead.{SlotRead}

-- a slot whose reference a live edit takes away, or doesn't
abbrev pub shown : SlotRead → Bool → SlotRow
shown read removed = record {
  slot = read.slot;
  kind = read.kind;
  id = read.id;
  mode = if read.id == 0 then modes.Null else mode_of read.target (not removed);
}
