-- The roots as they are shown under a log: those of the dump, and those that live edits add.
-- Source: this project.
use Rattle.std.specs.Prelude.{Bool, if◌then◌else◌, List, length, map, filter, is_some}
use Rattle.hd_terms.specs.declared.RootMode.{RootMode}
use Rattle.hd_terms.specs.declared.RootMode.TheVariants as modes
use Rattle.hd_terms.specs.declared.RootRow.{RootRow}
use Rattle.hd_terms.specs.declared.Event.{Event}
use Rattle.hd_terms.specs.Dump.{Dump}
use Rattle.hd_terms.specs.Edges.{index_of}
use Rattle.hd_terms.specs.EditedDump.{RootOn, is_root, root_entries, root_stands}

-- a root on an ID that is no object's is absent, dropped or not; any other stands or is dropped
abbrev pub root_mode : (has_object stands : Bool) → RootMode
root_mode has_object stands = if has_object then (if stands then modes.Stands else modes.Dropped) else modes.Absent

-- how a root is shown
abbrev pub root_row : Dump → List Event → RootOn → RootRow
root_row dump log root = record {
  number = root.number;
  kind = root.kind;
  id = root.id;
  mode = root_mode (is_some (index_of dump.objects root.id)) (root_stands (length dump.roots) log root.number);
}

-- all roots in the order of their numbers, without those whose edit isn't live
abbrev pub root_rows : Dump → List Event → List RootRow
root_rows dump log = map (root_row dump log) (filter (λ (root : RootOn). is_root (length dump.roots) log root.number) (root_entries dump log))
