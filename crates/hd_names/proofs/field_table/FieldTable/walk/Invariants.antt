use Rattle.std.proofs.Common.{◌≡◌, ◌+◌, ◌-◌, ◌≤◌, drop}
use Rattle.std.specs.Option.{option_map_or}
use Rattle.hd_names.specs.Tables.{layout_in}
use Rattle.hd_names.proofs.field_table.FieldTable.walk.Given as goal

-- the fields up to the row are passed
abbrev pub invariant-loop-row : goal.invariant-loop-row
invariant-loop-row l = record {
  rest : l.rest ≤ l.field;
  passed : drop (l.field - l.rest) (layout_in l.self l.fn.from) ≡ layout_in l.self l.row;
}

abbrev pub decreases-loop-row : goal.decreases-loop-row
decreases-loop-row l = option_map_or (λ (number : _). number + 1) l.row 0
