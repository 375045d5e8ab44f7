use Rattle.std.proofs.Common.{◌≡◌, ◌++◌, map, take}
use Rattle.hd_totals.specs.Rows.{row_group}
use Rattle.hd_queries.proofs.groups.push_groups.Given as goal

-- the groups of the rows that were passed are there
abbrev pub invariant-loop-row : goal.invariant-loop-row
invariant-loop-row l = l.groups.items ≡ l.fn.groups.items ++ map row_group (take l.row-index l.rows)
