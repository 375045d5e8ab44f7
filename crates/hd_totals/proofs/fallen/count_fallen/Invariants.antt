use Rattle.std.proofs.Common.{◌≡◌, take}
use Rattle.std.specs.Prelude.{count_by}
use Rattle.hd_terms.specs.Regions.{StrengthChange}
use Rattle.hd_totals.specs.Fallen.{falls_to}
use Rattle.hd_totals.proofs.fallen.count_fallen.Given as goal

-- those among the first changes by which an object becomes unreachable are counted
abbrev pub invariant-loop-change : goal.invariant-loop-change
invariant-loop-change l = l.count ≡ count_by (λ (d : StrengthChange). falls_to d.before d.after) (take l.change-index l.changes)
