use Rattle.std.proofs.Common.{◌≡◌, length}
use Rattle.hd_classes.specs.Paths.{Leads}
use Rattle.hd_classes.specs.Sources.{table_of}
use Rattle.hd_classes.proofs.path.climb.Given as goal

-- as many classes as steps
abbrev pub invariant-loop-step : goal.invariant-loop-step
invariant-loop-step l = (l.path.start ≡ l.start) × Leads (table_of l.source) l.path × (length l.path.classes.items ≡ l._step)
