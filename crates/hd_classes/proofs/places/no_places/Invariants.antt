use Rattle.std.proofs.Common.{◌≡◌, None, replicate}
use Rattle.hd_classes.proofs.places.no_places.Given as goal

-- none for each class so far
abbrev pub invariant-loop : goal.invariant-loop
invariant-loop l = l.places.items ≡ replicate l.counter None
