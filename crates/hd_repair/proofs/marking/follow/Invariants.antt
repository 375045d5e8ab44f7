use Rattle.std.proofs.Common.{◌≡◌, ℕ, ◌<◌, ◌⊎◌, List, Contains, length}
use Rattle.hd_terms.specs.Regions.{Holding, InLossRegion}
use Rattle.hd_repair.specs.Marking.{AreKnown}
use Rattle.hd_repair.proofs.marking.follow.Given as goal

-- all objects on the way are where the one is that the walk has come to
abbrev pub invariant-loop : goal.invariant-loop
invariant-loop l = record {
  at : l.at < length l.kept;
  within : (x : ℕ) → Contains l.path.items x → x < length l.kept;
  first : Contains l.path.items l.o ⊎ (l.at ≡ l.o);
  down : (lost : List Holding) → AreKnown l.kept lost l.known → (x : ℕ) → Contains l.path.items x → InLossRegion l.kept lost l.at → InLossRegion l.kept lost x;
  up : (lost : List Holding) → AreKnown l.kept lost l.known → (x : ℕ) → Contains l.path.items x → InLossRegion l.kept lost x → InLossRegion l.kept lost l.at;
}
