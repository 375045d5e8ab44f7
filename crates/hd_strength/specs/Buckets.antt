-- Offers by what they give.
-- Source: this project.
use Rattle.std.specs.Prelude.{◌≡◌, ◌≢◌, List, [], ◌∷◌, ◌++◌}
use Rattle.hd_terms.specs.declared.Strength.{Strength}
use Rattle.hd_terms.specs.declared.Strength.TheVariants as strengths
use Rattle.hd_strength.specs.declared.buckets.Offer.{Offer}
use Rattle.hd_strength.specs.declared.buckets.Buckets.{Buckets}

-- the offers of a strength, the first made first
abbrev pub bucket : Buckets → Strength → List Offer
bucket b strengths.Unreachable = []
bucket b strengths.Phantom = b.phantom.items
bucket b strengths.Final = b.finals.items
bucket b strengths.Weak = b.weak.items
bucket b strengths.Soft = b.soft.items
bucket b strengths.Strong = b.strong.items

-- an offer is added, behind those of its strength
pub record AddsTo (old new : Buckets) (s : Strength) (x : Offer) : Type 0 where
  pub here : bucket new s ≡ bucket old s ++ x ∷ []
  pub others : (t : Strength) → t ≢ s → bucket new t ≡ bucket old t

-- the first offer of a strength is taken out
pub record TakesFirst (old new : Buckets) (s : Strength) (x : Offer) : Type 0 where
  pub here : bucket old s ≡ x ∷ bucket new s
  pub others : (t : Strength) → t ≢ s → bucket new t ≡ bucket old t
