-- How offers are kept: a queue for each strength.
use Rattle.std.specs.Prelude.{◌≡◌, List, ◌∷◌, ◌++◌, map}
use Rattle.hd_terms.specs.declared.Strength.{Strength}
use Rattle.hd_terms.specs.declared.Strength.TheVariants as strengths
use Rattle.hd_repair.specs.declared.offers.Offer.{Offer}
use Rattle.hd_repair.specs.declared.offers.Queued.{Queued}
use Rattle.hd_repair.specs.declared.offers.Offers.TheInside.{Inside}

-- the offer in the queue of a strength
abbrev pub offer_at : Strength → Queued → Offer
offer_at s queued = record { target = queued.target; strength = s; support = queued.support }

-- an offer is the first in the queue of its strength, and the others are left
pub record IsFirstOf (s : Strength) (f : Offer) (old new : List Queued) : Type 0 where
  pub strength : f.strength ≡ s
  pub first : map (offer_at s) old ≡ f ∷ map (offer_at s) new

-- all offers, the greatest first
abbrev pub offers_in : Inside → List Offer
offers_in a =
    map (offer_at strengths.Strong) a.strong.items ++ (map (offer_at strengths.Soft) a.soft.items
    ++ (map (offer_at strengths.Weak) a.weak.items ++ (map (offer_at strengths.Final) a.finals.items ++ map (offer_at strengths.Phantom) a.phantom.items)))
