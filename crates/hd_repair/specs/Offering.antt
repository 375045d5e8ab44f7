-- Offers going in and coming out.
use Rattle.std.specs.Prelude.{◌≡◌, ◌≢◌, ◌+◌, ◌≤◌, ◌⊎◌, List, length, Contains}
use Rattle.hd_terms.specs.declared.Strength.{Strength}
use Rattle.hd_terms.specs.Ranks.{rank}
use Rattle.hd_repair.specs.declared.offers.Offer.{Offer}

-- an offer is added; one of no strength may be left out
pub record AddsOffer (old new : List Offer) (f : Offer) : Type 0 where
  pub kept : (x : Offer) → Contains old x → Contains new x
  pub made : (x : Offer) → Contains new x → Contains old x ⊎ (x ≡ f)
  pub there : 1 ≤ rank f.strength → Contains new f
  pub count : length new ≤ length old + 1

-- no offer gives more than this, and one gives it
pub record IsMost (offers : List Offer) (s : Strength) : Type 0 where
  pub offer : Offer
  pub made : Contains offers offer
  pub strength : offer.strength ≡ s
  pub most : (x : Offer) → Contains offers x → rank x.strength ≤ rank s

-- no offer is of a strength
abbrev pub NoneOf : List Offer → Strength → Type 0
NoneOf offers s = (x : Offer) → Contains offers x → x.strength ≢ s

-- an offer of a strength is taken out
pub record TakesOne (old new : List Offer) (s : Strength) (f : Offer) : Type 0 where
  pub strength : f.strength ≡ s
  pub made : Contains old f
  pub left : (x : Offer) → Contains old x → (x ≡ f) ⊎ Contains new x
  pub within : (x : Offer) → Contains new x → Contains old x
  pub fewer : length new + 1 ≡ length old

-- other offers are added
pub record JoinsOffers (old others new : List Offer) : Type 0 where
  pub kept : (x : Offer) → Contains old x → Contains new x
  pub added : (x : Offer) → Contains others x → Contains new x
  pub made : (x : Offer) → Contains new x → Contains old x ⊎ Contains others x
  pub count : length new ≡ length old + length others
