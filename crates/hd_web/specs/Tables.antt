-- What a table of desks gives.
-- Source: this project.
use Rattle.std.specs.Prelude.{◌≡◌, ◌<◌, ℕ, Bool, true, false, List, slice_get, slice_set, Option, None, Some}
use Rattle.hd_web.specs.declared.table.Place.{Place}
use Rattle.hd_web.specs.declared.table.Place.TheVariants as places

-- the seat is free
abbrev pub IsFree : {S D : Type 0} → Place S D → Type 0
IsFree (places.Free seat) = Unit {0}
IsFree places.Taken = ⊥
IsFree (places.Left desk) = ⊥

-- the session has ended
abbrev pub is_left : {S D : Type 0} → Place S D → Bool
is_left (places.Free seat) = false
is_left places.Taken = false
is_left (places.Left desk) = true

-- there is a place of this number, and its seat is free
abbrev pub IsFreeAt : {S D : Type 0} → List (Place S D) → ℕ → Type 0
IsFreeAt {S} {D} all number = (place : Place S D) × (slice_get all number ≡ Some place) × IsFree place

-- the free seat of least number was taken: its place is taken since, and all others are as they were
pub record Takes {S D : Type 0} (old new : List (Place S D)) (number : ℕ) (seat : S) : Type 0 where
  pub was_free : slice_get old number ≡ Some (places.Free seat)
  pub is_least : (k : ℕ) → k < number → ¬ (IsFreeAt old k)
  pub is_taken : new ≡ slice_set old number places.Taken

-- no seat is free, and nothing changes
pub record TakesNone {S D : Type 0} (old new : List (Place S D)) : Type 0 where
  pub none_free : (k : ℕ) → ¬ (IsFreeAt old k)
  pub same : new ≡ old
