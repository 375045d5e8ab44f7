-- Supports renewed in a region by those of a search afresh.
use Rattle.std.specs.Prelude.{◌≡◌, ◌≢◌, ℕ, ◌+◌, ◌<◌, ◌≤◌, ◌⊎◌, List, ◌∷◌, [], ◌++◌, length, Contains}
use Rattle.hd_terms.specs.Chains.{NoneTwice}
use Rattle.hd_terms.specs.Regions.{StrengthChange, changed_objects}
use Rattle.hd_terms.specs.Settled.{Reached, reached_at}
use Rattle.hd_repair.specs.declared.marking.Known.{Known}
use Rattle.hd_repair.specs.declared.marking.Known.TheVariants as knowns
use Rattle.hd_repair.specs.Marking.{known_at}

-- no stamp is greater, and it is no greater than it has to be
pub record IsGreatestStamp (ks : List Reached) (m : ℕ) : Type 0 where
  pub greatest : (o : ℕ) → (reached_at ks o).stamp ≤ m
  pub least : (n : ℕ) → ((o : ℕ) → (reached_at ks o).stamp ≤ n) → m ≤ n

-- what is found of an object, with a greater stamp
abbrev pub raised : ℕ → Reached → Reached
raised base k = record { strength = k.strength; support = k.support; stamp = k.stamp + base }

-- the change of an object's strength
abbrev pub change_at : (ks fs : List Reached) (o : ℕ) → StrengthChange
change_at ks fs o = record { object = o; before = (reached_at ks o).strength; after = (reached_at fs o).strength }

-- the change is noted, if the strength differs
abbrev pub IsNoted : (ks fs : List Reached) (o : ℕ) (changes changes' : List StrengthChange) → Type 0
IsNoted ks fs o changes changes' = (((reached_at ks o).strength ≢ (reached_at fs o).strength) × (changes' ≡ changes ++ change_at ks fs o ∷ []))
    ⊎ (((reached_at ks o).strength ≡ (reached_at fs o).strength) × (changes' ≡ changes))

-- one object is as it was found, and the change of its strength is noted
pub record IsRenewedAt (ks ks' fs : List Reached) (base o : ℕ) (changes changes' : List StrengthChange) : Type 0 where
  pub count : length ks' ≡ length ks
  pub here : reached_at ks' o ≡ raised base (reached_at fs o)
  pub others : (x : ℕ) → x ≢ o → reached_at ks' x ≡ reached_at ks x
  pub noted : IsNoted ks fs o changes changes'

-- the objects below n that are inside are as they were found, and all others are as they were
pub record AreRenewed (ks fs ks' : List Reached) (known : List Known) (base n : ℕ) : Type 0 where
  pub count : length ks' ≡ length ks
  pub inside : (o : ℕ) → o < n → known_at known o ≡ knowns.Inside → reached_at ks' o ≡ raised base (reached_at fs o)
  pub others : (o : ℕ) → (o < n → known_at known o ≢ knowns.Inside) → reached_at ks' o ≡ reached_at ks o

-- the changes of the objects below n that are inside
pub record AreChangesBelow (ks fs : List Reached) (known : List Known) (n : ℕ) (changes : List StrengthChange) : Type 0 where
  pub once : NoneTwice (changed_objects changes)
  pub below : (o : ℕ) → Contains (changed_objects changes) o → (o < n) × (known_at known o ≡ knowns.Inside)
  pub each : (d : StrengthChange) → Contains changes d → ((reached_at ks d.object).strength ≡ d.before) × ((reached_at fs d.object).strength ≡ d.after)
      × (d.before ≢ d.after)
  pub all : (o : ℕ) → o < n → known_at known o ≡ knowns.Inside → (reached_at ks o).strength ≢ (reached_at fs o).strength
      → Contains (changed_objects changes) o

-- all objects that are inside are as they were found, with stamps above all that were kept, and all others are as they were; the
-- changes are told
pub record IsRenewal (ks fs : List Reached) (known : List Known) (ks' : List Reached) (changes : List StrengthChange) : Type 0 where
  pub base : ℕ
  pub greatest : IsGreatestStamp ks base
  pub renewed : AreRenewed ks fs ks' known base (length ks)
  pub told : AreChangesBelow ks fs known (length ks) changes
