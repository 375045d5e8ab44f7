-- Objects marked as inside or outside the region of a loss.
use Rattle.std.specs.Prelude.{◌≡◌, ◌≢◌, ℕ, ◌+◌, ◌*◌, ◌≤◌, ◌⊎◌, List, length, Contains, slice_index_or, sum_by}
use Rattle.hd_terms.specs.EdgeRows.{Rows, degree}
use Rattle.hd_terms.specs.Regions.{Holding, InLossRegion, StrengthChange}
use Rattle.hd_terms.specs.Settled.{Reached, reached_at}
use Rattle.hd_repair.specs.declared.losing.Lost.{Lost}
use Rattle.hd_repair.specs.declared.losing.Lost.TheVariants as losts
use Rattle.hd_repair.specs.declared.marking.Known.{Known}
use Rattle.hd_repair.specs.declared.marking.Known.TheVariants as knowns
use Rattle.hd_repair.specs.declared.marking.Marks.{Marks}

-- what is known of the object of a number
abbrev pub known_at : List Known → ℕ → Known
known_at known o = slice_index_or known o knowns.Outside

-- where an object is, if that is known
abbrev pub IsKnownAs : List Reached → List Holding → Known → ℕ → Type 0
IsKnownAs ks lost knowns.Unknown o = Unit {0}
IsKnownAs ks lost knowns.Inside o = InLossRegion ks lost o
IsKnownAs ks lost knowns.Outside o = InLossRegion ks lost o → ⊥

-- what is known is right, and each object whose support is lost itself is known to be inside
pub record AreKnown (ks : List Reached) (lost : List Holding) (known : List Known) : Type 0 where
  pub right : (o : ℕ) → IsKnownAs ks lost (known_at known o) o
  pub direct : (o : ℕ) → Contains lost (record { target = o; holder = (reached_at ks o).support }) → known_at known o ≡ knowns.Inside

-- a stored chain was followed: all objects on the way are where its end is, and the first one is on the way, or known itself
pub record HaveFollowed (ks : List Reached) (lost : List Holding) (known : List Known) (path : List ℕ) (o : ℕ) (found : Known) : Type 0 where
  pub right : (x : ℕ) → Contains path x → IsKnownAs ks lost found x
  pub first : found ≢ knowns.Unknown → Contains path o ⊎ (known_at known o ≡ found)

-- of each object it is known whether it is inside
pub record AreMarks (ks : List Reached) (lost : List Holding) (marks : Marks) : Type 0 where
  pub count : length marks.known.items ≡ length ks
  pub known : AreKnown ks lost marks.known.items
  pub all : (o : ℕ) → known_at marks.known.items o ≢ knowns.Unknown

-- the looks so far and those of a search are together at most twice the degree of the region
pub record IsLarge (r : Rows) (ks : List Reached) (lost : List Holding) (looks search : ℕ) (found : Marks) : Type 0 where
  pub marks : AreMarks ks lost found
  pub few : (region : List ℕ) → ((o : ℕ) → InLossRegion ks lost o → Contains region o) → looks + search ≤ 2 * sum_by (degree r) region

-- what holds of the changes, where a loss ended with them
abbrev pub IfSettled : Lost → (List StrengthChange → Type 0) → Type 0
IfSettled (losts.Settled changes) P = P changes.items
IfSettled (losts.Large found) P = Unit {0}

-- what holds of the marks, where it ended with them
abbrev pub IfAsked : Lost → (Marks → Type 0) → Type 0
IfAsked (losts.Settled changes) P = Unit {0}
IfAsked (losts.Large found) P = P found

-- an object is inside exactly where two strengths of it differ
abbrev pub IsMarkedByChange : (ks fs : List Reached) → List Known → ℕ → Type 0
IsMarkedByChange ks fs known o = (((reached_at ks o).strength ≢ (reached_at fs o).strength) × (known_at known o ≡ knowns.Inside))
    ⊎ (((reached_at ks o).strength ≡ (reached_at fs o).strength) × (known_at known o ≢ knowns.Inside))
