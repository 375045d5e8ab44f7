-- Objects to which nothing leads any more but what is gone. No offer can reach one but by what is gone itself.
use Rattle.std.specs.Prelude.{◌≡◌, ◌≢◌, ℕ, ◌+◌, ◌-◌, ◌≤◌, ◌⊎◌, Bool, true, List, [], ◌∷◌, ◌++◌, length, take, Contains}
use Rattle.hd_terms.specs.declared.Strength.TheVariants as strengths
use Rattle.hd_terms.specs.Chains.{NoneTwice}
use Rattle.hd_terms.specs.EdgeRows.{MarkedEdge, Rows}
use Rattle.hd_terms.specs.Paths.{Edge, RootEntry, Standing}
use Rattle.hd_terms.specs.Settled.{Reached, reached_at}
use Rattle.hd_repair.specs.declared.marking.Marks.{Marks}
use Rattle.hd_repair.specs.declared.rehanging.Halfway.{Halfway}
use Rattle.hd_repair.specs.declared.rehanging.Halfway.TheVariants as halves
use Rattle.hd_repair.specs.declared.waiting.Losing.{Losing}
use Rattle.hd_repair.specs.Hanging.{NoneLate}
use Rattle.hd_repair.specs.Losing.{looks_due, progress_of, IsSince, IsUnderway}
use Rattle.hd_terms.specs.Regions.{Holding}

-- no standing root is on an object, and each standing edge to it is from an unreachable one
pub record IsAlone (g : Standing) (ks : List Reached) (o : ℕ) : Type 0 where
  pub roots : (x : RootEntry) → Contains g.roots x → x.target ≢ o
  pub edges : (e : Edge) → Contains g.edges e → e.target ≡ o → (reached_at ks e.source).strength ≡ strengths.Unreachable

-- no root is on an object, and one edge leads to it
pub record HasOneSource (r : Rows) (o : ℕ) : Type 0 where
  pub roots : length (r.roots o) ≡ 0
  pub into : length (r.into o) ≡ 1

-- no root is on an object, and the one edge to it is from source
pub record IsOnlyFrom (r : Rows) (source o : ℕ) : Type 0 where
  pub one : HasOneSource r o
  pub edge : MarkedEdge
  pub out : Contains (r.out source) edge
  pub target : edge.edge.target ≡ o

-- the first of those that wait, of which there are alone, pass a test
pub record AreFirst (alone : ℕ) (waiting : List ℕ) (Passes : ℕ → Type 0) : Type 0 where
  pub few : alone ≤ length waiting
  pub each : (x : ℕ) → Contains (take alone waiting) x → Passes x

-- an object that joins those that wait comes before them, and counts as alone; or behind them
abbrev pub JoinsAlone : (r : Rows) (waiting waiting' : List ℕ) (alone alone' o : ℕ) → Type 0
JoinsAlone r waiting waiting' alone alone' o =
    ((alone' ≡ alone) × ((waiting' ≡ waiting) ⊎ (waiting' ≡ waiting ++ o ∷ [])))
    ⊎ ((alone' ≡ alone + 1) × (waiting' ≡ o ∷ waiting) × HasOneSource r o)

-- one of the first that wait was one of them before, or the one edge to it is from source
abbrev pub IsFirstOr : (r : Rows) (waiting : List ℕ) (alone source : ℕ) → ℕ → Type 0
IsFirstOr r waiting alone source x = Contains (take alone waiting) x ⊎ IsOnlyFrom r source x

-- the object that waits first is taken out, and whether it is alone is known
pub record TakesNext (old new : Losing) (o : ℕ) (is_alone : Bool) : Type 0 where
  pub waiting : old.waiting.items ≡ o ∷ new.waiting.items
  pub alone : new.alone ≡ old.alone - 1
  pub first : is_alone ≡ true → 1 ≤ old.alone
  pub rehung : new.rehung ≡ old.rehung
  pub lifted : new.lifted ≡ old.lifted
  pub gone : new.gone ≡ old.gone
  pub sought : new.sought ≡ old.sought

-- none is left that waits, and nothing changes
pub record FindsNone (old new : Losing) : Type 0 where
  pub before : old.waiting.items ≡ []
  pub alone : new.alone ≡ old.alone
  pub waiting : new.waiting.items ≡ []
  pub rehung : new.rehung ≡ old.rehung
  pub lifted : new.lifted ≡ old.lifted
  pub gone : new.gone ≡ old.gone
  pub sought : new.sought ≡ old.sought

-- what is gone is alone, or is among the sought ones
pub record AreSought (g : Standing) (ks : List Reached) (gone sought : List ℕ) : Type 0 where
  pub which : (x : ℕ) → Contains gone x → Contains sought x ⊎ IsAlone g ks x
  pub part : (x : ℕ) → Contains sought x → Contains gone x
  pub once : NoneTwice sought

-- no object is stronger than it was, but for those that nothing reaches now
abbrev pub AreAtMost : (ks ks' : List Reached) → Type 0
AreAtMost ks ks' = (x : ℕ) → ((reached_at ks' x).strength ≡ (reached_at ks x).strength) ⊎ ((reached_at ks' x).strength ≡ strengths.Unreachable)

-- what waits, is gone and is sought stays
pub record IsLeftOver (old new : Losing) : Type 0 where
  pub waiting : new.waiting.items ≡ old.waiting.items
  pub alone : new.alone ≡ old.alone
  pub gone : new.gone.objects.items ≡ old.gone.objects.items
  pub sought : new.sought.items ≡ old.sought.items

-- a loss is under way: what waits, hangs, or is gone is as it should be
pub record IsHalfway (r : Rows) (ks : List Reached) (losing : Losing) : Type 0 where
  pub underway : IsUnderway r.standing r.objects ks (progress_of losing) NoneLate
  pub first : AreFirst losing.alone losing.waiting.items (IsAlone r.standing ks)
  pub sought : AreSought r.standing ks losing.gone.objects.items losing.sought.items

-- a loss for which no object waits any more, since what was kept before it; its looks are those that were due
pub record IsDoneLosing (r : Rows) (ks0 : List Reached) (lost : List Holding) (ks : List Reached) (looks0 looks : ℕ) (losing : Losing) : Type 0 where
  pub few : looks ≤ looks0 + looks_due r (progress_of losing)
  pub none : losing.waiting.items ≡ []
  pub underway : IsUnderway r.standing r.objects ks (progress_of losing) NoneLate
  pub since : IsSince ks0 lost ks (progress_of losing)
  pub sought : AreSought r.standing ks losing.gone.objects.items losing.sought.items

-- what holds of a loss, where it came so far that none waits
abbrev pub IfDone : Halfway → (Losing → Type 0) → Type 0
IfDone (halves.Done losing) P = P losing
IfDone (halves.Large found) P = Unit {0}

-- what holds of the marks, where a loss ended with them
abbrev pub IfLarge : Halfway → (Marks → Type 0) → Type 0
IfLarge (halves.Done losing) P = Unit {0}
IfLarge (halves.Large found) P = P found
