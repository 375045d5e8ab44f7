-- What is reached so far, and what is offered.
-- Source: this project.
use Rattle.std.specs.Prelude.{◌≡◌, ℕ, ◌^◌, ◌≤◌, ◌<◌, ◌⊎◌, List, length, Contains, sum_by, nat_eq, if◌then◌else◌, Option, Some}
use Rattle.hd_terms.specs.declared.Event.{Event}
use Rattle.hd_terms.specs.declared.Mode.{Mode}
use Rattle.hd_terms.specs.declared.Strength.{Strength}
use Rattle.hd_terms.specs.declared.Strength.TheVariants as strengths
use Rattle.hd_terms.specs.Ranks.{rank, given_by, weaker_of}
use Rattle.hd_terms.specs.Paths.{Edge, RootEntry, Standing}
use Rattle.hd_terms.specs.Dump.{Dump}
use Rattle.hd_terms.specs.EditedDump.{standing}
use Rattle.hd_terms.specs.Settled.{Reached, reached_at, unreached, PassesOn, IsSupported, Settled}
use Rattle.hd_strength.specs.declared.buckets.Offer.{Offer}
use Rattle.hd_supports.specs.PackedReached.{reached_by_root}
use Rattle.hd_strength.specs.Rows.{root_at}

-- the rank kept of an object
abbrev pub rank_at : List Reached → ℕ → ℕ
rank_at ks o = rank (reached_at ks o).strength

-- what an edge gives its target
abbrev pub offered_strength : List Reached → Edge → Strength
offered_strength ks e = weaker_of (reached_at ks e.source).strength (given_by e.kind)

-- the offer of a slot, by its object and its index
abbrev pub offer_at : ℕ → ℕ → Offer
offer_at o i = record { source = o; index = i }

-- an object is held by a root, or nothing is known to reach it
abbrev pub IsHeldOrNot : Dump → List Event → List Reached → ℕ → Type 0
IsHeldOrNot dump log ks o = (reached_at ks o ≡ unreached)
    ⊎ ((r : ℕ) × (root_at dump log r ≡ Some (record { number = r; target = o })) × (reached_at ks o ≡ reached_by_root r))

-- objects that one of the first n roots holds are held, and nothing else is reached
pub record AreHeld (dump : Dump) (log : List Event) (ks : List Reached) (n : ℕ) : Type 0 where
  pub each : (o : ℕ) → IsHeldOrNot dump log ks o
  pub by_roots : (r : ℕ) → r < n → (x : RootEntry) → root_at dump log r ≡ Some x → (reached_at ks x.target).strength ≡ strengths.Strong

-- an edge from an object that passes its strength on gives this strength
pub record IsBacked (mode : Mode) (at : ℕ → ℕ → Option Edge) (ks : List Reached) (s : Strength) (x : Offer) : Type 0 where
  pub edge : Edge
  pub is : at x.source x.index ≡ Some edge
  pub passes_on : PassesOn mode (reached_at ks x.source)
  pub gives : s ≡ offered_strength ks edge

-- at least a rank is offered to an object
pub record IsPromised (at : ℕ → ℕ → Option Edge) (offers : Strength → Offer → Type 0) (given o : ℕ) : Type 0 where
  pub strength : Strength
  pub offer : Offer
  pub edge : Edge
  pub made : offers strength offer
  pub is : at offer.source offer.index ≡ Some edge
  pub target : edge.target ≡ o
  pub enough : given ≤ rank strength

-- an object has at least a rank, or is offered that
abbrev pub IsHadOrPromised : (ℕ → ℕ → Option Edge) → List Reached → (Strength → Offer → Type 0) → ℕ → ℕ → Type 0
IsHadOrPromised at ks offers given o = (given ≤ rank_at ks o) ⊎ IsPromised at offers given o

-- what is reached is supported and has at least the strength that is being spread; the objects of roots are strong; what a
-- slot gives that is done, its target has or is offered; each offer is backed and below the limit
pub record IsGrowing (g : Standing) (at : ℕ → ℕ → Option Edge) (ks : List Reached) (offers : Strength → Offer → Type 0) (s : Strength) (limit : ℕ)
    (IsDone : ℕ → ℕ → Type 0) : Type 0 where
  pub supported : (o : ℕ) → IsSupported g ks o (reached_at ks o).support
  pub by_roots : (r : RootEntry) → Contains g.roots r → (reached_at ks r.target).strength ≡ strengths.Strong
  pub by_edges : (o i : ℕ) (e : Edge) → IsDone o i → at o i ≡ Some e → PassesOn g.mode (reached_at ks o)
      → IsHadOrPromised at ks offers (rank (offered_strength ks e)) e.target
  pub backed : (t : Strength) (x : Offer) → offers t x → IsBacked g.mode at ks t x
  pub floor : (o : ℕ) → 1 ≤ rank_at ks o → rank s ≤ rank_at ks o
  pub ceiling : (t : Strength) (x : Offer) → offers t x → rank t < limit

-- how many objects nothing reaches yet
abbrev pub unreached_count : List Reached → ℕ
unreached_count ks = sum_by (λ k. if nat_eq (rank k.strength) 0 then 1 else 0) ks

-- what a search ends with: settled strengths of all objects, with no stamp above their number, which has 32 bits
pub record HasEnded (dump : Dump) (log : List Event) (ks : List Reached) : Type 0 where
  pub count : length ks ≡ length dump.objects
  pub few : length dump.objects < 2 ^ 32
  pub settled : Settled (standing dump log) ks
  pub stamps : (o : ℕ) → (reached_at ks o).stamp ≤ length dump.objects
