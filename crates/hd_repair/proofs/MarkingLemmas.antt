use Rattle.std.proofs.Common.{◌≡◌, ◌≢◌, ◌∙◌, ℕ, ◌+◌, ◌*◌, ◌<◌, ◌≤◌, ◌⊎◌, inl, inr, List, [], ◌∷◌, ◌++◌}
use Rattle.std.proofs.Common.{All, Contains, length, sum_by, refl, sym, ap, subst, arith}
use Rattle.std.proofs.lemmas.Bool.{cases_lt, cases_eq}
use Rattle.std.proofs.lemmas.List.{get_or_past}
use Rattle.std.proofs.lemmas.List.Sums.{sum_by-append}
use Rattle.std.proofs.lemmas.List.Elements.{All-contains, Contains-push_cases}
use Rattle.hd_terms.specs.declared.Slot.{Slot}
use Rattle.hd_terms.specs.declared.Support.{Support}
use Rattle.hd_terms.specs.declared.Support.TheVariants as supports
use Rattle.hd_terms.specs.Chains.{NoneTwice}
use Rattle.hd_terms.specs.EdgeRows.{Rows, degree}
use Rattle.hd_terms.proofs.Lower.{NoneTwice-push}
use Rattle.hd_terms.specs.Regions.{Holding, InLossRegion, by_support, by_source}
use Rattle.hd_terms.specs.Settled.{Reached, reached_at, unreached}
use Rattle.hd_repair.specs.declared.marking.Known.{Known}
use Rattle.hd_repair.specs.declared.marking.Known.TheVariants as knowns
use Rattle.hd_repair.specs.Marking.{known_at, AreKnown, HaveFollowed, IsKnownAs, IsMarkedByChange}
use Rattle.hd_repair.proofs.DistinctLemmas.{sum_by-part, sum_by-cons}
use Rattle.hd_repair.proofs.HungLemmas.{source_in}

-- what holds an object, as an item of a loss
abbrev pub own : List Reached → ℕ → Holding
own ks o = record { target = o; holder = (reached_at ks o).support }

-- an object without support isn't in a region; nor is one that no edge supports, where its root isn't lost
pub loose_outside : (ks : List Reached) (lost : List Holding) (o : ℕ) → All (λ (h : Holding). h.holder ≢ supports.Nothing) lost
    → (reached_at ks o).support ≡ supports.Nothing → InLossRegion ks lost o → ⊥
loose_outside ks lost o holders is (by_support c) = All-contains (λ (h : Holding). h.holder ≢ supports.Nothing) lost (own ks o) holders c is
loose_outside ks lost o holders is (by_source s t e r) = let both : supports.Edge s t ≡ supports.Nothing = sym e ∙ is in absurd cc

pub unheld_outside : (ks : List Reached) (lost : List Holding) (o : ℕ) → ((source : ℕ) (slot : Slot) → (reached_at ks o).support ≢ supports.Edge source slot)
    → (Contains lost (own ks o) → ⊥) → InLossRegion ks lost o → ⊥
unheld_outside ks lost o not_edge not_lost (by_support c) = not_lost c
unheld_outside ks lost o not_edge not_lost (by_source s t e r) = not_edge s t e

-- one that an edge supports, where the edge isn't lost, is in the region where its source is
pub source_inside : (ks : List Reached) (lost : List Holding) (o source : ℕ) (slot : Slot) → (reached_at ks o).support ≡ supports.Edge source slot
    → (Contains lost (own ks o) → ⊥) → InLossRegion ks lost o → InLossRegion ks lost source
source_inside ks lost o source slot is not_lost (by_support c) = absurd (not_lost c)
source_inside ks lost o source slot is not_lost (by_source s t e r) =
    let same : s ≡ source = ap source_in (sym e ∙ is) in
    subst (λ (x : ℕ). InLossRegion ks lost x) same r

-- an object of which nothing is known isn't lost itself
pub unknown_not_lost : (ks : List Reached) (lost : List Holding) (known : List Known) (o : ℕ) → AreKnown ks lost known → known_at known o ≡ knowns.Unknown
    → Contains lost (own ks o) → ⊥
unknown_not_lost ks lost known o h is c = let both : knowns.Inside ≡ knowns.Unknown = sym (h.direct o c) ∙ is in absurd cc

-- what is known of one object holds of another that is where it is
pub known_along : (ks : List Reached) (lost : List Holding) (found : Known) (at x : ℕ) → IsKnownAs ks lost found at
    → (InLossRegion ks lost at → InLossRegion ks lost x) → (InLossRegion ks lost x → InLossRegion ks lost at) → IsKnownAs ks lost found x
known_along ks lost knowns.Unknown at x h down up = tt
known_along ks lost knowns.Inside at x h down up = down h
known_along ks lost knowns.Outside at x h down up = λ r. h (up r)

-- the lost items so far are marked: what is inside is lost itself, and nothing else is marked
pub record AreMarkedFor (ks : List Reached) (lost front : List Holding) (before known : List Known) : Type 0 where
  pub inside : (o : ℕ) → (Contains lost (own ks o) × (known_at known o ≡ knowns.Inside)) ⊎ (known_at known o ≡ known_at before o)
  pub all : (h : Holding) → Contains front h → (reached_at ks h.target).support ≡ h.holder → known_at known h.target ≡ knowns.Inside

pub none_marked : (ks : List Reached) (lost : List Holding) (known : List Known) → AreMarkedFor ks lost [] known known
none_marked ks lost known = record { inside = λ o. inr refl; all = λ h (k, lt, is). absurd (omega arith) }

module _ (ks : List Reached) (lost front : List Holding) (before known : List Known) (h : AreMarkedFor ks lost front before known) (x : Holding) where
  -- an item holds its target, which is marked
  pub marks_target : (known' : List Known) → Contains lost x → (reached_at ks x.target).support ≡ x.holder → known_at known' x.target ≡ knowns.Inside
      → ((o : ℕ) → o ≢ x.target → known_at known' o ≡ known_at known o) → AreMarkedFor ks lost (front ++ x ∷ []) before known'
  marks_target known' is holds here others =
      let own_is : own ks x.target ≡ x = ap (λ (by : Support). record { target = x.target; holder = by }) holds in
      record {
        inside = λ o. elim (cases_eq o x.target) [
          | inl same ↦ inl (rw same (rw own_is is), rw same here)
          | inr other ↦ elim (h.inside o) [
            | inl was ↦ inl (was.0, others o other ∙ was.1)
            | inr was ↦ inr (others o other ∙ was)
          ]
        ];
        all = λ y c held. elim (cases_eq y.target x.target) [
          | inl same ↦ rw same here
          | inr other ↦ elim (Contains-push_cases front x y c) [
            | inl old ↦ others y.target other ∙ h.all y old held
            | inr this ↦ absurd (other (ap (λ (z : Holding). z.target) (sym this)))
          ]
        ];
      }

  -- an item that doesn't hold its target
  pub leaves_target : (reached_at ks x.target).support ≢ x.holder → AreMarkedFor ks lost (front ++ x ∷ []) before known
  leaves_target not_held = record {
    inside = h.inside;
    all = λ y c held. elim (Contains-push_cases front x y c) [
      | inl old ↦ h.all y old held
      | inr this ↦ absurd (not_held (rw (← this) at held))
    ];
  }

-- with all lost items marked, what is known is right
module _ (ks : List Reached) (lost : List Holding) (before known : List Known) (h : AreMarkedFor ks lost lost before known)
    (holders : All (λ (h : Holding). h.holder ≢ supports.Nothing) lost) (count : length before ≡ length ks)
    (unknown : (o : ℕ) → o < length before → known_at before o ≡ knowns.Unknown) where
  untouched : (o : ℕ) → IsKnownAs ks lost (known_at before o) o
  untouched o = elim (cases_lt o (length before)) [
    | inl lt ↦ rw (unknown o lt) tt
    | inr past ↦
        let none : (reached_at ks o).support ≡ supports.Nothing = ap (λ (k : Reached). k.support) (get_or_past ks o unreached (omega arith)) in
        rw (get_or_past before o knowns.Outside past) (loose_outside ks lost o holders none)
  ]

  pub are_known : AreKnown ks lost known
  are_known = record {
    right = λ o. elim (h.inside o) [
      | inl is ↦ rw is.1 (by_support is.0)
      | inr same ↦ rw same (untouched o)
    ];
    direct = λ o c. h.all (own ks o) c refl;
  }

-- what a chain was followed to holds of the object that it begins with, where that is on the way or is known itself
pub chain_known : (ks : List Reached) (lost : List Holding) (known : List Known) (o at : ℕ) → AreKnown ks lost known
    → (path : List ℕ) → Contains path o ⊎ (at ≡ o) → ((x : ℕ) → Contains path x → InLossRegion ks lost at → InLossRegion ks lost x)
    → ((x : ℕ) → Contains path x → InLossRegion ks lost x → InLossRegion ks lost at) → HaveFollowed ks lost known path o (known_at known at)
chain_known ks lost known o at h path first down up =
    record {
      right = λ x c. known_along ks lost (known_at known at) at x (h.right at) (down x c) (up x c);
      first = λ some. elim first [ inl c ↦ inl c | inr same ↦ inr (ap (known_at known) (sym same)) ];
    }

-- one more object is on the way: the walk went on from it along an edge that isn't lost, or ended at it
module _ (ks : List Reached) (path : List ℕ) (at : ℕ) where
  pub further_down : (lost : List Holding) (source : ℕ) (slot : Slot) → (reached_at ks at).support ≡ supports.Edge source slot
      → ((x : ℕ) → Contains path x → InLossRegion ks lost at → InLossRegion ks lost x)
      → (x : ℕ) → Contains (path ++ at ∷ []) x → InLossRegion ks lost source → InLossRegion ks lost x
  further_down lost source slot is down x c r = elim (Contains-push_cases path at x c) [
    | inl old ↦ down x old (by_source source slot is r)
    | inr this ↦ rw (← this) (by_source source slot is r)
  ]

  pub further_up : (lost : List Holding) (source : ℕ) (slot : Slot) → (reached_at ks at).support ≡ supports.Edge source slot
      → (Contains lost (own ks at) → ⊥) → ((x : ℕ) → Contains path x → InLossRegion ks lost x → InLossRegion ks lost at)
      → (x : ℕ) → Contains (path ++ at ∷ []) x → InLossRegion ks lost x → InLossRegion ks lost source
  further_up lost source slot is not_lost up x c r = elim (Contains-push_cases path at x c) [
    | inl old ↦ source_inside ks lost at source slot is not_lost (up x old r)
    | inr this ↦ source_inside ks lost at source slot is not_lost (rw this r)
  ]

  pub ends_outside : (lost : List Holding) → ((source : ℕ) (slot : Slot) → (reached_at ks at).support ≢ supports.Edge source slot)
      → (Contains lost (own ks at) → ⊥) → ((x : ℕ) → Contains path x → InLossRegion ks lost x → InLossRegion ks lost at)
      → (x : ℕ) → Contains (path ++ at ∷ []) x → InLossRegion ks lost x → ⊥
  ends_outside lost not_edge not_lost up x c r = elim (Contains-push_cases path at x c) [
    | inl old ↦ unheld_outside ks lost at not_edge not_lost (up x old r)
    | inr this ↦ unheld_outside ks lost at not_edge not_lost (rw this r)
  ]

-- what a followed chain tells is marked on the way
module _ (ks : List Reached) (known known' : List Known) (path : List ℕ) (o : ℕ) (found : Known)
    (others : (x : ℕ) → (Contains path x × (known_at known' x ≡ found)) ⊎ (known_at known' x ≡ known_at known x)) (some : found ≢ knowns.Unknown) where
  pub chain_marked : (lost : List Holding) → AreKnown ks lost known → HaveFollowed ks lost known path o found → AreKnown ks lost known'
  chain_marked lost h f = record {
    right = λ x. elim (others x) [
      | inl here ↦ rw here.1 (f.right x here.0)
      | inr same ↦ rw same (h.right x)
    ];
    direct = λ x c. elim (others x) [
      | inl here ↦ here.1 ∙ inside_by found x (by_support c) (f.right x here.0) some
      | inr same ↦ same ∙ h.direct x c
    ];
  }
    where
      inside_by : (found : Known) (x : ℕ) → InLossRegion ks lost x → IsKnownAs ks lost found x → found ≢ knowns.Unknown → found ≡ knowns.Inside
      inside_by knowns.Unknown x r is some = absurd (some refl)
      inside_by knowns.Inside x r is some = refl
      inside_by knowns.Outside x r is some = absurd (is r)

  pub still_known : (x : ℕ) → known_at known x ≢ knowns.Unknown → known_at known' x ≢ knowns.Unknown
  still_known x was = elim (others x) [
    | inl here ↦ λ is. some (sym here.1 ∙ is)
    | inr same ↦ λ is. was (sym same ∙ is)
  ]

  pub begin_known : (here : (x : ℕ) → Contains path x → known_at known' x ≡ found) → Contains path o ⊎ (known_at known o ≡ found)
      → known_at known' o ≢ knowns.Unknown
  begin_known here first = elim first [
    | inl c ↦ λ is. some (sym (here o c) ∙ is)
    | inr same ↦ still_known o (λ is. some (sym same ∙ is))
  ]

-- one more object is marked
module _ (known0 known known' : List Known) (objects front : List ℕ) (o : ℕ) (found : Known) (within : Contains objects o) (here : known_at known' o ≡ found)
    (others : (x : ℕ) → x ≢ o → known_at known' x ≡ known_at known x) where
  pub marked_more : ((x : ℕ) → Contains front x → known_at known x ≡ found) → (x : ℕ) → Contains (front ++ o ∷ []) x → known_at known' x ≡ found
  marked_more marked x c = elim (cases_eq x o) [
    | inl same ↦ rw same here
    | inr other ↦ elim (Contains-push_cases front o x c) [
      | inl old ↦ others x other ∙ marked x old
      | inr this ↦ absurd (other (sym this))
    ]
  ]

  pub others_more : ((x : ℕ) → (Contains objects x × (known_at known x ≡ found)) ⊎ (known_at known x ≡ known_at known0 x))
      → (x : ℕ) → (Contains objects x × (known_at known' x ≡ found)) ⊎ (known_at known' x ≡ known_at known0 x)
  others_more marked x = elim (cases_eq x o) [
    | inl same ↦ inl (rw same within, rw same here)
    | inr other ↦ elim (marked x) [
      | inl was ↦ inl (was.0, others x other ∙ was.1)
      | inr was ↦ inr (others x other ∙ was)
    ]
  ]

-- a total is no more than the degrees of different objects below n that are inside
pub record AreSummed (r : Rows) (known : List Known) (n total : ℕ) : Type 0 where
  pub some : List ℕ
  pub once : NoneTwice some
  pub below : (x : ℕ) → Contains some x → x < n
  pub inside : (x : ℕ) → Contains some x → known_at known x ≡ knowns.Inside
  pub most : total ≤ sum_by (degree r) some

pub none_summed : (r : Rows) (known : List Known) → AreSummed r known 0 0
none_summed r known = record {
  some = [];
  once = tt;
  below = λ x (k, lt, is). absurd (omega arith);
  inside = λ x (k, lt, is). absurd (omega arith);
  most = omega arith;
}

module _ (r : Rows) (known : List Known) (n total : ℕ) (h : AreSummed r known n total) where
  pub one_passed : AreSummed r known (n + 1) total
  one_passed = record { some = h.some; once = h.once; below = λ x c. omega (arith, h.below x c); inside = h.inside; most = h.most }

  pub one_summed : (total' : ℕ) → known_at known n ≡ knowns.Inside → total' ≤ total + degree r n → AreSummed r known (n + 1) total'
  one_summed total' is le = record {
    some = h.some ++ n ∷ [];
    once = NoneTwice-push n h.some h.once (λ c. omega (arith, h.below n c));
    below = λ x c. elim (Contains-push_cases h.some n x c) [
      | inl old ↦ omega (arith, h.below x old)
      | inr this ↦ rw (← this) (omega arith)
    ];
    inside = λ x c. elim (Contains-push_cases h.some n x c) [
      | inl old ↦ h.inside x old
      | inr this ↦ rw (← this) is
    ];
    most = omega (arith, h.most, le, sum_by-append (degree r) h.some (n ∷ []), sum_by-cons (degree r) n []);
  }

  pub summed_within : (looks : ℕ) → looks ≤ 2 * total → (region : List ℕ) → ((o : ℕ) → known_at known o ≡ knowns.Inside → Contains region o)
      → looks ≤ 2 * sum_by (degree r) region
  summed_within looks le region all = omega (arith, le, h.most, sum_by-part (degree r) h.some region h.once (λ x c. all x (h.inside x c)))

-- a mark that stays
pub marked_still : (ks fs : List Reached) (known known' : List Known) (x : ℕ) → known_at known' x ≡ known_at known x → IsMarkedByChange ks fs known x
    → IsMarkedByChange ks fs known' x
marked_still ks fs known known' x same h = elim h [
  | inl is ↦ inl (is.0, same ∙ is.1)
  | inr is ↦ inr (is.0, λ e. is.1 (sym same ∙ e))
]
