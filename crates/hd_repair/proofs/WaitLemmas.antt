use Rattle.std.proofs.Common.{◌≡◌, ◌≢◌, ◌∙◌, ℕ, ◌⊎◌, inl, inr, List, [], ◌∷◌, ◌++◌, Contains, refl, sym, ap, arith}
use Rattle.std.proofs.lemmas.Bool.{cases_eq}
use Rattle.std.proofs.lemmas.List.Elements.{Contains-push, Contains-push_cases, Contains-append_left}
use Rattle.hd_terms.specs.declared.Support.{Support}
use Rattle.hd_terms.specs.declared.Support.TheVariants as supports
use Rattle.hd_terms.specs.Regions.{Holding}
use Rattle.hd_terms.specs.Settled.{Reached, reached_at}
use Rattle.hd_terms.specs.EdgeRows.{MarkedEdge}
use Rattle.hd_terms.specs.Chains.{NoneTwice}
use Rattle.hd_terms.proofs.Lower.{Contains-first, Contains-later, NoneTwice-push}
use Rattle.hd_repair.specs.Losing.{loosened, Joins, AreLoosened, HoldNone, IsLeft, IsLoosened, SupportNone}
use Rattle.hd_repair.proofs.QueueLemmas.{cons_cases}

-- who waits, once an object has joined
joins_cases : (waiting waiting' : List ℕ) (o : ℕ) → Joins waiting waiting' o → (x : ℕ) → Contains waiting' x → Contains waiting x ⊎ (x ≡ o)
joins_cases waiting waiting' o (inl behind) x c = elim (Contains-push_cases waiting o x (rw behind at c)) [
  | inl old ↦ inl old
  | inr same ↦ inr (sym same)
]
joins_cases waiting waiting' o (inr before) x c = elim (cons_cases o waiting x (rw before at c)) [
  | inl same ↦ inr same
  | inr old ↦ inl old
]

joins_still : (waiting waiting' : List ℕ) (o : ℕ) → Joins waiting waiting' o → (x : ℕ) → Contains waiting x → Contains waiting' x
joins_still waiting waiting' o (inl behind) x c = rw behind (Contains-append_left waiting (o ∷ []) x c)
joins_still waiting waiting' o (inr before) x c = rw before (Contains-later o x waiting c)

joins_here : (waiting waiting' : List ℕ) (o : ℕ) → Joins waiting waiting' o → Contains waiting' o
joins_here waiting waiting' o (inl behind) = rw behind (Contains-push waiting o)
joins_here waiting waiting' o (inr before) = rw before (Contains-first o waiting)

joins_once : (waiting waiting' : List ℕ) (o : ℕ) → Joins waiting waiting' o → NoneTwice waiting → (Contains waiting o → ⊥) → NoneTwice waiting'
joins_once waiting waiting' o (inl behind) once fresh = rw behind (NoneTwice-push o waiting once fresh)
joins_once waiting waiting' o (inr before) once fresh = rw before (fresh, once)

-- nothing is loosened yet
pub none_loosened : (ks : List Reached) (waiting : List ℕ) (IsHolder : ℕ → Support → Type 0) → AreLoosened ks ks waiting waiting IsHolder
none_loosened ks waiting IsHolder = record {
  more = [];
  waits = λ x c. inl c;
  still = λ x c. c;
  too = λ x (k, lt, is). absurd (omega arith);
  apart = λ once disjoint. once;
  count = refl;
  once = tt;
  some = λ o (k, lt, is). absurd (omega arith);
  held = λ o (k, lt, is). absurd (omega arith);
  loose = λ o (k, lt, is). absurd (omega arith);
  others = λ o none. refl;
}

-- one more test
module _ (ks0 ks ks' : List Reached) (waiting0 waiting waiting' : List ℕ) (IsHolder : ℕ → Support → Type 0) (o : ℕ) (holder : Support)
    (some : holder ≢ supports.Nothing) (h : AreLoosened ks0 ks waiting0 waiting IsHolder) (why : IsHolder o holder) where
  loosen_one : IsLoosened ks ks' waiting waiting' o holder → AreLoosened ks0 ks' waiting0 waiting' IsHolder
  loosen_one d =
      let fresh : Contains h.more o → ⊥ = λ c. let n : (reached_at ks o).support ≡ supports.Nothing =
      ap (λ (k : Reached). k.support) (h.loose o c) in some (sym d.held ∙ n) in
      let was : reached_at ks o ≡ reached_at ks0 o = h.others o fresh in
      let held : (reached_at ks0 o).support ≡ holder = ap (λ (k : Reached). k.support) (sym was) ∙ d.held in
      record {
        more = h.more ++ o ∷ [];
        waits = λ x c. elim (joins_cases waiting waiting' o d.joined x c) [
          | inl old ↦ elim (h.waits x old) [
            | inl first ↦ inl first
            | inr before ↦ inr (Contains-append_left h.more (o ∷ []) x before)
          ]
          | inr same ↦ inr (rw same (Contains-push h.more o))
        ];
        still = λ x c. joins_still waiting waiting' o d.joined x (h.still x c);
        too = λ x c. elim (Contains-push_cases h.more o x c) [
          | inl before ↦ joins_still waiting waiting' o d.joined x (h.too x before)
          | inr same ↦ rw (← same) (joins_here waiting waiting' o d.joined)
        ];
        apart = λ once disjoint. joins_once waiting waiting' o d.joined
            (h.apart once (λ x c before. disjoint x c (Contains-append_left h.more (o ∷ []) x before)))
            (λ c. elim (h.waits o c) [
              | inl first ↦ disjoint o first (Contains-push h.more o)
              | inr before ↦ fresh before
            ]);
        count = d.count ∙ h.count;
        once = NoneTwice-push o h.more h.once fresh;
        some = λ x c. elim (Contains-push_cases h.more o x c) [
          | inl before ↦ h.some x before
          | inr same ↦ rw (← same) (λ none. some (sym held ∙ none))
        ];
        held = λ x c. elim (Contains-push_cases h.more o x c) [
          | inl before ↦ h.held x before
          | inr same ↦ rw (← same) (rw held why)
        ];
        loose = λ x c. elim (Contains-push_cases h.more o x c) [
          | inl before ↦ d.others x (λ same. fresh (rw (← same) before)) ∙ h.loose x before
          | inr same ↦ rw (← same) (d.here ∙ ap loosened was)
        ];
        others = λ x none.
            let none_before : Contains h.more x → ⊥ = λ c. none (Contains-append_left h.more (o ∷ []) x c) in
            let other : x ≢ o = λ same. none (rw same (Contains-push h.more o)) in
            d.others x other ∙ h.others x none_before;
      }

  pub loosen_step : IsLoosened ks ks' waiting waiting' o holder ⊎ IsLeft ks ks' waiting waiting' o holder → AreLoosened ks0 ks' waiting0 waiting' IsHolder
  loosen_step (inl d) = loosen_one d
  loosen_step (inr d) = rw (d.same_kept, d.same_waiting) h

-- a support that is none doesn't come back, and the tested one is none
module _ (ks ks' : List Reached) (waiting waiting' : List ℕ) (o : ℕ) (holder : Support) (some : holder ≢ supports.Nothing) where
  loose_here : IsLoosened ks ks' waiting waiting' o holder → (reached_at ks' o).support ≡ supports.Nothing
  loose_here d = ap (λ (k : Reached). k.support) d.here

  pub not_held : IsLoosened ks ks' waiting waiting' o holder ⊎ IsLeft ks ks' waiting waiting' o holder → (reached_at ks' o).support ≢ holder
  not_held (inl d) = λ is. some (sym is ∙ loose_here d)
  not_held (inr d) = rw d.same_kept d.not_held

  pub still_none : IsLoosened ks ks' waiting waiting' o holder ⊎ IsLeft ks ks' waiting waiting' o holder → (x : ℕ) (by : Support) → by ≢ supports.Nothing
      → (reached_at ks x).support ≢ by → (reached_at ks' x).support ≢ by
  still_none (inl d) x by is_some none = elim (cases_eq x o) [
    | inl same ↦ λ is. is_some (sym is ∙ ap (λ (z : ℕ). (reached_at ks' z).support) same ∙ loose_here d)
    | inr other ↦ rw (d.others x other) none
  ]
  still_none (inr d) x by is_some none = rw d.same_kept none

  -- one more item
  pub hold_more : IsLoosened ks ks' waiting waiting' o holder ⊎ IsLeft ks ks' waiting waiting' o holder → (items : List Holding)
      → ((h : Holding) → Contains items h → h.holder ≢ supports.Nothing) → (x : Holding) → x.target ≡ o → x.holder ≡ holder → HoldNone ks items
      → HoldNone ks' (items ++ x ∷ [])
  hold_more d items holders x there by none h c = elim (Contains-push_cases items x h c) [
    | inl before ↦ still_none d h.target h.holder (holders h before) (none h before)
    | inr same ↦ rw (← same, there, by) (not_held d)
  ]

  -- one more edge
  pub support_more : IsLoosened ks ks' waiting waiting' o holder ⊎ IsLeft ks ks' waiting waiting' o holder
      → (source : ℕ) (entries : List MarkedEdge) (y : MarkedEdge) → y.edge.target ≡ o → supports.Edge source y.edge.slot ≡ holder
      → SupportNone ks source entries → SupportNone ks' source (entries ++ y ∷ [])
  support_more d source entries y there by none z c = elim (Contains-push_cases entries y z c) [
    | inl before ↦ still_none d z.edge.target (supports.Edge source z.edge.slot) (λ e. cc) (none z before)
    | inr same ↦ rw (← same, there, by) (not_held d)
  ]
