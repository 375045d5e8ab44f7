use Rattle.std.proofs.Common.{◌≡◌, ◌≢◌, ◌∙◌, ℕ, ◌≤◌, ◌⊎◌, inl, inr, List, [], ◌∷◌, ◌++◌, Contains, length, refl, sym, ap, subst, arith, true}
use Rattle.std.proofs.lemmas.Bool.{cases_eq}
use Rattle.std.proofs.lemmas.List.{map-append}
use Rattle.std.proofs.lemmas.List.Elements.{Contains-append_left, Contains-push, Contains-push_cases}
use Rattle.hd_terms.specs.declared.Slot.{Slot}
use Rattle.hd_terms.specs.declared.Strength.{Strength}
use Rattle.hd_terms.specs.declared.Support.{Support}
use Rattle.hd_terms.specs.declared.Support.TheVariants as supports
use Rattle.hd_terms.specs.Ranks.{rank}
use Rattle.hd_terms.specs.Paths.{Standing}
use Rattle.hd_terms.specs.Settled.{Reached, reached_at}
use Rattle.hd_terms.specs.Regions.{Holding, InLossRegion, by_source}
use Rattle.hd_terms.specs.EdgeRows.{AreRows, MarkedEdge, Rows}
use Rattle.hd_terms.proofs.Lower.{Contains-first, Contains-later, NoneTwice-push}
use Rattle.hd_repair.specs.Hanging.{IsHung, NoneLate}
use Rattle.hd_repair.specs.Losing.{
  before_all,
  strengths_of,
  without_support,
  AreLoosened,
  IsFrom,
  IsSince,
  IsUnderway,
  Progress,
  SupportNone,
  waits,
  hangs,
  is_lifted,
  is_gone,
}
use Rattle.hd_repair.specs.Spreading.{IsBacked, rank_at}
use Rattle.hd_repair.proofs.HungLemmas.{hung_still, loose_not_hung}
use Rattle.hd_repair.proofs.MarkLemmas.{in_or_not}
use Rattle.hd_repair.proofs.QueueLemmas.{cons_cases}
use Rattle.hd_repair.proofs.UnderwayLemmas.{backed_same, loosened_stamp, loosened_strength, waits_now, with_waiting}

-- an object that waited is gone
abbrev pub with_gone : ℕ → Strength → Progress → Progress
with_gone o s p = record { waiting = p.waiting; rehung = p.rehung; lifted = p.lifted; gone = p.gone ++ o ∷ []; strengths = p.strengths ++ s ∷ [] }

-- an edge of an object supports nothing, where none of its row does
pub supports_none : (r : Rows) → AreRows r → (ks : List Reached) (o : ℕ) → SupportNone ks o (r.out o) → (x : ℕ) (s : Strength) (by : Support)
    → (reached_at ks x).support ≡ by → IsBacked r.standing ks x s by → (slot : Slot) → by ≡ supports.Edge o slot → ⊥
supports_none r laws ks o none x s by is b slot same =
    let c = subst (λ (by : Support). IsBacked r.standing ks x s by) same b in
    let e = c.0 in
    let y : MarkedEdge = record { edge = e; stands = true } in
    let row : Contains (r.out o) y = subst (λ (z : ℕ). Contains (r.out z) y) c.1.from_source (laws.out_all e c.1.stands) in
    none y row (rw (c.1.to_object, c.1.from_slot) (is ∙ same))

module _ (g : Standing) (n : ℕ) (ks ks' : List Reached) (o : ℕ) (p : Progress) (s : Strength) (h : IsUnderway g n ks (before_all o p) NoneLate)
    (none : (x : ℕ) (slot : Slot) → (reached_at ks x).support ≡ supports.Edge o slot → ⊥)
    (count : length ks' ≡ length ks) (here : reached_at ks' o ≡ without_support (reached_at ks o))
    (others : (x : ℕ) → x ≢ o → reached_at ks' x ≡ reached_at ks x) where
  loose_first : ((reached_at ks o).support ≡ supports.Nothing) × (1 ≤ rank_at ks o)
  loose_first = h.waiting o (Contains-first o p.waiting)

  changed : (x : ℕ) → (x ≡ o) ⊎ (reached_at ks' x ≡ reached_at ks x)
  changed x = elim (cases_eq x o) [ inl same ↦ inl same | inr other ↦ inr (others x other) ]

  still : (x : ℕ) → IsHung ks x → IsHung ks' x
  still = hung_still ks ks' (λ x. x ≡ o) changed (λ x same. subst (λ (z : ℕ). IsHung ks z → ⊥) (sym same) (loose_not_hung ks o loose_first.0))

  -- no source is the object that is gone
  not_source : (x source : ℕ) (slot : Slot) → (reached_at ks x).support ≡ supports.Edge source slot → source ≢ o
  not_source x source slot is same = none x slot (is ∙ ap (λ (z : ℕ). supports.Edge z slot) same)

  not_first : (x : ℕ) → Contains p.waiting x → x ≢ o
  not_first x c same = h.distinct.waiting.0 (rw same at c)

  pub not_gone : Contains p.gone o → ⊥
  not_gone c = let z : rank_at ks o ≡ 0 = ap rank (h.gone o c).1 in omega (arith, loose_first.1)

  pub underway_gone : IsUnderway g n ks' (with_gone o s p) NoneLate
  underway_gone = record {
    count = count ∙ h.count;
    room = λ x. elim (changed x) [
      | inl same ↦ rw (same, here) (h.room o)
      | inr same ↦ rw same (h.room x)
    ];
    backed = λ x. elim (cases_eq x o) [
      | inl same ↦ inr (rw (same, here) refl)
      | inr other ↦ elim (h.backed x) [
        | inl c ↦ elim (cons_cases o p.waiting x c) [
          | inl first ↦ absurd (other first)
          | inr later ↦ inl later
        ]
        | inr b ↦ inr (rw (others x other) (backed_same g ks ks' x (reached_at ks x).strength (reached_at ks x).support
            (λ source slot is. ap (λ (k : Reached). k.strength) (others source (not_source x source slot is))) b))
      ]
    ];
    in_order = λ x source slot is. elim (changed x) [
      | inl same ↦ let nothing : supports.Nothing ≡ supports.Edge source slot = rw (same, here) at is in absurd cc
      | inr same ↦
          let was : (reached_at ks x).support ≡ supports.Edge source slot = rw same at is in
          rw (same, others source (not_source x source slot was)) (h.in_order x source slot was)
    ];
    reached = λ x some. elim (changed x) [
      | inl same ↦ absurd (some (rw (same, here) refl))
      | inr same ↦ rw same (h.reached x (rw same at some))
    ];
    waiting = λ x c. rw (others x (not_first x c)) (h.waiting x (Contains-later o x p.waiting c));
    gone = λ x c. elim (changed x) [
      | inl same ↦ rw (same, here) (refl, refl)
      | inr same ↦ elim (Contains-push_cases p.gone o x c) [
        | inl before ↦ rw same (h.gone x before)
        | inr last ↦ rw (← last, here) (refl, refl)
      ]
    ];
    rehung = λ x c. still x (h.rehung x c);
    lifted = λ x c. still x (h.lifted x c);
    distinct = record {
      waiting = h.distinct.waiting.1;
      rehung = h.distinct.rehung;
      lifted = h.distinct.lifted;
      gone = NoneTwice-push o p.gone h.distinct.gone not_gone;
      within = λ x t. elim t [
        | waits c ↦ h.distinct.within x (waits (Contains-later o x p.waiting c))
        | hangs c ↦ h.distinct.within x (hangs c)
        | is_lifted c ↦ h.distinct.within x (is_lifted c)
        | is_gone c ↦ elim (Contains-push_cases p.gone o x c) [
          | inl before ↦ h.distinct.within x (is_gone before)
          | inr last ↦ rw (← last) (h.distinct.within o (waits (Contains-first o p.waiting)))
        ]
      ];
    };
  }

  module _ (ks0 : List Reached) (lost : List Holding) (f : IsSince ks0 lost ks (before_all o p)) where
    pub since_gone : s ≡ (reached_at ks o).strength → IsSince ks0 lost ks' (with_gone o s p)
    since_gone is = record {
      strengths = λ x. elim (cases_eq x o) [
        | inl same ↦ inl (rw same (Contains-push p.gone o))
        | inr other ↦ elim (f.strengths x) [
          | inl before ↦ inl (Contains-append_left p.gone (o ∷ []) x before)
          | inr same ↦ inr (rw (others x other) same)
        ]
      ];
      origin = λ x. elim (cases_eq x o) [
        | inl same ↦ inl (rw same (f.hit o (waits (Contains-first o p.waiting))))
        | inr other ↦ elim (f.origin x) [
          | inl hit ↦ inl hit
          | inr same ↦ inr (others x other ∙ same)
        ]
      ];
      hit = λ x t. elim t [
        | waits c ↦ f.hit x (waits (Contains-later o x p.waiting c))
        | hangs c ↦ f.hit x (hangs c)
        | is_lifted c ↦ f.hit x (is_lifted c)
        | is_gone c ↦ elim (Contains-push_cases p.gone o x c) [
          | inl before ↦ f.hit x (is_gone before)
          | inr last ↦ rw (← last) (f.hit o (waits (Contains-first o p.waiting)))
        ]
      ];
      stamps = λ m small x. elim (changed x) [
        | inl same ↦ rw (same, here) (f.stamps m small o)
        | inr same ↦ rw same (f.stamps m small x)
      ];
      before =
          let was : s ≡ (reached_at ks0 o).strength = elim (f.strengths o) [ inl before ↦ absurd (not_gone before) | inr same ↦ is ∙ same ] in
          ap (λ (xs : List Strength). xs ++ s ∷ []) f.before ∙ ap (λ (t : Strength). strengths_of ks0 p.gone ++ t ∷ []) was ∙ sym
          (map-append (λ (x : ℕ). (reached_at ks0 x).strength) p.gone (o ∷ []));
    }

-- what is loosened is of the region
module _ (g : Standing) (n : ℕ) (ks ks' : List Reached) (o : ℕ) (p : Progress) (waiting' : List ℕ) (h : IsUnderway g n ks (before_all o p) NoneLate)
    (a : AreLoosened ks ks' p.waiting waiting' (IsFrom o)) (ks0 : List Reached) (lost : List Holding) (f : IsSince ks0 lost ks (before_all o p)) where
  hit : (x : ℕ) → Contains a.more x → InLossRegion ks0 lost x
  hit x c = elim (f.origin x) [
    | inl in_region ↦ in_region
    | inr same ↦ let by = a.held x c in by_source o by.0 (ap (λ (k : Reached). k.support) (sym same) ∙ by.1) (f.hit o (waits (Contains-first o p.waiting)))
  ]

  pub since_loosened : IsSince ks0 lost ks' (before_all o (with_waiting waiting' p))
  since_loosened = record {
    strengths = λ x. elim (f.strengths x) [
      | inl c ↦ inl c
      | inr same ↦ inr (loosened_strength g n ks ks' o p waiting' h a x ∙ same)
    ];
    origin = λ x. elim (in_or_not a.more x) [
      | inl c ↦ inl (hit x c)
      | inr out ↦ elim (f.origin x) [
        | inl in_region ↦ inl in_region
        | inr same ↦ inr (a.others x out ∙ same)
      ]
    ];
    hit = λ x t. elim t [
      | waits c ↦ elim (waits_now g n ks ks' o p waiting' h a x c) [
        | inl old ↦ f.hit x (waits old)
        | inr new ↦ hit x new
      ]
      | hangs c ↦ f.hit x (hangs c)
      | is_lifted c ↦ f.hit x (is_lifted c)
      | is_gone c ↦ f.hit x (is_gone c)
    ];
    stamps = λ m small x. rw (loosened_stamp g n ks ks' o p waiting' h a x) (f.stamps m small x);
    before = f.before;
  }
