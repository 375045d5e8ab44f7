use Rattle.std.proofs.Common.{◌≡◌, ◌≢◌, ◌∙◌, ℕ, ◌+◌, ◌<◌, ◌≤◌, ◌⊎◌, inl, inr, List, [], ◌∷◌, ◌++◌, Contains, length, refl, sym, ap, subst, arith}
use Rattle.std.proofs.lemmas.Bool.{cases_lt}
use Rattle.std.proofs.lemmas.List.{get_or_past, length-append, length_push}
use Rattle.std.proofs.lemmas.List.Elements.{Contains-append_cases, Contains-push_cases}
use Rattle.hd_terms.specs.declared.Slot.{Slot}
use Rattle.hd_terms.specs.declared.Strength.{Strength}
use Rattle.hd_terms.specs.declared.Support.{Support}
use Rattle.hd_terms.specs.declared.Support.TheVariants as supports
use Rattle.hd_terms.specs.Ranks.{rank, given_by, weaker_of}
use Rattle.hd_terms.specs.Chains.{NoneTwice}
use Rattle.hd_terms.specs.Paths.{Standing}
use Rattle.hd_terms.specs.Settled.{Reached, reached_at, unreached, IsBefore}
use Rattle.hd_terms.proofs.Lower.{Contains-first, Contains-later, NoneTwice-push}
use Rattle.hd_repair.specs.Hanging.{AreInOrder, IsHung, NoneLate}
use Rattle.hd_repair.specs.Losing.{before_all, AreDistinct, AreLoosened, IsFrom, IsUnderway, Progress, waits, hangs, is_lifted, is_gone}
use Rattle.hd_repair.specs.Spreading.{IsBacked, rank_at}
use Rattle.hd_repair.proofs.DistinctLemmas.{length-different}
use Rattle.hd_repair.proofs.HungLemmas.{hung_source, hung_still, loose_not_hung}
use Rattle.hd_repair.proofs.MarkLemmas.{in_or_not}
use Rattle.hd_repair.proofs.QueueLemmas.{cons_cases}

-- other objects wait
abbrev pub with_waiting : List ℕ → Progress → Progress
with_waiting waiting p = record { waiting = waiting; rehung = p.rehung; lifted = p.lifted; gone = p.gone; strengths = p.strengths }

-- a list behind another has no object twice
pub NoneTwice-append : (xs ys : List ℕ) → NoneTwice xs → NoneTwice ys → ((x : ℕ) → Contains xs x → Contains ys x → ⊥) → NoneTwice (xs ++ ys)
NoneTwice-append [] ys h k apart = k
NoneTwice-append (x ∷ xs) ys h k apart = (
  λ c. elim (Contains-append_cases xs ys x c) [
    | inl front ↦ h.0 front
    | inr back ↦ apart x (Contains-first x xs) back
  ],
  NoneTwice-append xs ys h.1 k (λ y c d. apart y (Contains-later x y xs c) d),
)

-- what has a support is an object
pub supported_within : (ks : List Reached) (o : ℕ) → (reached_at ks o).support ≢ supports.Nothing → o < length ks
supported_within ks o some = elim (cases_lt o (length ks)) [
  | inl lt ↦ lt
  | inr past ↦ absurd (some (ap (λ (k : Reached). k.support) (get_or_past ks o unreached past)))
]

-- what stands gives the same where strengths are the same
pub backed_same : (g : Standing) (ks ks' : List Reached) (o : ℕ) (s : Strength) (by : Support)
    → ((source : ℕ) (slot : Slot) → by ≡ supports.Edge source slot → (reached_at ks' source).strength ≡ (reached_at ks source).strength)
    → IsBacked g ks o s by → IsBacked g ks' o s by
backed_same g ks ks' o s supports.Nothing same h = h
backed_same g ks ks' o s (supports.Root n) same h = h
backed_same g ks ks' o s (supports.Edge source slot) same (e, h) =
    let there : (reached_at ks' source).strength ≡ (reached_at ks source).strength = same source slot refl in
    let l : rank_at ks' source ≡ rank_at ks source = ap rank there in
    let gifts : rank (weaker_of (reached_at ks' source).strength (given_by e.kind)) ≡ rank (weaker_of (reached_at ks source).strength (given_by e.kind)) =
    ap (λ (x : Strength). rank (weaker_of x (given_by e.kind))) there in (
      e,
      record {
        stands = h.stands;
        from_source = h.from_source;
        from_slot = h.from_slot;
        to_object = h.to_object;
        passes_on = omega (arith, h.passes_on);
        enough = omega (arith, h.enough);
      },
    )

-- an order stays where strengths and stamps stay
pub before_same : (a b a' b' : Reached) → a'.strength ≡ a.strength → a'.stamp ≡ a.stamp → b'.strength ≡ b.strength → b'.stamp ≡ b.stamp → IsBefore a b
    → IsBefore a' b'
before_same a b a' b' sa ta sb tb (inl less) = let x : rank a'.strength ≡ rank a.strength = ap rank sa in let y : rank b'.strength ≡ rank b.strength =
    ap rank sb in inl (omega arith)
before_same a b a' b' sa ta sb tb (inr same) = let x : rank a'.strength ≡ rank a.strength = ap rank sa in let y : rank b'.strength ≡ rank b.strength =
    ap rank sb in inr (omega (arith, same.0), omega (arith, same.1))

-- what an object supports that waits is loosened
module _ (g : Standing) (n : ℕ) (ks ks' : List Reached) (o : ℕ) (p : Progress) (waiting' : List ℕ) (h : IsUnderway g n ks (before_all o p) NoneLate)
    (a : AreLoosened ks ks' p.waiting waiting' (IsFrom o)) where
  loose_first : ((reached_at ks o).support ≡ supports.Nothing) × (1 ≤ rank_at ks o)
  loose_first = h.waiting o (Contains-first o p.waiting)

  not_hung : (x : ℕ) → Contains a.more x → IsHung ks x → ⊥
  not_hung x c hung = let by = a.held x c in loose_not_hung ks o loose_first.0 (hung_source ks x o by.0 by.1 hung).1

  changed : (x : ℕ) → Contains a.more x ⊎ (reached_at ks' x ≡ reached_at ks x)
  changed x = elim (in_or_not a.more x) [ inl c ↦ inl c | inr out ↦ inr (a.others x out) ]

  still : (x : ℕ) → IsHung ks x → IsHung ks' x
  still = hung_still ks ks' (λ x. Contains a.more x) changed not_hung

  pub loosened_strength : (x : ℕ) → (reached_at ks' x).strength ≡ (reached_at ks x).strength
  loosened_strength x = elim (changed x) [
    | inl c ↦ ap (λ (k : Reached). k.strength) (a.loose x c)
    | inr same ↦ ap (λ (k : Reached). k.strength) same
  ]

  pub loosened_stamp : (x : ℕ) → (reached_at ks' x).stamp ≡ (reached_at ks x).stamp
  loosened_stamp x = elim (changed x) [
    | inl c ↦ ap (λ (k : Reached). k.stamp) (a.loose x c)
    | inr same ↦ ap (λ (k : Reached). k.stamp) same
  ]

  -- what has no support isn't among them
  unsupported : (x : ℕ) → (reached_at ks x).support ≡ supports.Nothing → reached_at ks' x ≡ reached_at ks x
  unsupported x none = elim (changed x) [
    | inl c ↦ absurd (a.some x c none)
    | inr same ↦ same
  ]

  -- who waits now
  pub waits_now : (x : ℕ) → Contains (o ∷ waiting') x → Contains (o ∷ p.waiting) x ⊎ Contains a.more x
  waits_now x c = elim (cons_cases o waiting' x c) [
    | inl same ↦ inl (subst (λ (z : ℕ). Contains (o ∷ p.waiting) z) (sym same) (Contains-first o p.waiting))
    | inr later ↦ elim (a.waits x later) [
      | inl old ↦ inl (Contains-later o x p.waiting old)
      | inr new ↦ inr new
    ]
  ]

  waits_still : (x : ℕ) → Contains (o ∷ p.waiting) x → Contains (o ∷ waiting') x
  waits_still x c = elim (cons_cases o p.waiting x c) [
    | inl same ↦ subst (λ (z : ℕ). Contains (o ∷ waiting') z) (sym same) (Contains-first o waiting')
    | inr later ↦ Contains-later o x waiting' (a.still x later)
  ]

  waits_too : (x : ℕ) → Contains a.more x → Contains (o ∷ waiting') x
  waits_too x c = Contains-later o x waiting' (a.too x c)

  in_order : AreInOrder ks' NoneLate
  in_order x s sl is = elim (changed x) [
    | inl c ↦ let none : supports.Nothing ≡ supports.Edge s sl = sym (ap (λ (k : Reached). k.support) (a.loose x c)) ∙ is in absurd cc
    | inr same ↦ elim (h.in_order x s sl (ap (λ (k : Reached). k.support) (sym same) ∙ is)) [
      | inl late ↦ absurd late
      | inr before ↦ inr (before_same (reached_at ks s) (reached_at ks x) (reached_at ks' s) (reached_at ks' x) (loosened_strength s) (loosened_stamp s)
          (loosened_strength x) (loosened_stamp x) before)
    ]
  ]

  distinct : AreDistinct n (before_all o (with_waiting waiting' p))
  distinct = record {
    waiting = (
      λ c. elim (a.waits o c) [
        | inl old ↦ h.distinct.waiting.0 old
        | inr new ↦ a.some o new loose_first.0
      ],
      a.apart h.distinct.waiting.1 (λ x c d. a.some x d (h.waiting x (Contains-later o x p.waiting c)).0),
    );
    rehung = h.distinct.rehung;
    lifted = h.distinct.lifted;
    gone = h.distinct.gone;
    within = λ x t. elim t [
      | waits c ↦ elim (waits_now x c) [
        | inl old ↦ h.distinct.within x (waits old)
        | inr new ↦ rw (← h.count) (supported_within ks x (a.some x new))
      ]
      | hangs c ↦ h.distinct.within x (hangs c)
      | is_lifted c ↦ h.distinct.within x (is_lifted c)
      | is_gone c ↦ h.distinct.within x (is_gone c)
    ];
  }

  pub underway_loosened : IsUnderway g n ks' (before_all o (with_waiting waiting' p)) NoneLate
  underway_loosened = record {
    count = a.count ∙ h.count;
    room = λ x. rw (loosened_stamp x) (h.room x);
    backed = λ x. elim (changed x) [
      | inl c ↦ inl (waits_too x c)
      | inr same ↦ elim (h.backed x) [
        | inl c ↦ inl (waits_still x c)
        | inr b ↦ inr (rw same (backed_same g ks ks' x (reached_at ks x).strength (reached_at ks x).support (λ s sl is. loosened_strength s) b))
      ]
    ];
    in_order = in_order;
    reached = λ x some. elim (changed x) [
      | inl c ↦ absurd (some (ap (λ (k : Reached). k.support) (a.loose x c)))
      | inr same ↦ rw same (h.reached x (rw same at some))
    ];
    waiting = λ x c. elim (waits_now x c) [
      | inl old ↦ rw (unsupported x (h.waiting x old).0) (h.waiting x old)
      | inr new ↦ rw (a.loose x new) (refl, h.reached x (a.some x new))
    ];
    gone = λ x c. rw (unsupported x (h.gone x c).0) (h.gone x c);
    rehung = λ x c. still x (h.rehung x c);
    lifted = λ x c. still x (h.lifted x c);
    distinct = distinct;
  }

-- what hangs again and what is gone are different objects, and so is the one that waits
pub room_left : (g : Standing) (n : ℕ) (ks : List Reached) (o : ℕ) (p : Progress) → IsUnderway g n ks (before_all o p) NoneLate
    → length p.rehung + length p.gone < n
room_left g n ks o p h =
    let loose : ((reached_at ks o).support ≡ supports.Nothing) × (1 ≤ rank_at ks o) = h.waiting o (Contains-first o p.waiting) in
    let both : NoneTwice (p.rehung ++ p.gone) = NoneTwice-append p.rehung p.gone h.distinct.rehung h.distinct.gone
    (λ x c d. loose_not_hung ks x (h.gone x d).0 (h.rehung x c)) in
    let fresh : Contains (p.rehung ++ p.gone) o → ⊥ = λ c. elim (Contains-append_cases p.rehung p.gone o c) [
      | inl again ↦ loose_not_hung ks o loose.0 (h.rehung o again)
      | inr gone ↦ let z : rank_at ks o ≡ 0 = ap rank (h.gone o gone).1 in omega (arith, loose.1)
    ] in
    let few : length ((p.rehung ++ p.gone) ++ o ∷ []) ≤ n = length-different n ((p.rehung ++ p.gone) ++ o ∷ [])
    (NoneTwice-push o (p.rehung ++ p.gone) both fresh) (λ x c. elim (Contains-push_cases (p.rehung ++ p.gone) o x c) [
      | inl old ↦ elim (Contains-append_cases p.rehung p.gone x old) [
        | inl again ↦ h.distinct.within x (hangs again)
        | inr gone ↦ h.distinct.within x (is_gone gone)
      ]
      | inr last ↦ rw (← last) (h.distinct.within o (waits (Contains-first o p.waiting)))
    ]) in
    omega (arith, few, length_push (p.rehung ++ p.gone) o, length-append p.rehung p.gone)
