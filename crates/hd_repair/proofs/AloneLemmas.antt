use Rattle.std.proofs.Common.{Bool, ◌≡◌, ◌≢◌, ◌∙◌, ℕ, zero, suc, ◌+◌, ◌-◌, ◌≤◌, inl, inr, List, [], ◌∷◌, ◌++◌}
use Rattle.std.proofs.Common.{true, Contains, length, take, get_or, sym, ap, subst, refl, arith}
use Rattle.std.proofs.lemmas.Bool.{cases_eq}
use Rattle.std.proofs.lemmas.List.{length_push, take-append-le}
use Rattle.std.proofs.lemmas.List.Elements.{Contains-push, Contains-push_cases, Contains-append_left}
use Rattle.hd_terms.specs.declared.Strength.TheVariants as strengths
use Rattle.hd_terms.specs.EdgeRows.{AreRows, MarkedEdge, MarkedRoot, Rows}
use Rattle.hd_terms.specs.Paths.{Standing}
use Rattle.hd_terms.specs.Settled.{Reached, reached_at}
use Rattle.hd_terms.proofs.Lower.{Contains-first, Contains-later, NoneTwice-push}
use Rattle.hd_repair.specs.declared.waiting.Losing.{Losing}
use Rattle.hd_repair.specs.Alone.{FindsNone, IsHalfway, TakesNext, AreAtMost, AreFirst, AreSought, IsAlone, IsFirstOr, IsOnlyFrom, JoinsAlone}
use Rattle.hd_terms.specs.Ranks.{rank}
use Rattle.hd_repair.specs.Hanging.{NoneLate}
use Rattle.hd_repair.specs.Losing.{before_all, progress_of, IsUnderway, Progress}
use Rattle.hd_repair.specs.Spreading.{rank_at}
use Rattle.hd_repair.proofs.BestLemmas.{into_all}
use Rattle.hd_repair.proofs.MarkLemmas.{any_default}
use Rattle.hd_repair.proofs.QueueLemmas.{cons_cases}
use Rattle.hd_repair.proofs.UnderwayLemmas.{room_left}

-- the elements of a list of one are the same
one_element : (xs : List MarkedEdge) → length xs ≡ 1 → (x y : MarkedEdge) → Contains xs x → Contains xs y → x ≡ y
one_element xs one x y (i, i_lt, i_is) (j, j_lt, j_is) =
    let same : i ≡ j = omega arith in
    sym i_is ∙ any_default xs i x y i_lt ∙ ap (λ (k : ℕ). get_or xs k y) same ∙ j_is

-- an object that is alone stays so where nothing becomes stronger
pub alone_still : (g : Standing) (ks ks' : List Reached) → AreAtMost ks ks' → (o : ℕ) → IsAlone g ks o → IsAlone g ks' o
alone_still g ks ks' most o h = record {
  roots = h.roots;
  edges = λ e stands is. elim (most e.source) [
    | inl same ↦ same ∙ h.edges e stands is
    | inr none ↦ none
  ];
}

-- one to which one edge leads is alone once its source is gone
pub alone_from : (r : Rows) → AreRows r → (ks : List Reached) (source o : ℕ) → (reached_at ks source).strength ≡ strengths.Unreachable → IsOnlyFrom r source o
    → IsAlone r.standing ks o
alone_from r laws ks source o gone h = record {
  roots = λ x stands is.
      let m : MarkedRoot = record { root = x; stands = true } in
      let c : Contains (r.roots o) m = subst (λ (z : ℕ). Contains (r.roots z) m) is (laws.root_all x stands) in
      omega (arith, h.one.roots, c.1);
  edges = λ e stands is.
      let y : MarkedEdge = record { edge = e; stands = true } in
      let c : Contains (r.into o) y = subst (λ (z : ℕ). Contains (r.into z) y) is (into_all r laws e stands) in
      let d : Contains (r.into o) h.edge = (laws.into_out o h.edge).1
      (h.target, subst (λ (z : ℕ). Contains (r.out z) h.edge) (sym (laws.out_source source h.edge h.out)) h.out) in
      let same : y ≡ h.edge = one_element (r.into o) h.one.into y h.edge c d in
      let from : e.source ≡ source = ap (λ (z : MarkedEdge). z.edge.source) same ∙ laws.out_source source h.edge h.out in
      ap (λ (z : ℕ). (reached_at ks z).strength) from ∙ gone;
}

-- the first of a list, where one more is behind
first_of_longer : (xs : List ℕ) (n x : ℕ) → n ≤ length xs → (y : ℕ) → Contains (take n (xs ++ x ∷ [])) y → Contains (take n xs) y
first_of_longer xs n x le y c = rw (take-append-le n xs (x ∷ []) le) at c

-- nothing is loosened yet
pub none_joined : (r : Rows) (waiting : List ℕ) (alone source : ℕ) → alone ≤ length waiting → AreFirst alone waiting (IsFirstOr r waiting alone source)
none_joined r waiting alone source few = record { few = few; each = λ x c. inl c }

-- one more edge is followed
pub join_step : (r : Rows) (waiting0 : List ℕ) (alone0 source : ℕ) (waiting waiting' : List ℕ) (alone alone' o : ℕ) (edge : MarkedEdge)
    → Contains (r.out source) edge → edge.edge.target ≡ o
    → AreFirst alone waiting (IsFirstOr r waiting0 alone0 source) → JoinsAlone r waiting waiting' alone alone' o
    → AreFirst alone' waiting' (IsFirstOr r waiting0 alone0 source)
join_step r waiting0 alone0 source waiting waiting' alone alone' o edge out target h (inl (same, inl left)) = rw (same, left) h
join_step r waiting0 alone0 source waiting waiting' alone alone' o edge out target h (inl (same, inr behind)) = record {
  few = omega (arith, h.few, same, ap length behind, length_push waiting o);
  each = λ x c. h.each x (first_of_longer waiting alone o h.few x (rw (same, behind) at c));
}
join_step r waiting0 alone0 source waiting waiting' alone alone' o edge out target h (inr (more, before, one)) =
    let next : alone' ≡ suc alone = omega (arith, more) in
    record {
      few = omega (arith, h.few, more, ap length before);
      each = λ x c. elim (cons_cases o (take alone waiting) x (rw (next, before) at c)) [
        | inl same ↦ inr (record { one = rw same one; edge = edge; out = out; target = target ∙ sym same })
        | inr old ↦ h.each x old
      ];
    }

-- who is alone, once an object is gone
pub first_alone : (r : Rows) → AreRows r → (ks ks' : List Reached) (o alone alone' : ℕ) (waiting waiting' : List ℕ) → AreAtMost ks ks'
    → (reached_at ks' o).strength ≡ strengths.Unreachable → AreFirst alone waiting (IsAlone r.standing ks)
    → AreFirst alone' waiting' (IsFirstOr r waiting alone o) → AreFirst alone' waiting' (IsAlone r.standing ks')
first_alone r laws ks ks' o alone alone' waiting waiting' most gone h f = record {
  few = f.few;
  each = λ x c. elim (f.each x c) [
    | inl old ↦ alone_still r.standing ks ks' most x (h.each x old)
    | inr new ↦ alone_from r laws ks' o x gone new
  ];
}

pub first_still : (g : Standing) (ks ks' : List Reached) (alone : ℕ) (waiting : List ℕ) → AreAtMost ks ks' → AreFirst alone waiting (IsAlone g ks)
    → AreFirst alone waiting (IsAlone g ks')
first_still g ks ks' alone waiting most h = record { few = h.few; each = λ x c. alone_still g ks ks' most x (h.each x c) }

pub sought_still : (g : Standing) (ks ks' : List Reached) (gone sought : List ℕ) → AreAtMost ks ks' → AreSought g ks gone sought → AreSought g ks' gone sought
sought_still g ks ks' gone sought most h = record {
  which = λ x c. elim (h.which x c) [ inl is ↦ inl is | inr alone ↦ inr (alone_still g ks ks' most x alone) ];
  part = h.part;
  once = h.once;
}

-- one more is gone that is alone
pub gone_alone : (g : Standing) (ks ks' : List Reached) (gone sought : List ℕ) (o : ℕ) → AreAtMost ks ks' → IsAlone g ks o → AreSought g ks gone sought
    → AreSought g ks' (gone ++ o ∷ []) sought
gone_alone g ks ks' gone sought o most alone h = record {
  which = λ x c. elim (Contains-push_cases gone o x c) [
    | inl before ↦ elim (h.which x before) [ inl is ↦ inl is | inr was ↦ inr (alone_still g ks ks' most x was) ]
    | inr last ↦ inr (rw (← last) (alone_still g ks ks' most o alone))
  ];
  part = λ x c. Contains-append_left gone (o ∷ []) x (h.part x c);
  once = h.once;
}

-- one more is gone that is sought
pub gone_sought : (g : Standing) (ks ks' : List Reached) (gone sought : List ℕ) (o : ℕ) → AreAtMost ks ks' → (Contains gone o → ⊥) → AreSought g ks gone sought
    → AreSought g ks' (gone ++ o ∷ []) (sought ++ o ∷ [])
gone_sought g ks ks' gone sought o most fresh h = record {
  which = λ x c. elim (Contains-push_cases gone o x c) [
    | inl before ↦ elim (h.which x before) [
      | inl is ↦ inl (Contains-append_left sought (o ∷ []) x is)
      | inr was ↦ inr (alone_still g ks ks' most x was)
    ]
    | inr last ↦ inl (rw (← last) (Contains-push sought o))
  ];
  part = λ x c. elim (Contains-push_cases sought o x c) [
    | inl before ↦ Contains-append_left gone (o ∷ []) x (h.part x before)
    | inr last ↦ rw (← last) (Contains-push gone o)
  ];
  once = NoneTwice-push o sought h.once (λ c. fresh (h.part o c));
}

-- nothing is alone and nothing is gone yet
pub none_alone : (g : Standing) (ks : List Reached) (waiting : List ℕ) → AreFirst 0 waiting (IsAlone g ks)
none_alone g ks waiting = record { few = omega arith; each = λ x (k, lt, is). absurd (omega arith) }

pub none_sought : (g : Standing) (ks : List Reached) → AreSought g ks [] []
none_sought g ks = record { which = λ x (k, lt, is). absurd (omega arith); part = λ x (k, lt, is). absurd (omega arith); once = tt }

-- the object that is taken out is alone where it counts so, and the others still are
pub taken_alone : (g : Standing) (ks : List Reached) (alone alone' o : ℕ) (waiting waiting' : List ℕ) → AreFirst alone waiting (IsAlone g ks)
    → waiting ≡ o ∷ waiting' → 1 ≤ alone → IsAlone g ks o
taken_alone g ks zero alone' o waiting waiting' h first some = absurd (omega (arith, some))
taken_alone g ks (suc alone) alone' o waiting waiting' h first some = h.each o (rw first (Contains-first o (take alone waiting')))

pub left_alone : (g : Standing) (ks : List Reached) (alone alone' o : ℕ) (waiting waiting' : List ℕ) → AreFirst alone waiting (IsAlone g ks)
    → waiting ≡ o ∷ waiting' → alone' ≡ alone - 1 → AreFirst alone' waiting' (IsAlone g ks)
left_alone g ks zero alone' o waiting waiting' h first less = rw less (none_alone g ks waiting')
left_alone g ks (suc alone) alone' o waiting waiting' h first less =
    let is : alone' ≡ alone = omega arith in
    record {
      few = omega (arith, h.few, ap length first);
      each = λ x c. h.each x (rw first (Contains-later o x (take alone waiting') (rw is at c)));
    }

-- an object hangs on another support, and keeps its strength
pub strengths_stay : (ks ks' : List Reached) (o : ℕ) (k : Reached) → reached_at ks' o ≡ k → k.strength ≡ (reached_at ks o).strength
    → ((x : ℕ) → x ≢ o → reached_at ks' x ≡ reached_at ks x) → (x : ℕ) → (reached_at ks' x).strength ≡ (reached_at ks x).strength
strengths_stay ks ks' o k here same others x = elim (cases_eq x o) [
  | inl is ↦ rw is (ap (λ (k : Reached). k.strength) here ∙ same)
  | inr other ↦ ap (λ (k : Reached). k.strength) (others x other)
]

-- strengths that stay are at most what they were
pub stay_at_most : (ks ks' : List Reached) → ((x : ℕ) → (reached_at ks' x).strength ≡ (reached_at ks x).strength) → AreAtMost ks ks'
stay_at_most ks ks' same x = inl (same x)

-- an object that waits isn't gone
pub waits_not_gone : (g : Standing) (n : ℕ) (ks : List Reached) (o : ℕ) (p : Progress) → IsUnderway g n ks (before_all o p) NoneLate → Contains p.gone o → ⊥
waits_not_gone g n ks o p h c =
    let z : rank_at ks o ≡ 0 = ap rank (h.gone o c).1 in
    omega (arith, (h.waiting o (Contains-first o p.waiting)).1)

-- the object that is taken out waited before the others
pub taken_progress : (old new : Losing) (o : ℕ) (is_alone : Bool) → TakesNext old new o is_alone → before_all o (progress_of new) ≡ progress_of old
taken_progress old new o is_alone t = rw (t.waiting, t.rehung, t.lifted, t.gone) refl

-- where none waits, the loss is as it was
pub none_progress : (old new : Losing) → FindsNone old new → progress_of new ≡ progress_of old
none_progress old new t = rw (t.waiting, t.before, t.rehung, t.lifted, t.gone) refl

pub none_halfway : (r : Rows) (ks : List Reached) (old new : Losing) → IsHalfway r ks old → FindsNone old new → IsHalfway r ks new
none_halfway r ks old new h t = record {
  underway = subst (λ (p : Progress). IsUnderway r.standing r.objects ks p NoneLate) (sym (none_progress old new t)) h.underway;
  first = rw (t.waiting, t.alone) (rw t.before at h.first);
  sought = rw (t.gone, t.sought) h.sought;
}

-- an object is done once, so none waits when all are done
pub none_waits : (g : Standing) (n : ℕ) (ks : List Reached) (p : Progress) (waiting : List ℕ) → p.waiting ≡ waiting → IsUnderway g n ks p NoneLate
    → n ≤ length p.rehung + length p.gone → waiting ≡ []
none_waits g n ks p [] is h all = refl
none_waits g n ks p (x ∷ xs) is h all =
    let rest : Progress = record { waiting = xs; rehung = p.rehung; lifted = p.lifted; gone = p.gone; strengths = p.strengths } in
    let first : IsUnderway g n ks (before_all x rest) NoneLate = subst (λ (w : List ℕ). IsUnderway g n ks
    (record { waiting = w; rehung = p.rehung; lifted = p.lifted; gone = p.gone; strengths = p.strengths }) NoneLate) is h in
    absurd (omega (arith, all, room_left g n ks x rest first))
