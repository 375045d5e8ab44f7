use Rattle.std.proofs.Common.{◌≡◌, ◌∙◌, ℕ, ◌+◌, ◌<◌, ◌≤◌, ◌⊎◌, inl, inr, Bool, List, [], ◌∷◌, Contains, length, set, get_or, Option, Some, None, IfNone, IfSome}
use Rattle.std.proofs.Common.{slice_get, refl, sym, ap, subst, arith}
use Rattle.std.proofs.lemmas.Bool.{cases_eq}
use Rattle.std.proofs.lemmas.Option.{slice_get_read, slice_get_within}
use Rattle.hd_terms.specs.declared.Event.{Event}
use Rattle.hd_terms.specs.declared.Strength.{Strength}
use Rattle.hd_terms.specs.Ranks.{rank}
use Rattle.hd_terms.proofs.RankLemmas.{same_rank}
use Rattle.hd_terms.specs.Paths.{Edge}
use Rattle.hd_terms.specs.Dump.{Dump}
use Rattle.hd_terms.specs.EditedDump.{standing}
use Rattle.hd_terms.specs.Settled.{reached_at}
use Rattle.hd_strength.specs.declared.buckets.Offer.{Offer}
use Rattle.hd_strength.specs.declared.buckets.Buckets.{Buckets}
use Rattle.hd_strength.specs.declared.part.Part.{Part}
use Rattle.hd_strength.specs.Buckets.{bucket, TakesFirst}
use Rattle.hd_strength.specs.Found.{seen}
use Rattle.hd_strength.specs.Rows.{edge_at}
use Rattle.hd_strength.specs.Growing.{rank_at, IsBacked, IsHadOrPromised, IsGrowing}
use Rattle.hd_strength.specs.Parts.{IsOwn, found_at, unreached_in, to_do, to_do_in, IsOfferedIn, IsDoneIn, AreSearching, IsAny, HaveComeTo, HaveAccepted}
use Rattle.hd_strength.specs.Parts.{Reaches, IsHeldIn, IsHolder, IsReachedIn, IsReachedOrNot, IsMade, HaveSameOffers, AreNoneOffered, AreQuiet}
use Rattle.hd_strength.proofs.Lists.{Contains-nil, Contains-head, Contains-tail, Contains-cons_cases, Contains-slice_get}
use Rattle.hd_strength.proofs.RowLemmas.{IsAt, is_at}
use Rattle.hd_strength.proofs.Rowed.{slice_get-set_same, slice_get-set_cases, one_there, set-there, row-holder}
use Rattle.hd_strength.proofs.Grow.{less_had, still_had_but, weaken, offer, decline, none_left, descend}
use Rattle.hd_strength.proofs.Spreading.{sum-set, own_rank, offers_within, done_before, here_after, there_after, not_queued_after, unchanged}
use Rattle.hd_strength.proofs.Going.{own_same_back}
use Rattle.hd_strength.proofs.Accepting.{accepted, kept_after, strength_here, own_after, no_more, some}

-- an offer that a part made
module _ (dump : Dump) (log : List Event) (whole : Bool) (s : Strength) (parts : List Part) (h : HaveComeTo dump log whole s parts) (x : Offer) (first : ℕ)
    (made : IsMade parts s x first) where
  pub backing : IsBacked dump.mode (edge_at dump log) h.kept s x
  backing = h.holds.growing.backed s x made.offered

  pub at_offer : IsAt dump log x.source x.index backing.edge
  at_offer = is_at dump log x.source x.index backing.edge backing.is

  -- its target has a part
  pub held : IsHeldIn parts backing.edge.target
  held = row-holder parts 0 (length dump.objects) backing.edge.target h.holds.row (omega arith) at_offer.target

  -- no stamp of the part that made it leaves too little room
  pub made_room : first + unreached_in parts ≤ length dump.objects
  made_room = omega (arith, (h.holds.each made.offered.index made.offered.part made.offered.there).room, made.last)

  -- the stamp of its source isn't later
  source_stamp : (reached_at h.kept x.source).stamp ≤ first
  source_stamp = let q = h.holds.each made.offered.index made.offered.part made.offered.there in
      omega (arith, q.stamps x.source (q.fit.offered s x made.offered.made), made.last)

  module _ (m : ℕ) (old new : Part) (stamp : ℕ) (there : slice_get parts m ≡ Some old) (own : IsOwn old backing.edge.target) (last : first ≤ stamp)
      (later : old.count ≤ stamp) (one : (stamp ≡ first) ⊎ (stamp ≡ old.count))
      (r : IsReachedOrNot (seen old.found.whole) dump.mode old new s backing.edge.source backing.edge.slot backing.edge.target stamp) where
    abbrev e : Edge
    e = backing.edge

    -- what is known of the parts afterwards
    pub record AreTried (after : List Part) : Type 0 where
      pub searching : HaveComeTo dump log whole s after
      pub reached : (f : Edge) → edge_at dump log x.source x.index ≡ Some f → IsReachedIn after f.target
      pub same_offers : HaveSameOffers parts after
      pub no_more : to_do_in after ≤ to_do_in parts

    the_edge : (f : Edge) → edge_at dump log x.source x.index ≡ Some f → f ≡ e
    the_edge f is = let both : Some f ≡ Some e = sym is ∙ backing.is in cc

    room : stamp + unreached_in parts ≤ length dump.objects
    room = elim one [
      | inl his ↦ omega (arith, made_room)
      | inr mine ↦ omega (arith, (h.holds.each m old there).room)
    ]

    -- it was reached
    was_reached : 1 ≤ rank (found_at old e.target).strength → AreTried parts
    was_reached reached = record {
      searching = h;
      reached = λ f is. subst (λ (f : Edge). IsReachedIn parts f.target) (sym (the_edge f is))
          (record { index = m; holder = record { part = old; there = there; own = own }; reached = reached });
      same_offers = λ k p at. (p, at, refl);
      no_more = omega arith;
    }

    -- it is reached now
    is_reached : rank (found_at old e.target).strength ≡ 0 → Reaches (seen old.found.whole) dump.mode old new s e.source e.slot e.target stamp
        → AreTried (set parts m new)
    is_reached low reaches =
        let alike = (h.holds.each m old there).alike in
        let now : Reaches (seen whole) dump.mode old new s e.source e.slot e.target stamp =
        subst (λ (w : Bool). Reaches (seen w) dump.mode old new s e.source e.slot e.target stamp) alike reaches in
        let positive : 1 ≤ rank s =
        some dump log parts h.kept whole s (rank s + 1) IsAny IsAny m old new x e stamp h.holds there now own low backing.is backing.passes_on backing.gives
        (omega (arith, source_stamp)) later room (λ o i d. d) in
        record {
          searching = record {
            kept = kept_after dump log parts h.kept whole s (rank s + 1) IsAny IsAny m old new x e stamp h.holds there now own low backing.is backing.passes_on
                backing.gives (omega (arith, source_stamp)) later room (λ o i d. d);
            holds = accepted dump log parts h.kept whole s (rank s + 1) IsAny IsAny m old new x e stamp h.holds there now own low backing.is backing.passes_on
                backing.gives (omega (arith, source_stamp)) later room (λ o i d. d);
          };
          reached = λ f is. subst (λ (f : Edge). IsReachedIn (set parts m new) f.target) (sym (the_edge f is)) (record {
            index = m;
            holder = record {
              part = new;
              there = slice_get-set_same parts m old new there;
              own =
                  own_after dump.mode whole s old new e stamp now own low e.target own;
            };
            reached = omega (arith, positive, ap rank (strength_here dump.mode whole s old new e stamp now own low));
          });
          same_offers = λ k p at. elim (slice_get-set_cases parts m k old new p there at) [
            | inl both ↦ (old, subst (λ (k : ℕ). slice_get parts k ≡ Some old) (sym both.0) there, ap (λ (p : Part). p.buckets) both.1 ∙ now.keeps.same_buckets)
            | inr other ↦ (p, other.1, refl)
          ];
          no_more = omega (arith, sum-set to_do parts m old new there, no_more dump.mode whole s old new e stamp now own low positive);
        }

    pub tried : AreTried (set parts m new)
    tried = elim r [
      | inl was ↦ subst AreTried (sym (ap (set parts m) was.1 ∙ set-there parts m old there)) (was_reached was.0)
      | inr now ↦ is_reached now.0 now.1
    ]

-- what is taken out first is what stands first
pub first_taken : (old new : Buckets) (s : Strength) (x : Offer) (r : Option Offer) → IfNone r (bucket old s ≡ []) → IfSome r (λ y. TakesFirst old new s y)
    → slice_get (bucket old s) 0 ≡ Some x → TakesFirst old new s x
first_taken old new s x None none some first = let no : None ≡ Some x = sym (ap (λ (xs : List Offer). slice_get xs 0) none) ∙ first in absurd (cc)
first_taken old new s x (Some y) none some first =
    let both : Some y ≡ Some x = sym (ap (λ (xs : List Offer). slice_get xs 0) some.here) ∙ first in
    let is : y ≡ x = cc in
    subst (TakesFirst old new s) is some

-- the part with other buckets
abbrev pub with_buckets : Part → Buckets → Part
with_buckets p b = record {
  first = p.first;
  found = p.found;
  buckets = b;
  queue = p.queue;
  handed = p.handed;
  count = p.count;
  passed = p.passed;
  failed =
      p.failed;
}

-- an offer is taken out whose target is reached
module _ (dump : Dump) (log : List Event) (whole : Bool) (s : Strength) (parts : List Part) (h : HaveComeTo dump log whole s parts) (k : ℕ) (p : Part)
    (b : Buckets) (x : Offer) (there : slice_get parts k ≡ Some p) (t : TakesFirst p.buckets b s x) where
  abbrev new : Part
  new = with_buckets p b

  abbrev after : List Part
  after = set parts k new

  within_bucket : (r : Strength) (y : Offer) → Contains (bucket b r) y → Contains (bucket p.buckets r) y
  within_bucket r y c = elim (cases_eq (rank r) (rank s)) [
    | inl one ↦
        let same : r ≡ s = same_rank r s one in
        subst (λ (r : Strength). Contains (bucket p.buckets r) y) (sym same)
        (subst (λ (xs : List Offer). Contains xs y) (sym t.here)
        (Contains-tail x (bucket b s) y (subst (λ (r : Strength). Contains (bucket b r) y) same c)))
    | inr other ↦ subst (λ (xs : List Offer). Contains xs y) (t.others r (λ same. other (ap rank same))) c
  ]

  left_bucket : (r : Strength) (y : Offer) → Contains (bucket p.buckets r) y → ((r ≡ s) × (y ≡ x)) ⊎ Contains (bucket b r) y
  left_bucket r y c = elim (cases_eq (rank r) (rank s)) [
    | inl one ↦
        let same : r ≡ s = same_rank r s one in
        elim (Contains-cons_cases x (bucket b s) y
        (subst (λ (xs : List Offer). Contains xs y) t.here (subst (λ (r : Strength). Contains (bucket p.buckets r) y) same c))) [
          | inl is ↦ inl (same, sym is)
          | inr later ↦ inr (subst (λ (r : Strength). Contains (bucket b r) y) (sym same) later)
        ]
    | inr other ↦ inr (subst (λ (xs : List Offer). Contains xs y) (sym (t.others r (λ same. other (ap rank same)))) c)
  ]

  within : (r : Strength) (y : Offer) → IsOfferedIn after r y → IsOfferedIn parts r y
  within = offers_within parts k p new there within_bucket

  left : (r : Strength) (y : Offer) → IsOfferedIn parts r y → ((r ≡ s) × (y ≡ x)) ⊎ IsOfferedIn after r y
  left r y c = elim (cases_eq c.index k) [
    | inr other ↦ inr (record { index = c.index; part = c.part; there = there_after parts k p new there c.index c.part other c.there; made = c.made })
    | inl same ↦
        let is : c.part ≡ p = one_there parts k c.part p (subst (λ (j : ℕ). slice_get parts j ≡ Some c.part) same c.there) there in
        elim (left_bucket r y (subst (λ (p : Part). Contains (bucket p.buckets r) y) is c.made)) [
          | inl both ↦ inl both
          | inr still ↦ inr (record { index = k; part = new; there = here_after parts k p new there; made = still })
        ]
  ]

  pub let_go : ((e : Edge) → edge_at dump log x.source x.index ≡ Some e → IsReachedIn parts e.target) → HaveComeTo dump log whole s after
  let_go reached =
      let q = h.holds.each k p there in
      let made : IsOfferedIn parts s x =
      record { index = k; part = p; there = there; made = subst (λ (xs : List Offer). Contains xs x) (sym t.here) (Contains-head x (bucket b s)) } in
      let back = h.holds.growing.backed s x made in
      let has = reached back.edge back.is in
      let high : 1 ≤ rank_at h.kept back.edge.target =
      omega (
        arith,
        has.reached,
        own_rank dump log parts h.kept whole s
            (rank s + 1) IsAny has.index has.holder.part h.holds has.holder.there back.edge.target has.holder.own,
      ) in
      let had : (given o : ℕ) → IsHadOrPromised (edge_at dump log) h.kept (IsOfferedIn parts) given o
      → IsHadOrPromised (edge_at dump log) h.kept (IsOfferedIn after) given o =
      still_had_but (edge_at dump log) h.kept (IsOfferedIn parts) (IsOfferedIn after) s x back.edge back.is
      (h.holds.growing.floor back.edge.target high) left in
      record {
        kept = h.kept;
        holds = unchanged dump log parts h.kept whole s (rank s + 1) IsAny k p new h.holds there refl refl (rank s + 1) IsAny refl refl
            (weaken (standing dump log) (edge_at dump log) h.kept (IsOfferedIn after) s (rank s + 1) (λ o i. IsDoneIn parts o × IsAny o i)
            (λ o i. IsDoneIn after o × IsAny o i)
            (decline (standing dump log) (edge_at dump log) h.kept (IsOfferedIn parts) (IsOfferedIn after) s (rank s + 1)
            (λ o i. IsDoneIn parts o × IsAny o i) x back.edge h.holds.growing back.is high within left)
            (λ o i e done is pass. inl (done_before parts k p new there o done.0 (λ c. not_queued_after parts k p new there o done.0 c), done.1)))
            (record {
              within = q.fit.within;
              few = q.fit.few;
              queued = λ o c. let was = q.fit.queued o c in (own_same_back p new refl refl o was.0, was.1, was.2);
              room = q.fit.room;
              offered = λ r y c. own_same_back p new refl refl y.source (q.fit.offered r y (within_bucket r y c));
            })
            had (λ o flag. had (rank s) o (q.handed o flag));
      }

  -- nothing else is done
  pub same_to_do : to_do_in after ≡ to_do_in parts
  same_to_do = omega (arith, sum-set to_do parts k p new there)

  -- none of the first parts has got an offer
  pub still_none : (n : ℕ) → n ≤ k → AreNoneOffered parts s n → AreNoneOffered after s n
  still_none n le none j q lt at = elim (slice_get-set_cases parts k j p new q there at) [
    | inl both ↦ absurd (omega (arith, both.0))
    | inr other ↦ none j q lt other.1
  ]

-- where parts have the same offers, no more of the first ones have any
pub none_same : (s : Strength) (before now : List Part) (n : ℕ) → HaveSameOffers before now → AreNoneOffered before s n → AreNoneOffered now s n
none_same s before now n same none k p lt at = let was = same k p at in ap (λ (b : Buckets). bucket b s) was.2 ∙ none k was.0 lt was.1

-- one more of the first parts has none
pub none_more : (s : Strength) (parts : List Part) (k : ℕ) (p : Part) → AreNoneOffered parts s k → slice_get parts k ≡ Some p → bucket p.buckets s ≡ []
    → AreNoneOffered parts s (k + 1)
none_more s parts k p none there empty j q lt at = elim (cases_eq j k) [
  | inl same ↦
      let is : q ≡ p = one_there parts k q p (subst (λ (j : ℕ). slice_get parts j ≡ Some q) same at) there in
      ap (λ (p : Part). bucket p.buckets s) is ∙ empty
  | inr before ↦ none j q (omega arith) at
]

-- other bounds for a search whose parts stay
pub rebound : (dump : Dump) (log : List Event) (whole : Bool) (s : Strength) (limit limit' : ℕ) (parts : List Part) → limit ≤ limit'
    → AreSearching dump log whole s limit IsAny parts → AreSearching dump log whole s limit' IsAny parts
rebound dump log whole s limit limit' parts le h = record {
  kept = h.kept;
  holds = record {
    growing = offer (standing dump log) (edge_at dump log) h.kept (IsOfferedIn parts) (IsOfferedIn parts) s limit limit'
        (λ o i. IsDoneIn parts o × IsAny o i) h.holds.growing le (λ t x c. c) (λ t x c. inl c);
    each = h.holds.each;
    row = h.holds.row;
    objects = h.holds.objects;
  };
}

-- all offers of the strength are taken
pub all_taken : (dump : Dump) (log : List Event) (whole : Bool) (s : Strength) (parts : List Part) (n : ℕ) → HaveComeTo dump log whole s parts
    → AreNoneOffered parts s n → length parts ≤ n → HaveAccepted dump log whole s parts
all_taken dump log whole s parts n h none le = record {
  kept = h.kept;
  holds = record {
    growing = none_left (standing dump log) (edge_at dump log) h.kept (IsOfferedIn parts) s (λ o i. IsDoneIn parts o × IsAny o i) h.holds.growing
        (λ x c. Contains-nil x (subst (λ (xs : List Offer). Contains xs x)
        (none c.index c.part (omega (arith, slice_get_within parts c.index c.part c.there)) c.there) c.made));
    each = h.holds.each;
    row = h.holds.row;
    objects = h.holds.objects;
  };
}

-- nothing is left of the strength
pub comes_to : (dump : Dump) (log : List Event) (whole : Bool) (s next : Strength) (parts : List Part) → HaveAccepted dump log whole s parts → AreQuiet parts
    → rank s ≡ rank next + 1 → HaveComeTo dump log whole next parts
comes_to dump log whole s next parts h quiet below = record {
  kept = h.kept;
  holds = record {
    growing = subst (λ (limit : ℕ). IsGrowing (standing dump log) (edge_at dump log) h.kept (IsOfferedIn parts) next limit
        (λ o i. IsDoneIn parts o × IsAny o i)) below
        (descend (standing dump log) (edge_at dump log) h.kept (IsOfferedIn parts) s next (rank s) (λ o i. IsDoneIn parts o × IsAny o i) h.holds.growing
        (omega arith));
    each = λ k p there.
        let q = h.holds.each k p there in
        record {
          fit = record {
            within = q.fit.within;
            few = q.fit.few;
            queued = λ o c. absurd (Contains-nil o (subst (λ (xs : List ℕ). Contains xs o) (quiet k p there) c));
            room = q.fit.room;
            offered = q.fit.offered;
          };
          alike = q.alike;
          own = q.own;
          stamps = q.stamps;
          room = q.room;
          handed = λ o flag. less_had (edge_at dump log) h.kept (IsOfferedIn parts) (rank s) (rank next) o (omega arith) (q.handed o flag);
        };
    row = h.holds.row;
    objects = h.holds.objects;
  };
}

-- how many offers of a strength the part of a place has, if there is one
abbrev pub offered_by : Option Part → Strength → ℕ
offered_by None s = 0
offered_by (Some p) s = length (bucket p.buckets s)

-- the part that has an object, as it is read
pub holder_there : (parts ps : List Part) (k o : ℕ) (p : Part) → IsHolder ps o k → ps ≡ parts → p ≡ get_or parts k p → (slice_get parts k ≡ Some p) × IsOwn p o
holder_there parts ps k o p h same read =
    let there : slice_get parts k ≡ Some h.part = subst (λ (xs : List Part). slice_get xs k ≡ Some h.part) same h.there in
    let here : slice_get parts k ≡ Some p = slice_get_read parts (length parts) k p refl (slice_get_within parts k h.part there) read in
    (here, subst (λ (p : Part). IsOwn p o) (one_there parts k h.part p there here) h.own)

-- a part that is read is the one there
pub read_there : (parts : List Part) (k : ℕ) (p q : Part) → slice_get parts k ≡ Some p → q ≡ get_or parts k q → q ≡ p
read_there parts k p q there read = one_there parts k q p (slice_get_read parts (length parts) k q refl (slice_get_within parts k p there) read) there

-- the first offer of a part is taken out, once its target is reached
module _ (s : Strength) (before now : List Part) (k : ℕ) (p q : Part) (b : Buckets) (x : Offer) (r : Option Offer) (there : slice_get before k ≡ Some p)
    (here : slice_get now k ≡ Some q)
    (same : HaveSameOffers before now) (first : slice_get (bucket p.buckets s) 0 ≡ Some x) (none : IfNone r (bucket q.buckets s ≡ []))
    (some : IfSome r (λ y. TakesFirst q.buckets b s y)) where
  same_buckets : q.buckets ≡ p.buckets
  same_buckets = let was = same k q here in was.2 ∙ ap (λ (p : Part). p.buckets) (one_there before k was.0 p was.1 there)

  pub taken : TakesFirst q.buckets b s x
  taken = first_taken q.buckets b s x r none some (ap (λ (b : Buckets). slice_get (bucket b s) 0) same_buckets ∙ first)

  pub fewer_offered : offered_by (slice_get (set now k (with_buckets q b)) k) s < offered_by (slice_get before k) s
  fewer_offered = rw (there, slice_get-set_same now k q (with_buckets q b) here)
      (omega (arith, ap length taken.here, ap (λ (b : Buckets). length (bucket b s)) same_buckets))

-- what stands first is in the list
pub first-contained : (xs : List Offer) (x : Offer) → slice_get xs 0 ≡ Some x → Contains xs x
first-contained xs x h = Contains-slice_get xs 0 x (slice_get_within xs 0 x h) h

-- where nothing stands first there is nothing
pub none-first : (xs : List Offer) → slice_get xs 0 ≡ None → xs ≡ []
none-first [] h = refl
none-first (x ∷ xs) h = let no : Some x ≡ None = h in absurd (cc)
