use Rattle.std.proofs.Common.{◌≡◌, ◌≢◌, ◌∙◌, ℕ, ◌+◌, ◌-◌, ◌<◌, ◌≤◌, inl, inr, Bool, List, [], ◌∷◌, Contains, length, length-append, set, Some, slice_get, refl}
use Rattle.std.proofs.Common.{sym, ap, subst, arith}
use Rattle.std.proofs.lemmas.Bool.{cases_eq, cases_lt}
use Rattle.std.proofs.lemmas.List.{get_or-set_same, get_or-set_other, length-set}
use Rattle.std.proofs.lemmas.List.Elements.{Contains-push, Contains-push_cases, Contains-append_left}
use Rattle.std.proofs.lemmas.List.Sums.{sum_by-set}
use Rattle.hd_terms.specs.declared.Event.{Event}
use Rattle.hd_terms.specs.declared.Mode.{Mode}
use Rattle.hd_terms.specs.declared.Strength.{Strength}
use Rattle.hd_terms.specs.Ranks.{rank, least_passed_on, IsPassedOn}
use Rattle.hd_terms.proofs.RankLemmas.{least-positive}
use Rattle.hd_terms.specs.Paths.{Edge}
use Rattle.hd_terms.specs.Dump.{Dump}
use Rattle.hd_terms.specs.EditedDump.{standing}
use Rattle.hd_terms.specs.Settled.{Reached, reached_at, unreached, PassesOn}
use Rattle.hd_strength.specs.declared.buckets.Offer.{Offer}
use Rattle.hd_strength.specs.declared.buckets.Buckets.{Buckets}
use Rattle.hd_strength.specs.declared.part.Part.{Part}
use Rattle.hd_strength.specs.Buckets.{bucket}
use Rattle.hd_strength.specs.Found.{Findings, seen}
use Rattle.hd_strength.specs.Rows.{edge_at}
use Rattle.hd_strength.specs.Growing.{rank_at, offered_strength, IsHadOrPromised, IsGrowing, unreached_count}
use Rattle.hd_strength.specs.Parts.{IsOwn, found_at, unreached_of, to_do, unreached_in, IsOfferedIn, IsDoneIn, IsFit, IsSearching, Reaches}
use Rattle.hd_strength.proofs.RowLemmas.{at_source}
use Rattle.hd_strength.proofs.FoundLemmas.{seen-strength}
use Rattle.hd_strength.proofs.Weights.{weight, weight-none, weight-some}
use Rattle.hd_strength.proofs.Grow.{still_had, take}
use Rattle.hd_strength.proofs.Spreading.{rows_of, kept_by, offered_strength-some, sum-set, part-le-sum, own_rank, own_within, offers_stay, offers_within}
use Rattle.hd_strength.proofs.Spreading.{done_before, not_queued_after, own_before, changed}

-- one of a part's own is reached by an edge, with the stamp behind one
module _ (mode : Mode) (whole : Bool) (s : Strength) (old new : Part) (e : Edge) (stamp : ℕ)
    (r : Reaches (seen whole) mode old new s e.source e.slot e.target stamp) (own : IsOwn old e.target) (low : rank (found_at old e.target).strength ≡ 0) where
  abbrev k : Reached
  k = kept_by s e.source e.slot (stamp + 1)

  abbrev place : ℕ
  place = e.target - old.first

  place_within : place < length old.found.list
  place_within = omega (arith, own.first, own.last)

  pub found_here : found_at new e.target ≡ seen whole k
  found_here = ap (λ (n : ℕ). reached_at new.found.list (e.target - n)) r.keeps.same_first ∙ ap (λ (f : Findings). reached_at f.list place) r.keeps.kept
      ∙ get_or-set_same old.found.list place (seen whole k) unreached place_within

  pub found_others : (o : ℕ) → IsOwn old o → o ≢ e.target → found_at new o ≡ found_at old o
  found_others o his ne =
      ap (λ (n : ℕ). reached_at new.found.list (o - n)) r.keeps.same_first
      ∙ ap (λ (f : Findings). reached_at f.list (o - old.first)) r.keeps.kept
      ∙ get_or-set_other old.found.list place (o - old.first) (seen whole k) unreached (λ same. ne (omega (arith, same, his.first, own.first)))

  pub same_length : length new.found.list ≡ length old.found.list
  same_length = ap (λ (f : Findings). length f.list) r.keeps.kept ∙ length-set old.found.list place (seen whole k)

  -- one less is unreached
  pub fewer : 1 ≤ rank s → unreached_of new + 1 ≡ unreached_of old
  fewer some =
      let strength : rank (seen whole k).strength ≡ rank s = ap rank (seen-strength whole k) in
      omega (
        arith,
        ap (λ (f : Findings). unreached_count f.list) r.keeps.kept,
        sum_by-set weight old.found.list place (seen whole k) unreached place_within,
        weight-none (found_at old e.target) low,
        weight-some (seen whole k) (omega arith),
      )

  pub strength_here : (found_at new e.target).strength ≡ s
  strength_here = ap (λ (k : Reached). k.strength) found_here ∙ seen-strength whole k

  -- an object of the strength that is spread still has it
  pub still : (o : ℕ) → IsOwn old o → (found_at old o).strength ≡ s → (found_at new o).strength ≡ s
  still o his is = elim (cases_eq o e.target) [
    | inl same ↦ ap (λ (o : ℕ). (found_at new o).strength) same ∙ strength_here
    | inr other ↦ ap (λ (k : Reached). k.strength) (found_others o his other) ∙ is
  ]

  pub own_after : (o : ℕ) → IsOwn old o → IsOwn new o
  own_after o his = record { first = omega (arith, his.first, r.keeps.same_first); last = omega (arith, his.last, r.keeps.same_first, same_length) }

  still_queued : (o : ℕ) → Contains old.queue o → Contains new.queue o
  still_queued o c = elim (cases_lt (rank s) (rank (least_passed_on mode))) [
    | inl low ↦ subst (λ (xs : List ℕ). Contains xs o) (sym (r.not_queued (λ high. omega arith))) c
    | inr high ↦ subst (λ (xs : List ℕ). Contains xs o) (sym (r.queued high)) (Contains-append_left old.queue (e.target ∷ []) o c)
  ]

  queued_here : IsPassedOn mode s → Contains new.queue e.target
  queued_here high = subst (λ (xs : List ℕ). Contains xs e.target) (sym (r.queued high)) (Contains-push old.queue e.target)

  queued_after : ((o : ℕ) → Contains old.queue o → IsOwn old o × ((found_at old o).strength ≡ s) × IsPassedOn mode s) → (o : ℕ) → Contains new.queue o
      → IsOwn new o × ((found_at new o).strength ≡ s) × IsPassedOn mode s
  queued_after h o c = elim (cases_lt (rank s) (rank (least_passed_on mode))) [
    | inl low ↦ let before = h o (subst (λ (xs : List ℕ). Contains xs o) (r.not_queued (λ high. omega arith)) c) in
        (own_after o before.0, still o before.0 before.1, before.2)
    | inr high ↦ elim (Contains-push_cases old.queue e.target o (subst (λ (xs : List ℕ). Contains xs o) (r.queued high) c)) [
      | inl before ↦ let was = h o before in (own_after o was.0, still o was.0 was.1, high)
      | inr same ↦ subst (λ (o : ℕ). IsOwn new o × ((found_at new o).strength ≡ s) × IsPassedOn mode s) same (own_after e.target own, strength_here, high)
    ]
  ]

  queue_grows : length new.queue ≤ length old.queue + 1
  queue_grows = elim (cases_lt (rank s) (rank (least_passed_on mode))) [
    | inl low ↦ omega (arith, ap length (r.not_queued (λ high. omega arith)))
    | inr high ↦ omega (arith, ap length (r.queued high), length-append old.queue (e.target ∷ []))
  ]

  -- there is no more to do
  pub no_more : 1 ≤ rank s → to_do new ≤ to_do old
  no_more some = omega (arith, fewer some, queue_grows)

  -- the part still says for itself what it did
  pub fit_after : (dump : Dump) → dump.mode ≡ mode → IsFit dump s old → 1 ≤ rank s → stamp + unreached_of old ≤ length dump.objects → IsFit dump s new
  fit_after dump same_mode f some room = record {
    within = omega (arith, f.within, r.keeps.same_first, same_length);
    few = f.few;
    queued = λ o c. let q = queued_after (λ o c. let was = f.queued o c in (was.0, was.1, subst (λ (m : Mode). IsPassedOn m s) same_mode was.2)) o c in
        (q.0, q.1, subst (λ (m : Mode). IsPassedOn m s) (sym same_mode) q.2);
    room = omega (arith, room, r.keeps.counted, fewer some);
    offered = λ u y c. own_after y.source (f.offered u y (subst (λ (b : Buckets). Contains (bucket b u) y) r.keeps.same_buckets c));
  }

-- by an offer that is backed, or could be made
module _ (dump : Dump) (log : List Event) (parts : List Part) (ks : List Reached) (whole : Bool) (s : Strength) (limit : ℕ) (D D' : ℕ → ℕ → Type 0) (m : ℕ)
    (old new : Part) (x : Offer) (e : Edge) (stamp : ℕ)
    (h : IsSearching dump log parts ks whole s limit D) (there : slice_get parts m ≡ Some old)
    (r : Reaches (seen whole) dump.mode old new s e.source e.slot e.target stamp) (own : IsOwn old e.target) (low : rank (found_at old e.target).strength ≡ 0)
    (is : edge_at dump log x.source x.index ≡ Some e) (passes : PassesOn dump.mode (reached_at ks x.source)) (gives : s ≡ offered_strength ks e)
    (last : (reached_at ks x.source).stamp ≤ stamp) (later : old.count ≤ stamp) (room : stamp + unreached_in parts ≤ length dump.objects)
    (part : (o i : ℕ) → D' o i → D o i) where
  abbrev t : ℕ
  t = e.target

  abbrev k' : Reached
  k' = kept_by s e.source e.slot (stamp + 1)

  abbrev pub kept_after : List Reached
  kept_after = set ks t k'

  abbrev after : List Part
  after = set parts m new

  t_within : t < length ks
  t_within = own_within dump log parts ks whole s limit D m old h there t own

  here : reached_at kept_after t ≡ k'
  here = get_or-set_same ks t k' unreached t_within

  others : (o : ℕ) → o ≢ t → reached_at kept_after o ≡ reached_at ks o
  others o ne = get_or-set_other ks t o k' unreached ne

  low_kept : rank_at ks t ≡ 0
  low_kept = sym (own_rank dump log parts ks whole s limit D m old h there t own) ∙ low

  pub some : 1 ≤ rank s
  some =
      let from : rank_at ks e.source ≡ rank_at ks x.source = ap (rank_at ks) (at_source dump log x.source x.index e is) in
      omega (arith, ap rank gives, offered_strength-some ks e (omega (arith, passes, least-positive dump.mode)))

  fewer_in : unreached_in after + 1 ≡ unreached_in parts
  fewer_in = omega (arith, sum-set unreached_of parts m old new there, fewer dump.mode whole s old new e stamp r own low some)

  raises : (o : ℕ) → rank_at ks o ≤ rank_at kept_after o
  raises o = elim (cases_eq o t) [
    | inl same ↦ let z : rank_at ks o ≡ 0 = ap (rank_at ks) same ∙ low_kept in omega arith
    | inr other ↦ let z : rank_at kept_after o ≡ rank_at ks o = ap (λ (k : Reached). rank k.strength) (others o other) in omega arith
  ]

  stay : (u : Strength) (y : Offer) → IsOfferedIn parts u y → IsOfferedIn after u y
  stay = offers_stay parts m old new there (λ u y c. subst (λ (b : Buckets). Contains (bucket b u) y) (sym r.keeps.same_buckets) c)

  within : (u : Strength) (y : Offer) → IsOfferedIn after u y → IsOfferedIn parts u y
  within = offers_within parts m old new there (λ u y c. subst (λ (b : Buckets). Contains (bucket b u) y) r.keeps.same_buckets c)

  done_part : (o i : ℕ) → IsDoneIn after o × D' o i → PassesOn dump.mode (reached_at kept_after o) → (IsDoneIn parts o × D o i) × (o ≢ t)
  done_part o i done p = (
    (
      done_before parts m old new there o done.0
          (λ c. not_queued_after parts m old new there o done.0 (still_queued dump.mode whole s old new e stamp r own low o c)),
      part o i done.1,
    ),
    λ same.
        let rank_t : rank_at kept_after o ≡ rank s = ap (rank_at kept_after) same ∙ ap (λ (k : Reached). rank k.strength) here in
        not_queued_after parts m old new there o done.0
        (subst (λ (o : ℕ). Contains new.queue o) (sym same) (queued_here dump.mode whole s old new e stamp r own low (omega (arith, p)))),
  )

  grown : IsGrowing (standing dump log) (edge_at dump log) kept_after (IsOfferedIn after) s limit (λ o i. IsDoneIn after o × D' o i)
  grown = take (standing dump log) (edge_at dump log) (rows_of dump log) ks kept_after (IsOfferedIn parts) (IsOfferedIn after) s limit
      (λ o i. IsDoneIn parts o × D o i) (λ o i. IsDoneIn after o × D' o i) x e
      h.growing within stay is passes gives low_kept stamp last here others done_part

  had : (given o : ℕ) → IsHadOrPromised (edge_at dump log) ks (IsOfferedIn parts) given o
      → IsHadOrPromised (edge_at dump log) kept_after (IsOfferedIn after) given o
  had = still_had (edge_at dump log) ks kept_after (IsOfferedIn parts) (IsOfferedIn after) raises stay

  same_len : length new.found.list ≡ length old.found.list
  same_len = same_length dump.mode whole s old new e stamp r own low

  own_old : (o : ℕ) → IsOwn new o → IsOwn old o
  own_old = own_before dump log parts ks whole s limit D m old new h there r.keeps.same_first same_len

  fit_new : IsFit dump s new
  fit_new = fit_after dump.mode whole s old new e stamp r own low dump refl (h.each m old there).fit some
      (omega (arith, room, part-le-sum unreached_of parts m old there))

  found_kept : (o : ℕ) → IsOwn new o → found_at new o ≡ seen whole (reached_at kept_after o)
  found_kept o mine = elim (cases_eq o t) [
    | inl same ↦ subst (λ (o : ℕ). found_at new o ≡ seen whole (reached_at kept_after o)) (sym same) (found_here dump.mode whole s old new e stamp r own low
        ∙ ap (seen whole) (sym here))
    | inr other ↦ found_others dump.mode whole s old new e stamp r own low o (own_old o mine) other ∙ (h.each m old there).own o (own_old o mine)
        ∙ ap (seen whole) (sym (others o other))
  ]

  stamps_after : (o : ℕ) → IsOwn new o → (reached_at kept_after o).stamp ≤ new.count
  stamps_after o mine = elim (cases_eq o t) [
    | inl same ↦ omega (arith, ap (λ (o : ℕ). (reached_at kept_after o).stamp) same, ap (λ (k : Reached). k.stamp) here, r.keeps.counted)
    | inr other ↦ omega (arith, ap (λ (k : Reached). k.stamp) (others o other), (h.each m old there).stamps o (own_old o mine), r.keeps.counted)
  ]

  pub accepted : IsSearching dump log after kept_after whole s limit D'
  accepted = changed dump log parts ks whole s limit D m old new h there r.keeps.same_first same_len kept_after limit D' grown fit_new
      (ap (λ (f : Findings). f.whole) r.keeps.kept) found_kept stamps_after
      (omega (arith, room, r.keeps.counted, fewer_in)) (omega (arith, fewer_in)) (λ o apart. others o (λ same. apart (subst (IsOwn old) (sym same) own))) had
      (λ o flag. had (rank s) o ((h.each m old there).handed o (rw (← r.keeps.same_handed) flag))) (length-set ks t k')

  -- the target is reached
  pub target_after : rank_at kept_after t ≡ rank s
  target_after = ap (λ (k : Reached). rank k.strength) here
