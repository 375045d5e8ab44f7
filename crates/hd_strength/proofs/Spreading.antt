use Rattle.std.proofs.Common.{◌≡◌, ◌≢◌, ◌∙◌, ℕ, ◌+◌, ◌-◌, ◌<◌, ◌≤◌, ◌⊎◌, inl, inr, Bool, true, List, Contains, length, set, get_or, Some, slice_get, sum_by}
use Rattle.std.proofs.Common.{refl, sym, ap, subst, arith}
use Rattle.std.proofs.lemmas.Bool.{cases_eq}
use Rattle.std.proofs.lemmas.Option.{slice_get_within, get_or_from_slice_get}
use Rattle.std.proofs.lemmas.List.Sums.{sum_by-set, get_or-le-sum_by}
use Rattle.hd_terms.specs.declared.Event.{Event}
use Rattle.hd_terms.specs.declared.Slot.{Slot}
use Rattle.hd_terms.specs.declared.Strength.{Strength}
use Rattle.hd_terms.specs.declared.Support.TheVariants as supports
use Rattle.hd_terms.specs.Ranks.{rank, given_by}
use Rattle.hd_terms.proofs.RankLemmas.{weaker-greatest, given-positive}
use Rattle.hd_terms.specs.Paths.{Edge}
use Rattle.hd_terms.specs.Dump.{Dump}
use Rattle.hd_terms.specs.EditedDump.{standing}
use Rattle.hd_terms.specs.Settled.{Reached, reached_at}
use Rattle.hd_strength.specs.declared.buckets.Offer.{Offer}
use Rattle.hd_strength.specs.declared.part.Part.{Part}
use Rattle.hd_strength.specs.Buckets.{bucket}
use Rattle.hd_strength.specs.Found.{Findings, seen}
use Rattle.hd_strength.specs.Rows.{edge_at}
use Rattle.hd_strength.specs.Growing.{rank_at, offered_strength, IsHadOrPromised, IsGrowing, unreached_count}
use Rattle.hd_strength.specs.Parts.{IsOwn, found_at, is_handed, unreached_of, unreached_in, IsOfferedIn, IsDoneIn, IsFit, IsPartOf, IsSearching}
use Rattle.hd_strength.proofs.RowLemmas.{edge_stands_at, at_source, edge_has_index}
use Rattle.hd_strength.proofs.FoundLemmas.{seen-strength}
use Rattle.hd_strength.proofs.Rowed.{slice_get-set_same, slice_get-set_other, slice_get-set_cases, one_there, row-set, row-one}
use Rattle.hd_strength.proofs.Grow.{AreRows}

-- the rows of a dump
pub rows_of : (dump : Dump) (log : List Event) → AreRows (standing dump log) (edge_at dump log)
rows_of dump log = record { stands = edge_stands_at dump log; source = at_source dump log; all = edge_has_index dump log }

-- what is kept of the target of an edge
abbrev pub kept_by : Strength → ℕ → Slot → ℕ → Reached
kept_by s source slot stamp = record { strength = s; support = supports.Edge source slot; stamp = stamp }

-- what an edge gives is something, where its source is reached
pub offered_strength-some : (ks : List Reached) (e : Edge) → 1 ≤ rank_at ks e.source → 1 ≤ rank (offered_strength ks e)
offered_strength-some ks e reached = weaker-greatest 1 (reached_at ks e.source).strength (given_by e.kind) reached (given-positive e.kind)

-- a sum over parts of which one takes the place of another
pub sum-set : (f : Part → ℕ) (parts : List Part) (k : ℕ) (old new : Part) → slice_get parts k ≡ Some old
    → sum_by f (set parts k new) + f old ≡ sum_by f parts + f new
sum-set f parts k old new there =
    let lt : k < length parts = slice_get_within parts k old there in
    let here : get_or parts k old ≡ old = get_or_from_slice_get parts k old old there in
    omega (arith, sum_by-set f parts k new old lt, ap f here)

-- no part counts more than all
pub part-le-sum : (f : Part → ℕ) (parts : List Part) (k : ℕ) (p : Part) → slice_get parts k ≡ Some p → f p ≤ sum_by f parts
part-le-sum f parts k p there =
    let lt : k < length parts = slice_get_within parts k p there in
    omega (arith, get_or-le-sum_by f parts k p lt, ap f (get_or_from_slice_get parts k p p there))

-- what a part says of its own is what is kept
module _ (dump : Dump) (log : List Event) (parts : List Part) (ks : List Reached) (whole : Bool) (s : Strength) (limit : ℕ) (D : ℕ → ℕ → Type 0) (k : ℕ)
    (p : Part)
    (h : IsSearching dump log parts ks whole s limit D) (there : slice_get parts k ≡ Some p) where
  pub own_strength : (o : ℕ) → IsOwn p o → (found_at p o).strength ≡ (reached_at ks o).strength
  own_strength o own = ap (λ (k : Reached). k.strength) ((h.each k p there).own o own) ∙ seen-strength whole (reached_at ks o)

  pub own_rank : (o : ℕ) → IsOwn p o → rank (found_at p o).strength ≡ rank_at ks o
  own_rank o own = ap rank (own_strength o own)

  pub own_within : (o : ℕ) → IsOwn p o → o < length ks
  own_within o own = let f = (h.each k p there).fit in omega (arith, own.last, f.within, h.objects)

-- one part takes the place of another
module _ (parts : List Part) (k : ℕ) (old new : Part) (there : slice_get parts k ≡ Some old) where
  abbrev after : List Part
  after = set parts k new

  pub here_after : slice_get after k ≡ Some new
  here_after = slice_get-set_same parts k old new there

  pub there_after : (j : ℕ) (p : Part) → j ≢ k → slice_get parts j ≡ Some p → slice_get after j ≡ Some p
  there_after j p ne before = slice_get-set_other parts k j new ne ∙ before

  -- what is offered is offered by the new part, or was
  pub offered_cases : (t : Strength) (x : Offer) → IsOfferedIn after t x → Contains (bucket new.buckets t) x
      ⊎ ((j : ℕ) × (p : Part) × (j ≢ k) × (slice_get parts j ≡ Some p) × Contains (bucket p.buckets t) x)
  offered_cases t x c = elim (slice_get-set_cases parts k c.index old new c.part there c.there) [
    | inl both ↦ inl (subst (λ (p : Part). Contains (bucket p.buckets t) x) both.1 c.made)
    | inr other ↦ inr (c.index, c.part, other.0, other.1, c.made)
  ]

  -- no less is offered, where the new part has the old one's offers
  pub offers_stay : ((t : Strength) (x : Offer) → Contains (bucket old.buckets t) x → Contains (bucket new.buckets t) x) → (t : Strength) (x : Offer)
      → IsOfferedIn parts t x → IsOfferedIn after t x
  offers_stay stay t x c = elim (cases_eq c.index k) [
    | inl same ↦
        let is : c.part ≡ old = one_there parts k c.part old (subst (λ (j : ℕ). slice_get parts j ≡ Some c.part) same c.there) there in
        record { index = k; part = new; there = here_after; made = stay t x (subst (λ (p : Part). Contains (bucket p.buckets t) x) is c.made) }
    | inr other ↦ record { index = c.index; part = c.part; there = there_after c.index c.part other c.there; made = c.made }
  ]

  -- nothing more is offered, where the new part has no other offers
  pub offers_within : ((t : Strength) (x : Offer) → Contains (bucket new.buckets t) x → Contains (bucket old.buckets t) x) → (t : Strength) (x : Offer)
      → IsOfferedIn after t x → IsOfferedIn parts t x
  offers_within within t x c = elim (offered_cases t x c) [
    | inl made ↦ record { index = k; part = old; there = there; made = within t x made }
    | inr before ↦ record { index = before.0; part = before.1; there = before.3; made = before.4 }
  ]

  -- an object that is done was done, if it wasn't queued by the old part
  pub done_before : (o : ℕ) → IsDoneIn after o → (Contains old.queue o → ⊥) → IsDoneIn parts o
  done_before o done apart j p before c = elim (cases_eq j k) [
    | inl same ↦
        let is : p ≡ old = one_there parts k p old (subst (λ (j : ℕ). slice_get parts j ≡ Some p) same before) there in
        apart (subst (λ (p : Part). Contains p.queue o) is c)
    | inr other ↦ done j p (there_after j p other before) c
  ]

  pub not_queued_after : (o : ℕ) → IsDoneIn after o → Contains new.queue o → ⊥
  not_queued_after o done c = done k new here_after c

-- a search where one part takes the place of another
module _ (dump : Dump) (log : List Event) (parts : List Part) (ks : List Reached) (whole : Bool) (s : Strength) (limit : ℕ) (D : ℕ → ℕ → Type 0) (k : ℕ)
    (old new : Part)
    (h : IsSearching dump log parts ks whole s limit D) (there : slice_get parts k ≡ Some old) (same_first : new.first ≡ old.first)
    (same_length : length new.found.list ≡ length old.found.list) where
  pub own_before : (o : ℕ) → IsOwn new o → IsOwn old o
  own_before o own = record { first = omega (arith, own.first); last = omega (arith, own.last) }

  pub changed : (ks' : List Reached) (limit' : ℕ) (D' : ℕ → ℕ → Type 0)
      → IsGrowing (standing dump log) (edge_at dump log) ks' (IsOfferedIn (set parts k new)) s limit' (λ o i. IsDoneIn (set parts k new) o × D' o i)
      → IsFit dump s new → new.found.whole ≡ old.found.whole
      → ((o : ℕ) → IsOwn new o → found_at new o ≡ seen whole (reached_at ks' o)) → ((o : ℕ) → IsOwn new o → (reached_at ks' o).stamp ≤ new.count)
      → new.count + unreached_in (set parts k new) ≤ length dump.objects → unreached_in (set parts k new) ≤ unreached_in parts
      → ((o : ℕ) → (IsOwn old o → ⊥) → reached_at ks' o ≡ reached_at ks o)
      → ((given o : ℕ) → IsHadOrPromised (edge_at dump log) ks (IsOfferedIn parts) given o
      → IsHadOrPromised (edge_at dump log) ks' (IsOfferedIn (set parts k new)) given o)
      → ((o : ℕ) → is_handed new o ≡ true → IsHadOrPromised (edge_at dump log) ks' (IsOfferedIn (set parts k new)) (rank s) o)
      → length ks' ≡ length ks → IsSearching dump log (set parts k new) ks' whole s limit' D'
  changed ks' limit' D' growing fit same_whole own stamps room fewer others had handed same_count = record {
    growing = growing;
    each = λ j p at. elim (slice_get-set_cases parts k j old new p there at) [
      | inl both ↦ subst (λ (p : Part). IsPartOf dump (edge_at dump log) ks' whole s (unreached_in (set parts k new)) (IsOfferedIn (set parts k new)) p)
          (sym both.1) (record {
            fit = fit;
            alike = same_whole ∙ (h.each k old there).alike;
            own = own;
            stamps = stamps;
            room = room;
            handed = handed;
          })
      | inr other ↦
          let q = h.each j p other.1 in
          let apart : (o : ℕ) → IsOwn p o → reached_at ks' o ≡ reached_at ks o =
          λ o mine. others o (λ his. other.0 (row-one parts 0 (length dump.objects) j k o p old h.row other.1 there mine his)) in
          record {
            fit = q.fit;
            alike = q.alike;
            own = λ o mine. q.own o mine ∙ ap (seen whole) (sym (apart o mine));
            stamps = λ o mine. omega (arith, q.stamps o mine, ap (λ (k : Reached). k.stamp) (apart o mine));
            room = omega (arith, q.room);
            handed = λ o flag. had (rank s) o (q.handed o flag);
          }
    ];
    row = row-set parts 0 (length dump.objects) k old new h.row there same_first same_length;
    objects = same_count ∙ h.objects;
  }

  -- what is kept stays
  pub unchanged : (limit' : ℕ) (D' : ℕ → ℕ → Type 0) → new.found ≡ old.found → new.count ≡ old.count
      → IsGrowing (standing dump log) (edge_at dump log) ks (IsOfferedIn (set parts k new)) s limit' (λ o i. IsDoneIn (set parts k new) o × D' o i)
      → IsFit dump s new
      → ((given o : ℕ) → IsHadOrPromised (edge_at dump log) ks (IsOfferedIn parts) given o
      → IsHadOrPromised (edge_at dump log) ks (IsOfferedIn (set parts k new)) given o)
      → ((o : ℕ) → is_handed new o ≡ true → IsHadOrPromised (edge_at dump log) ks (IsOfferedIn (set parts k new)) (rank s) o)
      → IsSearching dump log (set parts k new) ks whole s limit' D'
  unchanged limit' D' same_found same_count growing fit had handed =
      let q = h.each k old there in
      let unreached : unreached_in (set parts k new) ≡ unreached_in parts =
      omega (arith, sum-set unreached_of parts k old new there, ap (λ (f : Findings). unreached_count f.list) same_found) in
      changed ks limit' D' growing fit (ap (λ (f : Findings). f.whole) same_found)
      (λ o own. ap (λ (f : Findings). reached_at f.list (o - new.first)) same_found ∙ ap (λ (n : ℕ). reached_at old.found.list (o - n)) same_first
      ∙ q.own o (own_before o own))
      (λ o own. omega (arith, q.stamps o (own_before o own), same_count)) (omega (arith, q.room, same_count, unreached)) (omega (arith, unreached))
      (λ o apart. refl) had handed refl
