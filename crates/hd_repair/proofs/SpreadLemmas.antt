use Rattle.std.proofs.Common.{◌≡◌, ◌≢◌, ◌∙◌, ℕ, ◌+◌, ◌-◌, ◌*◌, ◌^◌, ◌<◌, ◌≤◌, inl, inr, List, [], ◌∷◌, ◌++◌, append_assoc, map, Contains}
use Rattle.std.proofs.Common.{length, sum_by, refl, sym, ap, subst, arith, true}
use Rattle.std.proofs.lemmas.Bool.{cases_eq, cases_lt}
use Rattle.std.proofs.lemmas.List.{append-nil, map-append, length_push, get_or-map, length-map, get_or_past}
use Rattle.std.proofs.lemmas.List.Elements.{Contains-push, Contains-push_cases, Contains-append_left}
use Rattle.std.proofs.lemmas.List.Sums.{sum_by-append, sum_by-le}
use Rattle.hd_terms.specs.declared.Slot.{Slot}
use Rattle.hd_terms.specs.declared.Strength.{Strength}
use Rattle.hd_terms.specs.declared.Support.{Support}
use Rattle.hd_terms.specs.declared.Support.TheVariants as supports
use Rattle.hd_terms.specs.Ranks.{rank, given_by, IsPassedOn}
use Rattle.hd_terms.specs.Paths.{Standing}
use Rattle.hd_terms.specs.Settled.{Reached, Settled, reached_at, unreached}
use Rattle.hd_terms.proofs.Lower.{NoneTwice-push}
use Rattle.hd_terms.proofs.RankLemmas.{least-positive, weaker-le_left}
use Rattle.hd_terms.specs.EdgeRows.{Rows, AreRows}
use Rattle.hd_terms.specs.Regions.{StrengthChange, changed_objects}
use Rattle.hd_repair.specs.declared.offers.Offer.{Offer}
use Rattle.hd_repair.specs.declared.spreading.Round.{Round}
use Rattle.hd_repair.specs.Offering.{IsMost, TakesOne}
use Rattle.hd_repair.specs.Spreading.{
  AreRises,
  EdgeFrom,
  GoesOn,
  IsAccepted,
  IsBacked,
  IsDone,
  IsInRound,
  IsRepairing,
  IsRise,
  IsSmall,
  IsSpreading,
  NoEdge,
  NoRoot,
  OffersFrom,
  deficit_of,
  offered_strength,
  rank_at,
}
use Rattle.hd_repair.proofs.SettledLemmas.{take, raises, settled_in_the_end}

no_front : (o : ℕ) → Contains [] o → ⊥
no_front o (k, lt, is) = omega (arith, lt)

-- more offers do what fewer did
pub done_more : (ks : List Reached) (old new : List Offer) → ((x : Offer) → Contains old x → Contains new x) → (o n : ℕ) → IsDone ks old o n → IsDone ks new o n
done_more ks old new part o n (inl le) = inl le
done_more ks old new part o n (inr x) = inr (record { offer = x.offer; made = part x.offer x.made; to_object = x.to_object; enough = x.enough })

pub Contains-map : {X Y : Type 0} (f : X → Y) (xs : List X) (x : X) → Contains xs x → Contains (map f xs) (f x)
Contains-map f xs x (k, lt, is) = (k, simp length-map lt, get_or-map f xs k x (f x) lt ∙ ap f is)

-- a round begins where the most that is offered is known
pub round_begins : (r : Rows) (ks0 ks : List Reached) (s : Strength) (round : Round) (offers : List Offer) (changes : List StrengthChange)
    → IsRepairing r ks0 ks offers changes → IsMost offers s → round.offers ≡ offers → round.changes.items ≡ changes → round.front.items ≡ []
    → IsInRound r ks0 ks s round
round_begins r ks0 ks s round offers changes h m same same_changes none =
    let floor : (o : ℕ) → Contains (changed_objects changes) o → rank s ≤ rank_at ks o = λ o c.
    let k : rank m.offer.strength ≡ rank s = ap rank m.strength in omega (arith, h.below m.offer m.made o c) in
    record {
      spreading = record {
        supported = h.spreading.supported;
        in_order = h.spreading.in_order;
        backed = λ x c. h.spreading.backed x (rw same at c);
        by_roots = λ a stands. rw same (h.spreading.by_roots a stands);
        by_edges = λ e stands. elim (h.spreading.by_edges e stands) [
          | inl nothing ↦ absurd nothing
          | inr done ↦ inr (rw same done)
        ];
      };
      count = h.count;
      targets = λ x c. h.targets x (rw same at c);
      at_most = λ x c. m.most x (rw same at c);
      floor = λ o c. floor o (rw same_changes at c);
      front = λ o c. absurd (no_front o (rw none at c));
      changed = rw same_changes h.changed;
      deficit = rw same_changes h.deficit;
    }

-- an offer is taken out of those of a round, and it is declined or accepted
module _ (r : Rows) (ks0 ks ks' : List Reached) (s : Strength) (before old new : Round) (f : Offer) (h : IsInRound r ks0 ks s before)
    (t : TakesOne before.offers old.offers s f) (same_changes : old.changes ≡ before.changes) (same_front : old.front ≡ before.front) where
  most : (x : Offer) → Contains before.offers x → rank x.strength ≤ rank f.strength
  most x c = let k : rank f.strength ≡ rank s = ap rank t.strength in omega (arith, h.at_most x c)

  module _ (no_more : rank f.strength ≤ rank_at ks f.target) where
    still_done : (o n : ℕ) → IsDone ks before.offers o n → IsDone ks old.offers o n
    still_done o n (inl le) = inl le
    still_done o n (inr x) = elim (t.left x.offer x.made) [
      | inl same ↦ inl (let there : f.target ≡ o = rw (← same) x.to_object in let e : n ≤ rank f.strength =
          rw (← same) x.enough in let l : rank_at ks f.target ≡ rank_at ks o = ap (rank_at ks) there in omega arith)
      | inr still ↦ inr (record { offer = x.offer; made = still; to_object = x.to_object; enough = x.enough })
    ]

    pub decline : IsInRound r ks0 ks s old
    decline = record {
      spreading = record {
        supported = h.spreading.supported;
        in_order = h.spreading.in_order;
        backed = λ x c. h.spreading.backed x (t.within x c);
        by_roots = λ a stands. elim (h.spreading.by_roots a stands) [ inl none ↦ absurd none | inr done ↦ inr (still_done a.target 5 done) ];
        by_edges = λ e stands. elim (h.spreading.by_edges e stands) [
          | inl to_do ↦ inl (rw same_front to_do)
          | inr done ↦ inr (λ p. still_done e.target (rank (offered_strength ks e)) (done p))
        ];
      };
      count = h.count;
      targets = λ x c. h.targets x (t.within x c);
      at_most = λ x c. h.at_most x (t.within x c);
      floor = λ o c. h.floor o (rw same_changes at c);
      front = λ o c. h.front o (rw same_front at c);
      changed = rw same_changes h.changed;
      deficit = rw same_changes h.deficit;
    }

  module _ (d : IsAccepted ks ks' old new f) where
    abbrev given : Reached
    given = record { strength = f.strength; support = f.support; stamp = d.stamp }

    up : (o : ℕ) → rank_at ks o ≤ rank_at ks' o
    up = raises r.standing ks ks' f.target given d.more d.here d.others

    here_rank : rank_at ks' f.target ≡ rank s
    here_rank = ap (λ (k : Reached). rank k.strength) d.here ∙ ap rank t.strength

    fresh : Contains (changed_objects before.changes.items) f.target → ⊥
    fresh c = let k : rank f.strength ≡ rank s = ap rank t.strength in omega (arith, h.floor f.target c, d.more)

    abbrev change : StrengthChange
    change = record { object = f.target; before = (reached_at ks f.target).strength; after = f.strength }

    changes : new.changes.items ≡ before.changes.items ++ change ∷ []
    changes = d.change ∙ ap (λ (v : _). v.items ++ change ∷ []) same_changes

    front : new.front.items ≡ before.front.items ++ f.target ∷ []
    front = d.front ∙ ap (λ (v : _). v.items ++ f.target ∷ []) same_front

    objects : changed_objects new.changes.items ≡ changed_objects before.changes.items ++ f.target ∷ []
    objects = ap changed_objects changes ∙ map-append (λ (c : StrengthChange). c.object) before.changes.items (change ∷ [])

    each : (c : StrengthChange) → Contains new.changes.items c → IsRise ks0 ks' c
    each c is = elim (Contains-push_cases before.changes.items change c (rw changes at is)) [
      | inl old_one ↦
          let other : c.object ≢ f.target = λ same. fresh (rw (← same) (Contains-map (λ (c : StrengthChange). c.object) before.changes.items c old_one)) in
          record {
            before = (h.changed.each c old_one).before;
            after = rw (d.others c.object other) (h.changed.each c old_one).after;
            rises = (h.changed.each c old_one).rises;
          }
      | inr same ↦ rw (← same) (record {
        before = ap (λ (k : Reached). k.strength) (sym (h.changed.others f.target fresh));
        after = ap (λ (k : Reached). k.strength) d.here;
        rises = d.more;
      })
    ]

    longer : length new.changes.items ≡ length before.changes.items + 1
    longer = ap length changes ∙ length_push before.changes.items change

    changed : AreRises ks0 ks' new.changes.items
    changed = record {
      each = each;
      once = rw objects (NoneTwice-push f.target (changed_objects before.changes.items) h.changed.once fresh);
      others = λ o none.
          let none_before : Contains (changed_objects before.changes.items) o → ⊥ =
          λ c. none (rw objects (Contains-append_left (changed_objects before.changes.items) (f.target ∷ []) o c)) in
          let other : o ≢ f.target = λ same. none (rw (objects, same) (Contains-push (changed_objects before.changes.items) f.target)) in
          d.others o other ∙ h.changed.others o none_before;
      stamps = λ m small o. elim (cases_eq o f.target) [
        | inl same ↦ rw (same, d.here) (omega (arith, longer, d.bounded (m + length before.changes.items) (h.changed.stamps m small)))
        | inr other ↦ rw (d.others o other) (omega (arith, longer, h.changed.stamps m small o))
      ];
    }

    pub accept : IsInRound r ks0 ks' s new
    accept = record {
      spreading = rw d.offers (take r.standing ks ks' before.offers old.offers f d.stamp d.more d.here d.others (EdgeFrom before.front.items)
          (EdgeFrom new.front.items) h.spreading t.made t.left t.within d.later
          (λ e c. rw front (Contains-append_left before.front.items (f.target ∷ []) e.source c))
          (λ e from. rw (front, from) (Contains-push before.front.items f.target)));
      count = d.count ∙ h.count;
      targets = λ x c. h.targets x (t.within x (rw d.offers at c));
      at_most = λ x c. h.at_most x (t.within x (rw d.offers at c));
      floor = λ o c. elim (Contains-push_cases (changed_objects before.changes.items) f.target o (rw objects at c)) [
        | inl was ↦ omega (arith, h.floor o was, up o)
        | inr same ↦ rw (← same) (omega (arith, here_rank))
      ];
      front = λ o c. elim (cases_eq o f.target) [
        | inl same ↦ rw same (h.targets f t.made, here_rank)
        | inr other ↦ elim (Contains-push_cases before.front.items f.target o (rw front at c)) [
          | inl was ↦ ((h.front o was).0, ap (λ (k : Reached). rank k.strength) (d.others o other) ∙ (h.front o was).1)
          | inr same ↦ absurd (other (sym same))
        ]
      ];
      changed = changed;
      deficit = omega (arith, longer, d.deficit, h.deficit);
    }

    pub goes_on_more : (ks00 : List Reached) (first : Round) → GoesOn ks00 ks first before → GoesOn ks00 ks' first new
    goes_on_more ks00 first g = record {
      more = g.more ++ f.target ∷ [];
      changes = objects ∙ ap (λ (xs : List ℕ). xs ++ f.target ∷ []) g.changes
          ∙ append_assoc (changed_objects first.changes.items) g.more (f.target ∷ []);
      front = front ∙ ap (λ (xs : List ℕ). xs ++ f.target ∷ []) g.front ∙ append_assoc first.front.items g.more (f.target ∷ []);
      deficit = omega (arith, g.deficit, d.deficit, length_push g.more f.target);
    }

-- a round that has just begun, and one where nothing was accepted
pub none_goes_on : (ks : List Reached) (round : Round) → GoesOn ks ks round round
none_goes_on ks round = record {
  more = [];
  changes = sym (append-nil (changed_objects round.changes.items));
  front = sym (append-nil round.front.items);
  deficit = omega arith;
}

pub goes_on_same : (ks0 ks : List Reached) (first before old : Round) → old.changes ≡ before.changes → old.front ≡ before.front → GoesOn ks0 ks first before
    → GoesOn ks0 ks first old
goes_on_same ks0 ks first before old same_changes same_front g = record {
  more = g.more;
  changes = rw same_changes g.changes;
  front = rw same_front g.front;
  deficit = g.deficit;
}

-- a round ends: what it gave is passed on
module _ (r : Rows) (laws : AreRows r) (ks0 ks : List Reached) (s : Strength) (round : Round) (h : IsInRound r ks0 ks s round) where
  front_rank : (o : ℕ) → Contains round.front.items o → rank_at ks o ≡ rank s
  front_rank o c = (h.front o c).1

  pub round_passed : (offers : List Offer) → IsPassedOn r.standing.mode s → OffersFrom r ks round.front.items round.offers offers
      → IsRepairing r ks0 ks offers round.changes.items
  round_passed offers passes a = record {
    spreading = record {
      supported = h.spreading.supported;
      in_order = h.spreading.in_order;
      backed = λ x c. elim (a.made x c) [
        | inl before ↦ h.spreading.backed x before
        | inr (o, at, from) ↦ rw from.support (
          from.edge,
          record {
            stands = from.stands;
            from_source = refl;
            from_slot = refl;
            to_object = from.to_object;
            passes_on = rw from.from_source (omega (arith, passes, front_rank o at));
            enough = rw (ap rank from.strength) (omega arith);
          },
        )
      ];
      by_roots = λ x stands. elim (h.spreading.by_roots x stands) [
        | inl none ↦ absurd none
        | inr done ↦ inr (done_more ks round.offers offers a.kept x.target 5 done)
      ];
      by_edges = λ e stands. elim (h.spreading.by_edges e stands) [
        | inl to_do ↦ inr (λ p. a.done e.source (record { edge = e; stands = true }) to_do (laws.out_all e stands) refl)
        | inr done ↦ inr (λ p. done_more ks round.offers offers a.kept e.target (rank (offered_strength ks e)) (done p))
      ];
    };
    count = h.count;
    targets = λ x c. elim (a.made x c) [
      | inl before ↦ h.targets x before
      | inr (o, at, from) ↦ rw (← from.to_object) (laws.out_target from.edge.source (record { edge = from.edge; stands = true })
          (laws.out_all from.edge from.stands))
    ];
    below = λ x c o is. elim (a.made x c) [
      | inl before ↦ omega (arith, h.at_most x before, h.floor o is)
      | inr (source, at, from) ↦
          let k : rank x.strength ≡ rank (offered_strength ks from.edge) = ap rank from.strength in
          let l : rank_at ks from.edge.source ≡ rank_at ks source = ap (rank_at ks) from.from_source in
          omega (arith, weaker-le_left (reached_at ks from.edge.source).strength (given_by from.edge.kind), front_rank source at, h.floor o is)
    ];
    changed = h.changed;
    deficit = h.deficit;
  }

  pub round_ended : (IsPassedOn r.standing.mode s → ⊥) → IsRepairing r ks0 ks round.offers round.changes.items
  round_ended low = record {
    spreading = record {
      supported = h.spreading.supported;
      in_order = h.spreading.in_order;
      backed = h.spreading.backed;
      by_roots = h.spreading.by_roots;
      by_edges = λ e stands. elim (h.spreading.by_edges e stands) [
        | inl to_do ↦ inr (λ p. absurd (low (omega (arith, p, front_rank e.source to_do))))
        | inr done ↦ inr done
      ];
    };
    count = h.count;
    targets = h.targets;
    below = λ x c o is. omega (arith, h.at_most x c, h.floor o is);
    changed = h.changed;
    deficit = h.deficit;
  }

-- the end
pub settled_when_empty : (g : Standing) (ks : List Reached) (offers : List Offer) → length offers ≡ 0 → IsSpreading g ks offers NoRoot NoEdge → Settled g ks
settled_when_empty g ks [] none h = settled_in_the_end g ks h
settled_when_empty g ks (x ∷ offers) none h = absurd (omega arith)

-- the beginning
nothing_changed : (ks : List Reached) → AreRises ks ks []
nothing_changed ks = record {
  each = λ d (k, lt, is). absurd (omega arith);
  once = tt;
  others = λ o none. refl;
  stamps = λ m small o. omega (arith, small o);
}

pub begins : (r : Rows) (ks : List Reached) (offers : List Offer) → IsSpreading r.standing ks offers NoRoot NoEdge → length ks ≡ r.objects
    → ((x : Offer) → Contains offers x → x.target < r.objects) → IsRepairing r ks ks offers []
begins r ks offers h count targets = record {
  spreading = h;
  count = count;
  targets = targets;
  below = λ x c o (k, lt, is). absurd (omega arith);
  changed = nothing_changed ks;
  deficit = omega arith;
}

deficit-le : (ks : List Reached) → deficit_of ks ≤ length ks * 5
deficit-le ks = sum_by-le (λ k. 5 - rank k.strength) 5 ks (λ k d lt. omega arith)

-- a stamp is small
pub stamp_room : (r : Rows) (ks0 ks : List Reached) (s : Strength) (round : Round) → IsInRound r ks0 ks s round → IsSmall ks0
    → (o : ℕ) → (reached_at ks o).stamp < 2 ^ 48 - 1
stamp_room r ks0 ks s round h small o = omega (arith, h.changed.stamps (2 ^ 47 + 2 ^ 32) small.room o, h.deficit, deficit-le ks0, small.few)

-- the source of an offer is an object
pub offer_within : (r : Rows) (ks0 ks : List Reached) (s : Strength) (round : Round) → IsInRound r ks0 ks s round → (f : Offer) → Contains round.offers f
    → (source : ℕ) (slot : Slot) → f.support ≡ supports.Edge source slot → source < length ks
offer_within r ks0 ks s round h f c source slot is =
    let b = subst (λ (by : Support). IsBacked r.standing ks f.target f.strength by) is (h.spreading.backed f c) in
    elim (cases_lt source (length ks)) [
      | inl lt ↦ lt
      | inr past ↦
          let z : rank_at ks source ≡ 0 = ap (λ (k : Reached). rank k.strength) (get_or_past ks source unreached past) in
          absurd (omega (arith, b.1.passes_on, least-positive r.standing.mode))
    ]

-- the looks of a round
pub looks_round : (f : ℕ → ℕ) (changes changes' : List StrengthChange) (more front : List ℕ) (base before after : ℕ)
    → changed_objects changes' ≡ changed_objects changes ++ more → front ≡ more → before ≤ base + sum_by f (changed_objects changes)
    → after ≤ before + sum_by f front → after ≤ base + sum_by f (changed_objects changes')
looks_round f changes changes' more front base before after told is h step =
    omega (arith, h, step, ap (sum_by f) told, ap (sum_by f) is, sum_by-append f (changed_objects changes) more)
