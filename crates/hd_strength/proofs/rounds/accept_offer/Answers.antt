-- The offer stands on an edge of the dump (`at_offer`, `backing`), so its target has a part, and `reach` speaks of that edge.
-- `tried` says what reaching the target in that part does to the search; the stamp is the later one of both parts.
use Rattle.std.proofs.Common.{◌≡◌, ◌∙◌, ◌⊎◌, inl, inr, length, length-set, List, Some, None, refl, sym, ap, subst, arith}
use Rattle.std.proofs.lemmas.Bool.{cases_lt}
use Rattle.std.proofs.lemmas.List.{length-map}
use Rattle.std.proofs.lemmas.Option.{slice_get_within}
use Rattle.hd_terms.specs.Paths.{Edge}
use Rattle.hd_terms.specs.Dump.{SlotEntry, object_at}
use Rattle.hd_terms.specs.Edges.{index_of}
use Rattle.hd_strength.specs.declared.part.Part.{Part}
use Rattle.hd_strength.specs.Found.{seen}
use Rattle.hd_strength.specs.Parts.{IsOwn, IsHeldIn, IsReachedOrNot}
use Rattle.hd_strength.proofs.RowLemmas.{edge_to}
use Rattle.hd_strength.proofs.Taking.{backing, at_offer, held, made_room, tried, holder_there, read_there}
use Rattle.hd_strength.proofs.rounds.accept_offer.Goals as goal

pub targets-requires : goal.targets-requires
targets-requires c = (at_offer c.args.edited.graph.now c.args.edited.front.now c.args.search.now.whole c.args.strength c.args.search.now.parts.items
    c.requires.searching c.args.offer c.args.stamp c.requires.made).object

pub get-requires : goal.get-requires
get-requires c =
    let at = at_offer c.args.edited.graph.now c.args.edited.front.now c.args.search.now.whole c.args.strength c.args.search.now.parts.items c.requires.searching
    c.args.offer c.args.stamp c.requires.made in
    let dump = c.args.edited.graph.now in
    omega (
      arith,
      at.within,
      ap length c.targets.ensures.all,
      length-map (object_at dump c.args.offer.source).slots
          (λ (s : SlotEntry). index_of dump.objects s.id),
    )

pub returns-in_default : goal.returns-in_default
returns-in_default c =
    let at = at_offer c.args.edited.graph.now c.args.edited.front.now c.args.search.now.whole c.args.strength c.args.search.now.parts.items c.requires.searching
    c.args.offer c.args.stamp c.requires.made in
    let no : None ≡ Some _ = sym c.in_default.is ∙ c.get.ensures ∙ c.targets.ensures.each c.args.offer.index at.entry at.there ∙ at.index in
    absurd (cc)

pub holder-k-requires : goal.holder-k-requires
holder-k-requires c =
    let dump = c.args.edited.graph.now in
    let log = c.args.edited.front.now in
    let parts = c.args.search.now.parts.items in
    let whole = c.args.search.now.whole in
    let at = at_offer dump log whole c.args.strength parts c.requires.searching c.args.offer c.args.stamp c.requires.made in
    let e = (backing dump log whole c.args.strength parts c.requires.searching c.args.offer c.args.stamp c.requires.made).edge in
    let both : Some c.in-Some.target ≡ Some e.target = sym c.in-Some.is ∙ c.get.ensures ∙ c.targets.ensures.each c.args.offer.index at.entry at.there
    ∙ at.index in
    let target : e.target ≡ c.in-Some.target = cc in
    subst (λ (ps : List Part). IsHeldIn ps c.in-Some.target) (sym c.deref.ensures.value)
    (subst (IsHeldIn parts) target (held dump log whole c.args.strength parts c.requires.searching c.args.offer c.args.stamp c.requires.made))

pub index-requires : goal.index-requires
index-requires c = let h = c.holder-k.ensures in omega (arith, slice_get_within c.deref.result.now c.holder-k.result h.part h.there, c.deref.ensures.len)

pub index_mut-requires : goal.index_mut-requires
index_mut-requires c = let h = c.holder-k.ensures in omega (arith, slice_get_within c.deref.result.now c.holder-k.result h.part h.there, c.deref.ensures.len)

pub reach-requires-clause-own : goal.reach-requires-clause-own
reach-requires-clause-own c =
    (holder_there c.args.search.now.parts.items c.deref.result.now c.holder-k.result c.in-Some.target c.index_mut.result.now c.holder-k.ensures
    c.deref.ensures.value c.index_mut.ensures.value).1

pub reach-requires-clause-room : goal.reach-requires-clause-room
reach-requires-clause-room c =
    let parts = c.args.search.now.parts.items in
    let k = c.holder-k.result in
    let there = (holder_there parts c.deref.result.now k c.in-Some.target c.index_mut.result.now c.holder-k.ensures c.deref.ensures.value
    c.index_mut.ensures.value).0 in
    let q = c.requires.searching.holds.each k c.index_mut.result.now there in
    omega (
      arith,
      q.room,
      q.fit.few,
      ap (λ (p : Part). p.count) (read_there parts k c.index_mut.result.now c.index.result.now there c.index.ensures),
      c.max-stamp.ensures,
      made_room c.args.edited.graph.now c.args.edited.front.now c.args.search.now.whole c.args.strength c.args.search.now.parts.items c.requires.searching
          c.args.offer c.args.stamp c.requires.made,
    )

pub returns : goal.returns
returns c =
    let dump = c.args.edited.graph.now in
    let log = c.args.edited.front.now in
    let parts = c.args.search.now.parts.items in
    let whole = c.args.search.now.whole in
    let s = c.args.strength in
    let x = c.args.offer in
    let at = at_offer dump log whole s parts c.requires.searching x c.args.stamp c.requires.made in
    let e = (backing dump log whole s parts c.requires.searching x c.args.stamp c.requires.made).edge in
    let both : Some c.in-Some.target ≡ Some e.target = sym c.in-Some.is ∙ c.get.ensures ∙ c.targets.ensures.each x.index at.entry at.there ∙ at.index in
    let target : c.in-Some.target ≡ e.target = cc in
    let edge : edge_to x.source at.entry c.in-Some.target ≡ e = ap (edge_to x.source at.entry) target ∙ sym at.is in
    let k = c.holder-k.result in
    let old = c.index_mut.result.now in
    let there = holder_there parts c.deref.result.now k c.in-Some.target old c.holder-k.ensures c.deref.ensures.value c.index_mut.ensures.value in
    let stamp = c.max-stamp.result in
    let new = c.reach.new.part in
    let r = subst (λ (f : Edge). IsReachedOrNot (seen old.found.whole) dump.mode old new s f.source f.slot f.target stamp) edge
    (c.in_ok-reach.ensures at.entry at.there) in
    let count = ap (λ (p : Part). p.count) (read_there parts k old c.index.result.now there.0 c.index.ensures) in
    let one : (stamp ≡ c.args.stamp) ⊎ (stamp ≡ old.count) = elim (cases_lt c.args.stamp old.count) [
      | inl less ↦ inr (omega (arith, c.max-stamp.ensures, count))
      | inr more ↦ inl (omega (arith, c.max-stamp.ensures, count))
    ] in
    let t = tried dump log whole s parts c.requires.searching x c.args.stamp c.requires.made k old new stamp there.0 (subst (IsOwn old) target there.1)
    (omega (arith, c.max-stamp.ensures)) (omega (arith, c.max-stamp.ensures, count)) one r in
    record {
      searching = t.searching;
      reached = t.reached;
      same_offers = t.same_offers;
      as_far = record { whole = refl; count = length-set parts k new; no_more = t.no_more };
    }
