-- The entry at an index is the referrer that reverse rows have there (`is_referrer`), so its source has that slot.
-- The mark of that slot is the edge at this index of those that lead to the object.
use Rattle.std.proofs.Common.{◌≡◌, ◌∙◌, ◌<◌, List, Some, length, slice_get, sym, ap, subst, arith, true}
use Rattle.std.proofs.lemmas.Option.{same_Some, slice_get_within}
use Rattle.hd_terms.specs.Dump.{SlotEntry, object_at}
use Rattle.hd_terms.specs.EdgeRows.{edges_into}
use Rattle.hd_edges.specs.Marks.{marked_edge}
use Rattle.hd_reverse.specs.declared.referrer.Referrer.{Referrer}
use Rattle.hd_reverse.specs.Referrers.{referrers_to}
use Rattle.hd_view.specs.Finding.{is_edge}
use Rattle.hd_view.specs.Viewed.{Viewed}
use Rattle.hd_view.proofs.IntoLemmas.{is_referrer, into_there, length_into}
use Rattle.hd_view.proofs.view.ViewEdges.into.Goals as goal

pub into-referrer-requires-clause-index : goal.into-referrer-requires-clause-index
into-referrer-requires-clause-index c =
    let dump = c.self.inside.edited.graph.now in
    let log = c.self.inside.edited.front.now in
    let o_lt : c.args.o < length dump.objects = rw (← c.self.view_is) at c.requires.object in
    let i_lt : c.args.i < length (edges_into dump log c.args.o) = rw (← c.self.view_is) at c.requires.index in
    let same = ap (λ (rs : List Referrer). length rs) (c.self.invariant.reverse.referrers c.args.o o_lt) in
    omega (arith, i_lt, same, length_into dump log c.args.o)

pub edge_mark-mark-requires-clause-object : goal.edge_mark-mark-requires-clause-object
edge_mark-mark-requires-clause-object c =
    let dump = c.self.inside.edited.graph.now in
    let log = c.self.inside.edited.front.now in
    let o_lt : c.args.o < length dump.objects = rw (← c.self.view_is) at c.requires.object in
    let at : slice_get (referrers_to dump c.args.o) c.args.i ≡ Some c.into-referrer.result =
    ap (λ (rs : List Referrer). slice_get rs c.args.i) (sym (c.self.invariant.reverse.referrers c.args.o o_lt)) ∙ c.into-referrer.ensures in
    (is_referrer dump log c.args.o c.args.i c.into-referrer.result at).object

pub edge_mark-mark-requires-clause-index : goal.edge_mark-mark-requires-clause-index
edge_mark-mark-requires-clause-index c =
    let dump = c.self.inside.edited.graph.now in
    let log = c.self.inside.edited.front.now in
    let o_lt : c.args.o < length dump.objects = rw (← c.self.view_is) at c.requires.object in
    let at : slice_get (referrers_to dump c.args.o) c.args.i ≡ Some c.into-referrer.result =
    ap (λ (rs : List Referrer). slice_get rs c.args.i) (sym (c.self.invariant.reverse.referrers c.args.o o_lt)) ∙ c.into-referrer.ensures in
    let known = is_referrer dump log c.args.o c.args.i c.into-referrer.result at in
    slice_get_within (object_at dump c.into-referrer.result.source).slots c.into-referrer.result.index known.entry known.there

pub edge_mark-mark-requires-clause-edge : goal.edge_mark-mark-requires-clause-edge
edge_mark-mark-requires-clause-edge c s here =
    let dump = c.self.inside.edited.graph.now in
    let log = c.self.inside.edited.front.now in
    let o_lt : c.args.o < length dump.objects = rw (← c.self.view_is) at c.requires.object in
    let at : slice_get (referrers_to dump c.args.o) c.args.i ≡ Some c.into-referrer.result =
    ap (λ (rs : List Referrer). slice_get rs c.args.i) (sym (c.self.invariant.reverse.referrers c.args.o o_lt)) ∙ c.into-referrer.ensures in
    let known = is_referrer dump log c.args.o c.args.i c.into-referrer.result at in
    subst (λ (e : SlotEntry). is_edge dump e ≡ true) (same_Some known.entry s (sym known.there ∙ here)) known.edge

pub returns-clause-value : goal.returns-clause-value
returns-clause-value c =
    let dump = c.self.inside.edited.graph.now in
    let log = c.self.inside.edited.front.now in
    let o_lt : c.args.o < length dump.objects = rw (← c.self.view_is) at c.requires.object in
    let at : slice_get (referrers_to dump c.args.o) c.args.i ≡ Some c.into-referrer.result =
    ap (λ (rs : List Referrer). slice_get rs c.args.i) (sym (c.self.invariant.reverse.referrers c.args.o o_lt)) ∙ c.into-referrer.ensures in
    ap (λ (v : Viewed). slice_get (edges_into v.dump v.log c.args.o) c.args.i) (sym c.self.view_is)
    ∙ into_there dump log c.args.o c.args.i c.into-referrer.result (marked_edge c.edge_mark-mark.result) at c.edge_mark-mark.ensures
