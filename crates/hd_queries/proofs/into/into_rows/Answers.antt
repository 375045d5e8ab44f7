use Rattle.std.proofs.Common.{◌∙◌, List, length, ap, arith}
use Rattle.std.proofs.lemmas.Option.{slice_get_within}
use Rattle.hd_terms.specs.Dump.{object_at}
use Rattle.hd_reverse.specs.declared.referrer.Referrer.{Referrer}
use Rattle.hd_queries.proofs.IntoLemmas.{is_place, length-slots_into, row-more, all-rows}
use Rattle.hd_queries.proofs.into.into_rows.Goals as goal

pub row_at-row-requires-clause-object : goal.row_at-row-requires-clause-object
row_at-row-requires-clause-object c =
    (is_place c.args.edited.graph.now c.args.edited.front.now c.args.o _ c.loop-i.i c.into-referrer.result
    (c.requires.reverse.referrers c.args.o c.requires.object) c.into-referrer.ensures).object

pub row_at-row-requires-clause-index : goal.row_at-row-requires-clause-index
row_at-row-requires-clause-index c =
    let dump = c.args.edited.graph.now in
    let r : Referrer = c.into-referrer.result in
    let place = is_place dump c.args.edited.front.now c.args.o _ c.loop-i.i r
    (c.requires.reverse.referrers c.args.o c.requires.object) c.into-referrer.ensures in
    slice_get_within (object_at dump r.source).slots r.index place.slot.entry place.there

pub loop-i-preserved : goal.loop-i-preserved
loop-i-preserved c =
    let dump = c.args.edited.graph.now in
    let log = c.args.edited.front.now in
    let r : Referrer = c.into-referrer.result in
    let place = is_place dump log c.args.o _ c.loop-i.i r (c.requires.reverse.referrers c.args.o c.requires.object) c.into-referrer.ensures in
    row-more dump log c.args.o c.loop-i.i r c.loop-i.rows.items _ c.row_at-row.result place c.loop-i.invariant c.in_ok-push.ensures.items
    (λ s there. c.row_at-row.ensures c.args.o s there)

pub returns : goal.returns
returns c =
    let dump = c.args.edited.graph.now in
    let log = c.args.edited.front.now in
    let same = ap (λ (rs : List Referrer). length rs) (c.requires.reverse.referrers c.args.o c.requires.object) in
    c.loop-i.invariant ∙ all-rows dump log c.args.o c.loop-i.i
    (omega (arith, c.loop-i-test.false, c.into_len-references.ensures, same, length-slots_into dump log c.args.o))
