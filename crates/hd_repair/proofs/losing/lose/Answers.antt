-- With nothing waiting, what was detached alone lacks a support that it might have (`end_losing`), and spreading gives it.
-- Looks, changes and stamps are those of the two halves together; all lies in the region of the loss.
use Rattle.std.proofs.Common.{◌≡◌, ◌∙◌, ◌≤◌, length, get_or, arith}
use Rattle.std.proofs.lemmas.List.Elements.{Contains-get_or}
use Rattle.hd_repair.specs.Losing.{progress_of, is_gone, is_lifted}
use Rattle.hd_repair.proofs.BeginLemmas.{end_losing}
use Rattle.hd_repair.proofs.DistinctLemmas.{length-different}
use Rattle.hd_repair.proofs.LossLemmas.{outside, stamps_grow, few_looks, all_changes}
use Rattle.hd_repair.proofs.losing.lose.Goals as goal

pub offer_best-requires-clause-objects : goal.offer_best-requires-clause-objects
offer_best-requires-clause-objects g c κs within =
    let done = rw c.in-Done.is at c.in_ok-half.ensures.done in
    let sought = c.in-Done.losing.sought.items in
    rw (c.deref.ensures.value, c.rehang_or_detach.ensures.same)
    (λ k d lt. done.underway.distinct.within (get_or sought k d)
    (is_gone (done.sought.part (get_or sought k d) (Contains-get_or sought k d lt))))

pub offer_best-requires-clause-spreading : goal.offer_best-requires-clause-spreading
offer_best-requires-clause-spreading g c κs within =
    let done = rw c.in-Done.is at c.in_ok-half.ensures.done in
    let r = g.E.Edges.rows c.args.edges.now in
    let w = c.requires.settled in
    rw (c.deref.ensures.value, c.rehang_or_detach.ensures.same)
    (end_losing r.standing w.before c.args.lost.now r.objects c.args.kept.now c.rehang_or_detach.new.kept (progress_of c.in-Done.losing)
    c.in-Done.losing.sought.items w.without w.settled done.underway done.since done.none
    done.sought)

pub spread-requires-clause-targets : goal.spread-requires-clause-targets
spread-requires-clause-targets g c κs within = rw c.offer_best.ensures.same c.in_ok-offers-in-Done.ensures.targets

pub spread-requires-clause-room : goal.spread-requires-clause-room
spread-requires-clause-room g c κs within o =
    let done = rw c.in-Done.is at c.in_ok-half.ensures.done in
    let h = done.underway in
    let n = (g.E.Edges.rows c.args.edges.now).objects in
    let few : length c.in-Done.losing.lifted.items ≤ n =
    length-different n c.in-Done.losing.lifted.items h.distinct.lifted (λ x is. h.distinct.within x (is_lifted is)) in
    omega (arith, h.room o, c.requires.count, c.are_few.ensures)

pub changes_of-requires-clause-within : goal.changes_of-requires-clause-within
changes_of-requires-clause-within g c =
    let done = rw c.in-Done.is at c.in_ok-half.ensures.done in
    let gone = c.in-Done.losing.gone.objects.items in
    let count : length c.spread.new.kept ≡ (g.E.Edges.rows c.args.edges.now).objects =
    c.spread.ensures.count ∙ c.rehang_or_detach.ensures.count ∙ c.requires.count in
    rw count (λ k d lt. done.underway.distinct.within (get_or gone k d) (is_gone (Contains-get_or gone k d lt)))

pub returns-in_ok-changes-in-Done-clause-outside : goal.returns-in_ok-changes-in-Done-clause-outside
returns-in_ok-changes-in-Done-clause-outside g c =
    let done = rw c.in-Done.is at c.in_ok-half.ensures.done in
    let rows = g.E.Edges.rows in
    let same : rows c.offer_best.new.edges ≡ rows c.args.edges.now = c.offer_best.ensures.same ∙ c.rehang_or_detach.ensures.same in
    let settled = rw same at c.in_ok-_rises-in-Done.ensures.settled in
    outside (rows c.args.edges.now).standing c.requires.settled.before c.args.lost.now (rows c.args.edges.now).objects c.args.kept.now
    c.rehang_or_detach.new.kept c.spread.new.kept (progress_of c.in-Done.losing) c.in_ok-_rises-in-Done._rises.items
    c.requires.settled.without c.requires.settled.settled settled done.underway done.since c.in_ok-_rises-in-Done.ensures.changes

pub returns-in_ok-changes-in-Done-clause-looks : goal.returns-in_ok-changes-in-Done-clause-looks
returns-in_ok-changes-in-Done-clause-looks g c =
    let done = rw c.in-Done.is at c.in_ok-half.ensures.done in
    let rows = g.E.Edges.rows in
    let r = rows c.args.edges.now in
    let same : rows c.offer_best.new.edges ≡ r = c.offer_best.ensures.same ∙ c.rehang_or_detach.ensures.same in
    let settled = rw same at c.in_ok-_rises-in-Done.ensures.settled in
    let first = done.few in
    let second = rw (c.rehang_or_detach.ensures.same, c.deref.ensures.value) at c.in_ok-offers-in-Done.ensures.looks in
    let third = rw same at c.in_ok-_rises-in-Done.ensures.looks in
    few_looks r.standing c.requires.settled.before c.args.lost.now r.objects c.args.kept.now c.rehang_or_detach.new.kept c.spread.new.kept
    (progress_of c.in-Done.losing) c.in_ok-_rises-in-Done._rises.items
    c.requires.settled.without c.requires.settled.settled settled done.underway done.since
    c.in_ok-_rises-in-Done.ensures.changes r _ _ _ _ c.in-Done.losing.sought.items done.sought first second third

pub returns-in_ok-changes-in-Done-clause-stamps : goal.returns-in_ok-changes-in-Done-clause-stamps
returns-in_ok-changes-in-Done-clause-stamps g c =
    let done = rw c.in-Done.is at c.in_ok-half.ensures.done in
    let rows = g.E.Edges.rows in
    let r = rows c.args.edges.now in
    let same : rows c.offer_best.new.edges ≡ r = c.offer_best.ensures.same ∙ c.rehang_or_detach.ensures.same in
    let settled = rw same at c.in_ok-_rises-in-Done.ensures.settled in
    stamps_grow r.standing c.requires.settled.before c.args.lost.now r.objects c.args.kept.now c.rehang_or_detach.new.kept c.spread.new.kept
    (progress_of c.in-Done.losing) c.in_ok-_rises-in-Done._rises.items
    c.requires.settled.without c.requires.settled.settled settled done.underway done.since c.in_ok-_rises-in-Done.ensures.changes

pub returns-in_ok-changes-in-Done-clause-changes : goal.returns-in_ok-changes-in-Done-clause-changes
returns-in_ok-changes-in-Done-clause-changes g c =
    let done = rw c.in-Done.is at c.in_ok-half.ensures.done in
    let rows = g.E.Edges.rows in
    let r = rows c.args.edges.now in
    let same : rows c.offer_best.new.edges ≡ r = c.offer_best.ensures.same ∙ c.rehang_or_detach.ensures.same in
    let settled = rw same at c.in_ok-_rises-in-Done.ensures.settled in
    all_changes r.standing c.requires.settled.before c.args.lost.now r.objects c.args.kept.now c.rehang_or_detach.new.kept c.spread.new.kept
    (progress_of c.in-Done.losing) c.in_ok-_rises-in-Done._rises.items
    c.requires.settled.without c.requires.settled.settled settled done.underway done.since
    c.in_ok-_rises-in-Done.ensures.changes c.in_ok-changes-in-Done.changes.items
    (c.in_ok-changes-in-Done.ensures c.args.kept.now done.since.before done.underway.distinct.gone)
