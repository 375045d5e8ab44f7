-- First all that waits is gone (`falls`), then round by round what hangs on it (`falls_on`). In the end nothing that is gone
-- supports anything, so all else keeps its support (`underway_fallen`).
use Rattle.std.proofs.Common.{◌≡◌, ◌∙◌, length, drop, refl, arith}
use Rattle.hd_repair.specs.Losing.{progress_of, targets_of, waits}
use Rattle.hd_repair.proofs.FallLemmas.{
  each_within,
  falls,
  falls_on,
  found_within,
  all_within,
  few_gone,
  in_drop,
  rest_of,
  looks_on,
  sum_first,
  since_fallen,
  sought_fallen,
  underway_fallen,
}
use Rattle.hd_repair.proofs.falling.fall.Goals as goal

pub detach_waiting-requires : goal.detach_waiting-requires
detach_waiting-requires g c = rw c.requires.underway.count
    (each_within c.args.losing.now.waiting.items (g.E.Edges.rows c.args.edges.now).objects (λ x is. c.requires.underway.distinct.within x (waits is)))

pub loop-next-init : goal.loop-next-init
loop-next-init g c =
    let r = g.E.Edges.rows c.args.edges.now in
    let f = falls r c.are_rows.ensures (progress_of c.args.losing.now) c.args.kept.now c.requires.underway c.args.losing.now.gone refl
    c.detach_waiting.new.kept c.detach_waiting.new.losing.gone c.in_ok-detach_waiting.ensures.ok in
    let at : c.len-first.result ≡ length c.args.losing.now.gone.objects.items = omega (arith, c.len-first.ensures) in
    record {
      same = refl;
      count = c.detach_waiting.ensures.count;
      falling = rw at f;
      looks = rw at (omega (
        arith,
        sum_first (targets_of r) c.args.losing.now.gone.objects.items
            c.detach_waiting.new.losing.gone.objects.items f.lost.more f.lost.objects,
      ));
      none = c.in_ok-detach_waiting.ensures.none;
      rehung = c.detach_waiting.ensures.rehung;
      lifted = c.detach_waiting.ensures.lifted;
      sought = c.detach_waiting.ensures.sought;
    }

pub find_below-requires-clause-objects : goal.find_below-requires-clause-objects
find_below-requires-clause-objects g c κs within =
    let r = g.E.Edges.rows c.args.edges.now in
    let gone = c.loop-next.losing.gone.objects.items in
    rw (c.loop-next.invariant.same, rest_of c.deref.result.now c.loop-next.next, c.deref.ensures.value)
    (each_within (drop c.loop-next.next gone) r.objects (λ x is.
    all_within r c.are_rows.ensures (progress_of c.args.losing.now) c.args.kept.now c.requires.underway c.args.losing.now.gone refl
    c.loop-next.kept c.loop-next.losing.gone c.loop-next.invariant.falling.lost x (in_drop gone c.loop-next.next x is)))

pub detach_each-requires : goal.detach_each-requires
detach_each-requires g c =
    let r = g.E.Edges.rows c.args.edges.now in
    let below = rw (c.loop-next.invariant.same, rest_of c.deref.result.now c.loop-next.next, c.deref.ensures.value) at c.in_ok-find_below.ensures.below in
    rw c.deref-in-loop-next.ensures.value (each_within c.find_below.new.below.items (length c.loop-next.kept)
    (found_within r c.loop-next.kept _ c.find_below.new.below.items below))

pub loop-next-smaller : goal.loop-next-smaller
loop-next-smaller g c =
    let few = few_gone (g.E.Edges.rows c.args.edges.now) c.are_rows.ensures (progress_of c.args.losing.now) c.args.kept.now
    c.requires.underway c.args.losing.now.gone refl c.loop-next.kept c.loop-next.losing.gone c.loop-next.invariant.falling.lost in
    omega (arith, few, c.loop-next-test.true, c.len.ensures, c.len-end.ensures)

pub loop-next-preserved : goal.loop-next-preserved
loop-next-preserved g c =
    let rows = g.E.Edges.rows in
    let r = rows c.args.edges.now in
    let i = c.loop-next.invariant in
    let gone = c.loop-next.losing.gone.objects.items in
    let below = rw (i.same, rest_of c.deref.result.now c.loop-next.next, c.deref.ensures.value) at c.in_ok-find_below.ensures.below in
    let looks = rw (i.same, rest_of c.deref.result.now c.loop-next.next, c.deref.ensures.value) at c.in_ok-find_below.ensures.looks in
    let d = rw c.deref-in-loop-next.ensures.value at c.in_ok-detach_each.ensures.ok in
    let at : c.len-end.result ≡ length gone = omega (arith, c.len-end.ensures) in
    record {
      same = c.find_below.ensures.same ∙ i.same;
      count = c.detach_each.ensures.count ∙ i.count;
      falling = rw at (falls_on r c.are_rows.ensures (progress_of c.args.losing.now) c.args.kept.now c.requires.underway
          c.args.losing.now.gone refl c.loop-next.kept c.detach_each.new.kept c.loop-next.losing.gone c.detach_each.new.gone c.loop-next.next
          c.find_below.new.below.items i.falling below d);
      looks = rw (at, sum_first (targets_of r) gone c.detach_each.new.gone.objects.items d.lost.more d.lost.objects)
          (looks_on (targets_of r) gone c.loop-next.next _ _ _ _ i.looks looks);
      none = i.none;
      rehung = i.rehung;
      lifted = i.lifted;
      sought = i.sought;
    }

pub returns-clause-underway : goal.returns-clause-underway
returns-clause-underway g c =
    let i = c.loop-next.invariant in
    rw (i.none, i.rehung, i.lifted) (underway_fallen (g.E.Edges.rows c.args.edges.now) c.are_rows.ensures
    (progress_of c.args.losing.now) c.args.kept.now c.requires.underway c.args.losing.now.gone refl c.loop-next.kept c.loop-next.losing.gone
    c.loop-next.next i.falling (omega (arith, c.loop-next-test.false, c.len.ensures)) refl)

pub returns-clause-since : goal.returns-clause-since
returns-clause-since g c ks0 lost s =
    let i = c.loop-next.invariant in
    rw (i.none, i.rehung, i.lifted) (since_fallen (g.E.Edges.rows c.args.edges.now) c.are_rows.ensures
    (progress_of c.args.losing.now) c.args.kept.now c.requires.underway c.args.losing.now.gone refl c.loop-next.kept c.loop-next.losing.gone
    c.loop-next.next i.falling (omega (arith, c.loop-next-test.false, c.len.ensures)) refl ks0 lost s)

pub returns-clause-sought : goal.returns-clause-sought
returns-clause-sought g c =
    let i = c.loop-next.invariant in
    let more = c.in_ok-extend_from_slice.ensures.items in
    let at : c.len-first.result ≡ length c.args.losing.now.gone.objects.items = omega (arith, c.len-first.ensures) in
    sought_fallen (g.E.Edges.rows c.args.edges.now) c.are_rows.ensures
    (progress_of c.args.losing.now) c.args.kept.now c.requires.underway c.args.losing.now.gone refl c.loop-next.kept c.loop-next.losing.gone
    c.loop-next.next i.falling (omega (arith, c.loop-next-test.false, c.len.ensures)) refl c.args.losing.now.sought.items _ c.requires.sought
    (rw (rest_of c.deref-2.result.now c.len-first.result, c.deref-2.ensures.value, i.sought, at) at more)
