-- One lifted object after another, and one of its edges after another: what an edge supports too early is lifted above it.
-- What is late are the objects yet to come, so with none left sources come before what they support.
use Rattle.std.proofs.Common.{◌≡◌, ◌∙◌, ◌<◌, ◌≤◌, List, Contains, length, take, get_or, sum_by, ap, subst, sym, refl, arith}
use Rattle.std.proofs.lemmas.List.{take_all}
use Rattle.std.proofs.lemmas.List.Sums.{sum_by_more}
use Rattle.std.proofs.lemmas.List.Elements.{Contains-get_or}
use Rattle.hd_terms.specs.EdgeRows.{AreRows, MarkedEdge, Rows}
use Rattle.hd_edges.specs.Marks.{marked_edge}
use Rattle.hd_repair.specs.Losing.{AreEarly, targets_of}
use Rattle.hd_repair.proofs.DistinctLemmas.{length-different}
use Rattle.hd_repair.proofs.OutLemmas.{Contains-slice_get, take_one_more}
use Rattle.hd_repair.proofs.MarkLemmas.{any_default}
use Rattle.hd_repair.proofs.LiftLemmas.{none_lifted, lift_step, lift_next, lift_end}
use Rattle.hd_repair.proofs.lifting.lift_below.Goals as goal

pub follow-init : goal.follow-init
follow-init g c = record {
  same = refl;
  looks = omega arith;
  count = refl;
  next = c.requires.first;
  lifting = c.requires.lifting;
  changed = none_lifted c.args.kept.now c.args.lifted.now.items;
}

pub out_len-i-end-requires : goal.out_len-i-end-requires
out_len-i-end-requires g c =
    let lifted = c.follow.lifted.items in
    let lt : c.follow.next < length lifted = omega (arith, c.follow-test.true, c.len.ensures, c.follow.lifted.ok) in
    let here : c.index-source.result.now ≡ get_or lifted c.follow.next 0 =
    c.index-source.ensures ∙ any_default lifted c.follow.next c.index-source.result.now 0 lt in
    rw (c.follow.invariant.same, here) (c.follow.invariant.lifting.within (get_or lifted c.follow.next 0) (Contains-get_or lifted c.follow.next 0 lt))

pub out-edge-requires-clause-object : goal.out-edge-requires-clause-object
out-edge-requires-clause-object g c = rw (c.out.invariant.same, ← c.out.invariant.source)
    (c.out.invariant.lifting.within (get_or c.out.lifted.items c.follow.next 0) (Contains-get_or c.out.lifted.items c.follow.next 0 c.out.invariant.next))

pub lift_if_late-requires-clause-source : goal.lift_if_late-requires-clause-source
lift_if_late-requires-clause-source g c = rw (c.out.invariant.lifting.count, ← c.out.invariant.source)
    (c.out.invariant.lifting.within (get_or c.out.lifted.items c.follow.next 0) (Contains-get_or c.out.lifted.items c.follow.next 0 c.out.invariant.next))

pub lift_if_late-requires-clause-target : goal.lift_if_late-requires-clause-target
lift_if_late-requires-clause-target g c =
    let rows = g.E.Edges.rows in
    let r = rows c.args.edges.now in
    let same : rows c.out.edges ≡ r = c.out.invariant.same in
    let laws : AreRows r = subst AreRows same (g.met.E.Edges.lawful c.out.edges) in
    let source = c.index-source.result.now in
    let lt : c.out.i < length (r.out source) = omega (arith, ap (λ (r : Rows). length (r.out source)) c.follow.invariant.same) in
    let value = rw same at c.out-edge.ensures.value in
    rw c.out.invariant.lifting.count (laws.out_target source (marked_edge c.out-edge.result)
    (Contains-slice_get (r.out source) c.out.i (marked_edge c.out-edge.result) lt value))

pub lift_if_late-requires-clause-room : goal.lift_if_late-requires-clause-room
lift_if_late-requires-clause-room g c =
    let h = c.out.invariant.lifting in
    let few : length c.out.lifted.items ≤ (g.E.Edges.rows c.args.edges.now).objects =
    length-different (g.E.Edges.rows c.args.edges.now).objects c.out.lifted.items h.once h.within in
    omega (arith, h.room c.index-source.result.now, c.are_few.ensures, h.count, c.out.invariant.count)

pub out-preserved : goal.out-preserved
out-preserved g c =
    let rows = g.E.Edges.rows in
    let r = rows c.args.edges.now in
    let same : rows c.out.edges ≡ r = c.out.invariant.same in
    let laws : AreRows r = subst AreRows same (g.met.E.Edges.lawful c.out.edges) in
    let source = c.index-source.result.now in
    let next = c.follow.next in
    let i = c.out.i in
    let y = (marked_edge c.out-edge.result) in
    let lifted = c.out.lifted.items in
    let lifted' = c.lift_if_late.new.lifted.items in
    let lt : i < length (r.out source) = omega (arith, ap (λ (r : Rows). length (r.out source)) c.follow.invariant.same) in
    let value = rw same at c.out-edge.ensures.value in
    let target = laws.out_target source y (Contains-slice_get (r.out source) i y lt value) in
    let top : Contains lifted source = rw (← c.out.invariant.source) (Contains-get_or lifted next 0 c.out.invariant.next) in
    let le : next ≤ length lifted = omega (arith, c.out.invariant.next) in
    let s = lift_step r c.args.kept.now c.out.kept c.lift_if_late.new.kept c.args.lifted.now.items lifted lifted' next source (take i (r.out source)) y
    c.out.invariant.lifting c.out.invariant.changed c.out.invariant.early le top target c.in_ok-lift_if_late.ensures.ok in
    let front : take next lifted' ≡ take next lifted = s.front next le in
    record {
      same = c.out-edge.ensures.same ∙ same;
      looks = omega (arith, c.out-edge.ensures.counted, c.out.invariant.looks, ap (sum_by (targets_of r)) front);
      count = c.lift_if_late.ensures.count ∙ c.out.invariant.count;
      next = omega (arith, s.longer, c.out.invariant.next);
      source = s.place next 0 c.out.invariant.next ∙ c.out.invariant.source;
      lifting = s.lifting;
      changed = s.changed;
      early = subst (λ (ys : List MarkedEdge). AreEarly c.lift_if_late.new.kept source ys) (sym (take_one_more (r.out source) i y lt value)) s.early;
    }

pub follow-smaller : goal.follow-smaller
follow-smaller g c =
    let h = c.out.invariant.lifting in
    let few : length c.out.lifted.items ≤ (g.E.Edges.rows c.args.edges.now).objects =
    length-different (g.E.Edges.rows c.args.edges.now).objects c.out.lifted.items h.once h.within in
    omega (arith, c.out.invariant.next)

pub follow-preserved : goal.follow-preserved
follow-preserved g c =
    let rows = g.E.Edges.rows in
    let r = rows c.args.edges.now in
    let source = c.index-source.result.now in
    let next = c.follow.next in
    let lifted = c.out.lifted.items in
    let all : take c.out.i (r.out source) ≡ r.out source = take_all c.out.i (r.out source)
    (omega (arith, ap (λ (r : Rows). length (r.out source)) c.follow.invariant.same)) in
    record {
      same = c.out.invariant.same;
      looks = omega (
        arith,
        c.out.invariant.looks,
        sum_by_more (targets_of r) lifted next 0 c.out.invariant.next,
        ap (targets_of r) c.out.invariant.source,
        ap length all,
        ap (λ (r : Rows). length (r.out source)) c.follow.invariant.same,
      );
      count = c.out.invariant.count;
      next = omega (arith, c.out.invariant.next);
      lifting = lift_next r c.out.kept lifted next source c.out.invariant.next c.out.invariant.source c.out.invariant.lifting
          (subst (λ (ys : List MarkedEdge). AreEarly c.out.kept source ys) all c.out.invariant.early);
      changed = c.out.invariant.changed;
    }

pub returns-clause-lifting : goal.returns-clause-lifting
returns-clause-lifting g c = lift_end (g.E.Edges.rows c.args.edges.now) c.follow.kept c.follow.lifted.items c.follow.next
    (omega (arith, c.follow-test.false, c.len.ensures, c.follow.lifted.ok)) c.follow.invariant.lifting
