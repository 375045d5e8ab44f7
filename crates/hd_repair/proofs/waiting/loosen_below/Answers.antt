-- One edge of the object after another: what it supports waits from then on, before the others where it is alone.
-- In the end no edge of the object supports anything (`none`).
use Rattle.std.proofs.Common.{◌≡◌, ◌∙◌, ◌<◌, List, length, take, subst, sym, refl, arith}
use Rattle.std.proofs.lemmas.List.{take_all}
use Rattle.hd_terms.specs.declared.Support.TheVariants as supports
use Rattle.hd_terms.specs.EdgeRows.{AreRows, MarkedEdge}
use Rattle.hd_edges.specs.Marks.{marked_edge}
use Rattle.hd_repair.specs.Losing.{IsFrom, SupportNone}
use Rattle.hd_repair.proofs.OutLemmas.{Contains-slice_get, take_one_more}
use Rattle.hd_repair.proofs.AloneLemmas.{join_step, none_joined}
use Rattle.hd_repair.proofs.WaitLemmas.{none_loosened, loosen_step, support_more}
use Rattle.hd_repair.proofs.waiting.loosen_below.Goals as goal

pub loop-i-init : goal.loop-i-init
loop-i-init g c = record {
  same = refl;
  looks = omega arith;
  count = refl;
  loosened = none_loosened c.args.kept.now c.args.waiting.now.items (IsFrom c.args.o);
  alone = none_joined (g.E.Edges.rows c.args.edges.now) c.args.waiting.now.items c.args.alone.now c.args.o c.requires.few;
  none = λ y (k, lt, is). absurd (omega arith);
}

pub loosen_if_held-requires : goal.loosen_if_held-requires
loosen_if_held-requires g c =
    let rows = g.E.Edges.rows in
    let r = rows c.args.edges.now in
    let same : rows c.loop-i.edges ≡ r = c.loop-i.invariant.same in
    let laws : AreRows r = subst AreRows same (g.met.E.Edges.lawful c.loop-i.edges) in
    let lt : c.loop-i.i < length (r.out c.args.o) = omega arith in
    let value = rw same at c.out-edge.ensures.value in
    let within = laws.out_target c.args.o (marked_edge c.out-edge.result)
    (Contains-slice_get (r.out c.args.o) c.loop-i.i (marked_edge c.out-edge.result) lt value) in
    let now : rows c.out-edge.new.self ≡ r = c.out-edge.ensures.same ∙ same in
    record { object = rw now within; count = rw now (c.loop-i.invariant.count ∙ c.requires.count); few = c.loop-i.invariant.alone.few }

pub loop-i-preserved : goal.loop-i-preserved
loop-i-preserved g c =
    let rows = g.E.Edges.rows in
    let r = rows c.args.edges.now in
    let same : rows c.loop-i.edges ≡ r = c.loop-i.invariant.same in
    let y = marked_edge c.out-edge.result in
    let lt : c.loop-i.i < length (r.out c.args.o) = omega arith in
    let value = rw same at c.out-edge.ensures.value in
    let holder = supports.Edge c.args.o y.edge.slot in
    let d = c.in_ok-loosen_if_held.ensures.ok in
    let now : rows c.out-edge.new.self ≡ r = c.out-edge.ensures.same ∙ same in
    record {
      same = c.out-edge.ensures.same ∙ same;
      looks = omega (arith, c.out-edge.ensures.counted, c.loop-i.invariant.looks);
      count = c.loosen_if_held.ensures.count ∙ c.loop-i.invariant.count;
      loosened = loosen_step c.args.kept.now c.loop-i.kept c.loosen_if_held.new.kept c.args.waiting.now.items c.loop-i.waiting.items
          c.loosen_if_held.new.waiting.items (IsFrom c.args.o) y.edge.target holder (λ e. cc) c.loop-i.invariant.loosened (y.edge.slot, refl) d;
      alone = join_step r c.args.waiting.now.items c.args.alone.now c.args.o c.loop-i.waiting.items c.loosen_if_held.new.waiting.items c.loop-i.alone
          c.loosen_if_held.new.alone y.edge.target y (Contains-slice_get (r.out c.args.o) c.loop-i.i y lt value) refl c.loop-i.invariant.alone
          (rw now at c.in_ok-loosen_if_held.ensures.alone);
      none = subst (λ (ys : List MarkedEdge). SupportNone c.loosen_if_held.new.kept c.args.o ys) (sym (take_one_more (r.out c.args.o) c.loop-i.i y lt value))
          (support_more c.loop-i.kept c.loosen_if_held.new.kept c.loop-i.waiting.items c.loosen_if_held.new.waiting.items y.edge.target holder (λ e. cc) d
          c.args.o (take c.loop-i.i (r.out c.args.o)) y refl refl c.loop-i.invariant.none);
    }

pub returns-clause-none : goal.returns-clause-none
returns-clause-none g c = subst (λ (ys : List MarkedEdge). SupportNone c.loop-i.kept c.args.o ys)
    (take_all c.loop-i.i ((g.E.Edges.rows c.args.edges.now).out c.args.o) (omega arith)) c.loop-i.invariant.none
