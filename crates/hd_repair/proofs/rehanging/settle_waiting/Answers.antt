-- Each turn settles one object that waits.
use Rattle.std.proofs.Common.{◌≡◌, ◌∙◌, sym, ap, subst, arith}
use Rattle.hd_terms.proofs.Lower.{Contains-first}
use Rattle.hd_repair.specs.Losing.{looks_due, progress_of, waits, IsSince, Progress}
use Rattle.hd_repair.proofs.AloneLemmas.{left_alone, none_halfway, none_progress, taken_alone, taken_progress}
use Rattle.hd_repair.proofs.rehanging.settle_waiting.Goals as goal

pub settle_next-requires-clause-object : goal.settle_next-requires-clause-object
settle_next-requires-clause-object g c =
    let t = c.in-Some.ensures.some in
    rw c.loop.invariant.same (c.loop.invariant.halfway.underway.distinct.within c.in-Some.o
    (waits (rw t.waiting (Contains-first c.in-Some.o c.take_next.new.losing.waiting.items))))

pub settle_next-requires-clause-alone : goal.settle_next-requires-clause-alone
settle_next-requires-clause-alone g c is =
    let t = c.in-Some.ensures.some in
    rw c.loop.invariant.same (taken_alone (g.E.Edges.rows c.args.edges.now).standing c.loop.kept c.loop.losing.alone c.take_next.new.losing.alone
    c.in-Some.o c.loop.losing.waiting.items c.take_next.new.losing.waiting.items c.loop.invariant.halfway.first t.waiting (t.first is))

pub settle_next-requires-clause-first : goal.settle_next-requires-clause-first
settle_next-requires-clause-first g c =
    let t = c.in-Some.ensures.some in
    rw c.loop.invariant.same (left_alone (g.E.Edges.rows c.args.edges.now).standing c.loop.kept c.loop.losing.alone c.take_next.new.losing.alone
    c.in-Some.o c.loop.losing.waiting.items c.take_next.new.losing.waiting.items c.loop.invariant.halfway.first t.waiting t.alone)

pub loop-preserved : goal.loop-preserved
loop-preserved g c =
    let same = c.loop.invariant.same in
    let t = c.in-Some.ensures.some in
    let before = taken_progress c.loop.losing c.take_next.new.losing c.in-Some.o c.in-Some.is_alone t in
    let looks = rw (same, t.rehung, t.lifted, t.gone) at c.in_ok-settle_next.ensures.looks in
    record {
      same = c.in_ok-settle_next.ensures.same ∙ same;
      count = c.in_ok-settle_next.ensures.count ∙ c.loop.invariant.count;
      looks = omega (arith, looks, c.loop.invariant.looks);
      halfway = record {
        underway = rw same at c.in_ok-settle_next.ensures.underway;
        first = rw same at c.in_ok-settle_next.ensures.first;
        sought = rw same at c.in_ok-settle_next.ensures.sought;
      };
      since = λ ks0 lost s. c.in_ok-settle_next.ensures.since ks0 lost
          (subst (λ (p : Progress). IsSince ks0 lost c.loop.kept p) (sym before) (c.loop.invariant.since ks0 lost s));
    }

pub returns-in_default-clause-looks : goal.returns-in_default-clause-looks
returns-in_default-clause-looks g c =
    let r = g.E.Edges.rows c.args.edges.now in
    let same : looks_due r (progress_of c.take_next.new.losing) ≡ looks_due r (progress_of c.loop.losing) =
    ap (looks_due r) (none_progress c.loop.losing c.take_next.new.losing c.in_default.ensures.none) in
    omega (arith, same, c.loop.invariant.looks)

pub returns-in_default-clause-halfway : goal.returns-in_default-clause-halfway
returns-in_default-clause-halfway g c =
    none_halfway (g.E.Edges.rows c.args.edges.now) c.loop.kept c.loop.losing c.take_next.new.losing c.loop.invariant.halfway c.in_default.ensures.none

pub returns-in_default-clause-since : goal.returns-in_default-clause-since
returns-in_default-clause-since g c ks0 lost s =
    subst (λ (p : Progress). IsSince ks0 lost c.loop.kept p)
    (sym (none_progress c.loop.losing c.take_next.new.losing c.in_default.ensures.none)) (c.loop.invariant.since ks0 lost s)
