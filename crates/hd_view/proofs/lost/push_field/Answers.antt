-- One page after another. A page at which the class isn't noted has no object of it, so it has no lost edge.
use Rattle.std.proofs.Common.{◌+◌, ◌-◌, ◌%◌, ◌≤◌, ◌∙◌, ℕ, length, sym, arith, true≢false}
use Rattle.hd_view.proofs.LostLemmas.{adds_more, pages_passed, all_of_class}
use Rattle.hd_view.proofs.lost.push_field.Goals as goal

pub loop-first-preserved : goal.loop-first-preserved
loop-first-preserved c =
    let dump = c.args.more.graph.now in
    let first = c.loop-first.first in
    let end : ℕ = first + c.min.result in
    let up_to : end ≤ first + (1024 - first % 1024) = omega (arith, c.min.ensures) in
    record {
      within = omega (arith, c.min.ensures, c.objects-in-loop-first.ensures, c.loop-first.invariant.within);
      adds = c.loop-first.invariant.adds;
      all =
          pages_passed dump c.args.more.front.now c.args.less.front.now c.args.cut.class c.args.cut.field first c.args.pages.now end c.loop-first.items.items
          c.requires.pages up_to (λ marked. true≢false (sym (c.may_have.ensures.1 marked) ∙ c.if-may_have.false)) c.loop-first.invariant.all;
    }

pub loop-first-preserved-in_ok-push_between : goal.loop-first-preserved-in_ok-push_between
loop-first-preserved-in_ok-push_between c =
    let dump = c.args.more.graph.now in
    record {
      within = omega (arith, c.min.ensures, c.objects-in-loop-first.ensures, c.loop-first.invariant.within);
      adds =
          adds_more dump c.args.more.front.now c.args.less.front.now c.args.items.now.items c.loop-first.items.items c.push_between.new.items.items
          c.loop-first.invariant.adds c.in_ok-push_between.ensures.adds;
      all = c.in_ok-push_between.ensures.all c.loop-first.invariant.all;
    }

pub returns-clause-all : goal.returns-clause-all
returns-clause-all c =
    let past : length c.args.more.graph.now.objects ≤ c.loop-first.first = omega (arith, c.objects.ensures, c.loop-first-test.false) in
    all_of_class c.args.more.graph.now c.args.more.front.now c.args.less.front.now c.args.cut.class c.args.cut.field c.loop-first.first
    c.loop-first.items.items past c.loop-first.invariant.all
