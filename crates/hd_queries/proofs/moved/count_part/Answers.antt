use Rattle.std.proofs.Common.{ℕ, ◌+◌, ◌/◌, ◌-◌, ◌%◌, ◌<◌, ◌≤◌, ◌≡◌, refl, sym, subst, arith}
use Rattle.hd_totals.specs.Running.{strength_in}
use Rattle.hd_queries.specs.Compared.{IsQuietPage}
use Rattle.hd_queries.proofs.ListedLemmas.{same-page}
use Rattle.hd_queries.proofs.MovedLemmas.{moves-more, moves-quiet}
use Rattle.hd_queries.proofs.moved.count_part.Goals as goal

pub loop-o-preserved-then-is_quiet : goal.loop-o-preserved-then-is_quiet
loop-o-preserved-then-is_quiet c =
    let o = c.loop-o.o in
    let end : ℕ = o + c.min-o.result in
    let quiet : IsQuietPage c.args.compared (o / 1024) = c.if-is_quiet.ensures.0 refl in
    let up_to : end ≤ o + (1024 - o % 1024) = omega (arith, c.min-o.ensures) in
    let same : (x : ℕ) → o ≤ x → x < end → strength_in c.args.compared.earlier.strengths.now x ≡ strength_in c.args.compared.later.strengths.now x =
    λ x after before.
    c.requires.same x (subst (λ (page : ℕ). IsQuietPage c.args.compared page) (sym (same-page o end x up_to after before)) quiet) in
    record {
      from = omega (arith, c.min-o.ensures);
      within = omega (arith, c.min-o.ensures);
      counted = moves-quiet c.args.graph.now c.args.compared.earlier.strengths.now c.args.compared.later.strengths.now c.args.start o c.loop-o.totals.items
          c.loop-o.invariant.counted end (omega arith) same;
    }

pub loop-o-preserved : goal.loop-o-preserved
loop-o-preserved c = record {
  from = omega arith;
  within = omega arith;
  counted = moves-more c.args.graph.now c.args.compared.earlier.strengths.now c.args.compared.later.strengths.now c.args.start c.loop-o.o c.loop-o.totals.items
      c.loop-o.invariant.counted c.count_object.new.totals.items c.count_object.ensures;
}
