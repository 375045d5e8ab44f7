-- One object or one quiet page after another: a page that didn't change has none that fell (`same-not-falls`).
-- Each object that fell counts once, in the total and in its group.
use Rattle.std.proofs.Common.{ℕ, ◌+◌, ◌/◌, ◌-◌, ◌%◌, ◌<◌, ◌≤◌, ◌≡◌, false, refl, sym, subst, arith}
use Rattle.hd_totals.specs.Counting.{totals_of}
use Rattle.hd_totals.specs.Fallen.{falls_from}
use Rattle.hd_totals.proofs.LastChangeLemmas.{same-not-falls}
use Rattle.hd_queries.specs.Compared.{IsQuietPage}
use Rattle.hd_queries.specs.Freed.{AreFreedBetween}
use Rattle.hd_queries.proofs.ListedLemmas.{same-page}
use Rattle.hd_queries.proofs.FreedLemmas.{freed-with, none-freed, quiet-freed, room-for-more}
use Rattle.hd_queries.proofs.freed.count_part.Goals as goal

pub loop-o-init : goal.loop-o-init
loop-o-init c = record {
  from = omega arith;
  within = omega arith;
  counted = none-freed c.args.graph.now (falls_from c.args.compared.earlier.strengths.now c.args.compared.later.strengths.now) c.args.start c.none.result
      (totals_of c.none-2.result) c.none.ensures c.none-2.ensures;
}

pub loop-o-preserved-then-is_quiet : goal.loop-o-preserved-then-is_quiet
loop-o-preserved-then-is_quiet c =
    let ks = c.args.compared.earlier.strengths.now in
    let ls = c.args.compared.later.strengths.now in
    let o = c.loop-o.o in
    let end : ℕ = o + c.min-o.result in
    let quiet : IsQuietPage c.args.compared (o / 1024) = c.if-is_quiet.ensures.0 refl in
    let up_to : end ≤ o + (1024 - o % 1024) = omega (arith, c.min-o.ensures) in
    let none : (x : ℕ) → o ≤ x → x < end → falls_from ks ls x ≡ false = λ x after before.
    same-not-falls ks ls x (c.requires.same x (subst (λ (page : ℕ). IsQuietPage c.args.compared page) (sym (same-page o end x up_to after before)) quiet)) in
    record {
      from = omega (arith, c.min-o.ensures);
      within = omega (arith, c.min-o.ensures);
      counted = quiet-freed c.args.graph.now (falls_from ks ls) c.args.start o end c.loop-o.part.total (totals_of c.loop-o.part.groups)
          (omega arith) none c.loop-o.invariant.counted;
    }

pub count_object-requires-clause-room : goal.count_object-requires-clause-room
count_object-requires-clause-room c =
    room-for-more c.args.graph.now (falls_from c.args.compared.earlier.strengths.now c.args.compared.later.strengths.now) c.args.start c.loop-o.o
    c.loop-o.part.total (totals_of c.loop-o.part.groups) c.loop-o.invariant.counted (omega arith)

pub loop-o-preserved : goal.loop-o-preserved
loop-o-preserved c = record {
  from = omega arith;
  within = omega arith;
  counted = freed-with c.args.graph.now (falls_from c.args.compared.earlier.strengths.now c.args.compared.later.strengths.now) c.args.start c.loop-o.o
      c.loop-o.part.total c.count_object.new.part.total
      (totals_of c.loop-o.part.groups) (totals_of c.count_object.new.part.groups) c.loop-o.invariant.counted c.in_ok-count_object.ensures;
}

pub returns : goal.returns
returns c =
    let test = falls_from c.args.compared.earlier.strengths.now c.args.compared.later.strengths.now in
    let end : c.loop-o.o ≡ c.args.end = omega (arith, c.loop-o.invariant.within) in
    subst (λ (k : ℕ). AreFreedBetween c.args.graph.now test c.args.start k c.loop-o.part.total (totals_of c.loop-o.part.groups)) end c.loop-o.invariant.counted
