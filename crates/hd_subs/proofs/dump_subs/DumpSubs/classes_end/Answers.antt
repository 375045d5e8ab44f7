-- One part after another from the last on: a part without classes is left out, with all its sub-records.
-- So behind the place that is found there is no class.
use Rattle.std.proofs.Common.{◌≡◌, ◌∙◌, [], List, ℕ, length, drop, sym, ap, arith}
use Rattle.std.specs.List.{filter_map}
use Rattle.std.proofs.lemmas.List.{drop_all}
use Rattle.hd_terms.specs.SubRecords.{Sub}
use Rattle.hd_subs.specs.Joined.{joined}
use Rattle.hd_subs.specs.ClassSubs.{class_of_sub}
use Rattle.hd_subs.proofs.ClassEnds.{part-fits, part-place, none-in-part, end-within, none-after, class-before}
use Rattle.hd_subs.proofs.dump_subs.DumpSubs.classes_end.Goals as goal

pub loop-left-init : goal.loop-left-init
loop-left-init c =
    let parts = c.self.inside.parts in
    let all : c.len-left.result ≡ length parts.items = c.len-left.ensures ∙ parts.ok.0 in
    let past : drop c.len-left.result parts.items ≡ [] = drop_all c.len-left.result parts.items (omega (arith, all)) in
    record {
      within = omega (arith, all);
      place = omega (arith, c.self.invariant, ap (λ (xs : List (List Sub)). length (joined xs)) past);
      none = ap (λ (xs : List (List Sub)). filter_map class_of_sub (joined xs)) past;
    }

pub index-part-requires : goal.index-part-requires
index-part-requires c = omega (arith, c.loop-left.invariant.within, c.self.inside.parts.ok.0)

pub overflow_sub-start : goal.overflow_sub-start
overflow_sub-start c =
    let h = c.loop-left.invariant in
    omega (
      arith,
      c.len-start.ensures,
      part-fits c.self.inside.parts.items c.loop-left.left c.loop-left.start c.loop-left-test.true h.within h.place
          c.index-part.result.now c.index-part.ensures,
    )

pub returns-then-end-gt0-clause-within : goal.returns-then-end-gt0-clause-within
returns-then-end-gt0-clause-within c =
    let h = c.loop-left.invariant in
    rw (← c.self.view_is, c.len-start.ensures)
    (end-within c.self.inside.parts.items c.loop-left.left c.loop-left.start c.loop-left-test.true h.within h.place c.index-part.result.now c.index-part.ensures
    c.classes_end-end.result c.classes_end-end.ensures.within)

pub returns-then-end-gt0-clause-last : goal.returns-then-end-gt0-clause-last
returns-then-end-gt0-clause-last c =
    let h = c.loop-left.invariant in
    rw (← c.self.view_is, c.len-start.ensures)
    (λ some. class-before c.self.inside.parts.items c.loop-left.left c.loop-left.start c.loop-left-test.true h.within h.place c.index-part.result.now
    c.index-part.ensures c.classes_end-end.result c.classes_end-end.ensures.within c.if-end-gt0.true
    (c.classes_end-end.ensures.last c.if-end-gt0.true))

pub returns-then-end-gt0-clause-none_after : goal.returns-then-end-gt0-clause-none_after
returns-then-end-gt0-clause-none_after c =
    let h = c.loop-left.invariant in
    rw (← c.self.view_is, c.len-start.ensures)
    (none-after c.self.inside.parts.items c.loop-left.left c.loop-left.start c.loop-left-test.true h.within h.place c.index-part.result.now c.index-part.ensures
    c.classes_end-end.result c.classes_end-end.ensures.within h.none c.classes_end-end.ensures.none_after)

pub loop-left-preserved : goal.loop-left-preserved
loop-left-preserved c =
    let h = c.loop-left.invariant in
    record {
      within = omega (arith, h.within);
      place = rw c.len-start.ensures
          (part-place c.self.inside.parts.items c.loop-left.left c.loop-left.start c.loop-left-test.true h.within h.place c.index-part.result.now
          c.index-part.ensures);
      none = none-in-part c.self.inside.parts.items c.loop-left.left c.loop-left.start c.loop-left-test.true h.within h.place c.index-part.result.now
          c.index-part.ensures c.classes_end-end.result c.classes_end-end.ensures.within h.none c.classes_end-end.ensures.none_after (omega arith);
    }

pub returns-clause-none_after : goal.returns-clause-none_after
returns-clause-none_after c =
    let none-left : c.loop-left.left ≡ 0 = omega arith in
    ap (filter_map class_of_sub) (sym c.self.view_is)
    ∙ ap (λ (n : ℕ). filter_map class_of_sub (joined (drop n c.self.inside.parts.items))) (sym none-left)
    ∙ c.loop-left.invariant.none
