-- One sub-record after another is numbered: the IDs, roots and counts are those of the sub-records so far.
-- A fault is that of the first that stops.
use Rattle.std.proofs.Common.{◌≡◌, ◌∙◌, ℕ, ◌+◌, ◌-◌, Some, subst, arith, drop}
use Rattle.std.specs.List.{slice_get}
use Rattle.std.proofs.lemmas.Result.{err_from_is_err_and}
use Rattle.hd_classes.specs.Known.{known_at}
use Rattle.hd_classes.specs.Fits.{SizedClasses}
use Rattle.hd_subs.specs.Views.{sub_view}
use Rattle.hd_graph.specs.Building.{stretch}
use Rattle.hd_graph.specs.Numbering.{IsNumbered, NumbersOneMore, StopsAt}
use Rattle.hd_graph.proofs.NumberLemmas.{take-next, lifted, repeated-le, opaque-le}
use Rattle.hd_graph.proofs.AllRowLemmas.{at-distance}
use Rattle.hd_graph.proofs.number.number_stretch.Goals as goal

pub loop-i-preserved : goal.loop-i-preserved
loop-i-preserved c =
    let list = c.args.list.now in
    let first = c.args.first in
    let k = c.loop-i.i - first in
    let at : slice_get (drop first list) k ≡ Some (sub_view c.get-sub.result) = at-distance list first c.loop-i.i _ c.loop-i.invariant.from
    (rw c.as_list-subs.ensures at c.get-sub.ensures) in
    let more = subst (λ (l : SizedClasses). NumbersOneMore (known_at l.classes) l.size
    (sub_view c.get-sub.result) c.loop-i.ids c.loop-i.roots.items c.loop-i.tally c.number_one.new.ids c.number_one.new.roots.items c.number_one.new.tally)
    c.loop-i.invariant.layouts c.in_ok-number_one.ensures.ok in
    let next : k + 1 ≡ c.loop-i.i + 1 - first = let from = c.loop-i.invariant.from in omega arith in
    record {
      from = let from = c.loop-i.invariant.from in omega arith;
      numbered = subst (λ (n : ℕ). IsNumbered (known_at c.args.classes.now) c.args.id_size
          (stretch first n list) c.number_one.new.ids c.number_one.new.roots.items c.number_one.new.tally) next
          (rw (take-next (drop first list) k _ at) (more (stretch first k list) c.loop-i.invariant.numbered));
      layouts = c.in_ok-number_one.ensures.same ∙ c.loop-i.invariant.layouts;
    }

pub returns-in_err-number_one-clause-err : goal.returns-in_err-number_one-clause-err
returns-in_err-number_one-clause-err c =
    let list = c.args.list.now in
    let first = c.args.first in
    let p = err_from_is_err_and c.from_residual-in_err-number_one.result c.from_residual-in_err-number_one.ensures.1 in
    let stops = subst (λ (l : SizedClasses). StopsAt (known_at l.classes) l.size (sub_view c.get-sub.result) c.loop-i.ids c.in_err-number_one.field-0.0)
    c.loop-i.invariant.layouts c.in_err-number_one.ensures.err in
    let at : slice_get (drop first list) (c.loop-i.i - first) ≡ Some (sub_view c.get-sub.result) = at-distance list first c.loop-i.i _ c.loop-i.invariant.from
    (rw c.as_list-subs.ensures at c.get-sub.ensures) in
    rw (p.1, p.2) (lifted (known_at c.args.classes.now) c.args.id_size (drop first list) (c.loop-i.i - first) _ _ _ _ _ at c.loop-i.invariant.numbered stops)

pub number_one-requires-clause-repeated : goal.number_one-requires-clause-repeated
number_one-requires-clause-repeated c =
    omega (
      arith,
      repeated-le (known_at c.args.classes.now) c.args.id_size (drop c.args.first c.args.list.now)
          (c.loop-i.i - c.args.first) _ _ _ c.loop-i.invariant.numbered,
    )

pub number_one-requires-clause-opaque : goal.number_one-requires-clause-opaque
number_one-requires-clause-opaque c =
    omega (
      arith,
      opaque-le (known_at c.args.classes.now) c.args.id_size (drop c.args.first c.args.list.now)
          (c.loop-i.i - c.args.first) _ _ _ c.loop-i.invariant.numbered,
    )
