-- One sub-record after another: it is numbered, and its row and shape are added, so the three columns go on together.
-- The loop keeps that all are those of the sub-records from `first` on, and that there is room for one more.
use Rattle.std.proofs.Common.{◌≡◌, ◌+◌, ◌-◌, ◌++◌, [], Some, ◌∙◌, ℕ, ap, sym, subst, refl, arith, rules, length, drop, List}
use Rattle.std.specs.List.{slice_get, cons_option}
use Rattle.std.proofs.lemmas.List.{length-take, length-drop}
use Rattle.std.proofs.lemmas.List.Elements.{All-get_or}
use Rattle.std.proofs.lemmas.Option.{get_or_from_slice_get, slice_get_within}
use Rattle.std.proofs.lemmas.Result.{err_from_is_err_and}
use Rattle.hd_terms.specs.SubRecords.{Sub}
use Rattle.hd_classes.specs.Known.{known_at}
use Rattle.hd_classes.specs.Fits.{SizedClasses}
use Rattle.hd_subs.specs.Views.{sub_view}
use Rattle.hd_graph.specs.ArrayRows.{IsSubWithin, shape_of_item}
use Rattle.hd_graph.specs.Building.{AddsItemRow, AreLayouts, HasAllRows, HasAllShapes, stretch}
use Rattle.hd_graph.specs.Numbering.{IsNumbered, NumbersOneMore, StopsAt}
use Rattle.hd_graph.specs.declared.number.Tally.{Tally}
use Rattle.hd_graph.proofs.MadeLemmas.{none-made}
use Rattle.hd_graph.proofs.OpenLemmas.{length-le-weight}
use Rattle.hd_graph.proofs.NumberLemmas.{begin, take-next, lifted, repeated-le, opaque-le}
use Rattle.hd_graph.proofs.AllRowLemmas.{at-distance, all-next, stretch-weight-at, shapes-next, few-all-shapes}
use Rattle.hd_graph.proofs.stretch.make_stretch.Goals as goal

pub loop-i-init : goal.loop-i-init
loop-i-init c =
    let none : 0 ≡ c.args.first - c.args.first = omega arith in
    let list = c.args.list.now in
    let first = c.args.first in
    let known = known_at c.args.classes.now in
    let size = c.args.id_size in
    let begun : Tally = record { repeated = 0; opaque = 0 } in
    record {
      from = omega arith;
      numbered = subst (λ (n : ℕ). IsNumbered known size (stretch first n list) c.in_ok-ids.ids c.new-roots.result.items begun) none
          (rw (c.in_ok-ids.ensures, c.new-roots.ensures.items) (begin known size));
      so_far = subst (λ (n : ℕ). HasAllRows known c.args.bytes.now size (stretch first n list) c.in_ok-slot_table.slot_table) none
          (rw c.in_ok-slot_table.ensures
          (record { bytes_are = refl; size_is = refl; ids_are = search rules; rows_are = refl; filled = refl; few = omega arith }));
      shapes = subst (λ (n : ℕ). HasAllShapes known size (stretch first n list) c.in_ok-shapes.shapes.objects) none (rw c.in_ok-shapes.ensures refl);
      made = rw c.in_ok-shapes.ensures (none-made size c.args.classes.now _ c.requires.classes c.len.ensures);
      layouts = c.in_ok-layouts.ensures;
    }

pub add_one-requires-clause-repeated : goal.add_one-requires-clause-repeated
add_one-requires-clause-repeated c =
    omega (
      arith,
      repeated-le (known_at c.args.classes.now) c.args.id_size (drop c.args.first c.args.list.now)
          (c.loop-i.i - c.args.first) _ _ _ c.loop-i.invariant.numbered,
    )

pub add_one-requires-clause-opaque : goal.add_one-requires-clause-opaque
add_one-requires-clause-opaque c =
    omega (
      arith,
      opaque-le (known_at c.args.classes.now) c.args.id_size (drop c.args.first c.args.list.now)
          (c.loop-i.i - c.args.first) _ _ _ c.loop-i.invariant.numbered,
    )

pub add_one-requires-clause-size : goal.add_one-requires-clause-size
add_one-requires-clause-size c = ap (λ (l : SizedClasses). l.size) c.loop-i.invariant.layouts ∙ sym c.loop-i.invariant.so_far.size_is

pub add_one-requires-clause-within : goal.add_one-requires-clause-within
add_one-requires-clause-within c =
    let size = c.args.id_size in
    let bytes = c.args.bytes.now in
    let list = c.args.list.now in
    let i = c.loop-i.i in
    let s : Sub = sub_view c.get-sub.result in
    let at : slice_get list i ≡ Some s = rw c.as_list-subs.ensures at c.get-sub.ensures in
    let lt = slice_get_within list i s at in
    let within : IsSubWithin size bytes s =
    subst (IsSubWithin size bytes) (get_or_from_slice_get list i s s at) (All-get_or (IsSubWithin size bytes) list i s lt c.requires.within.each) in
    rw (c.loop-i.invariant.so_far.size_is, c.loop-i.invariant.so_far.bytes_are) within

pub add_one-requires-clause-room : goal.add_one-requires-clause-room
add_one-requires-clause-room c =
    let list = c.args.list.now in
    let first = c.args.first in
    let s : Sub = sub_view c.get-sub.result in
    let at : slice_get list c.loop-i.i ≡ Some s = rw c.as_list-subs.ensures at c.get-sub.ensures in
    let few = stretch-weight-at list first c.loop-i.i s c.loop-i.invariant.from at in
    omega (arith, few, c.loop-i.invariant.so_far.few, c.requires.within.few, ap (λ (xs : List ℕ). length xs) c.loop-i.invariant.so_far.ids_are)

pub add_one-requires-clause-few : goal.add_one-requires-clause-few
add_one-requires-clause-few c =
    let list = c.args.list.now in
    let first = c.args.first in
    let few = few-all-shapes (known_at c.args.classes.now) c.args.id_size
    (stretch first (c.loop-i.i - first) list) c.loop-i.shapes.objects c.loop-i.invariant.shapes in
    omega (arith, few, length-take (c.loop-i.i - first) (drop first list), length-drop first list, length-le-weight list, c.requires.within.few)

pub add_one-requires-clause-classes : goal.add_one-requires-clause-classes
add_one-requires-clause-classes c = subst (λ (l : SizedClasses). AreLayouts l.size l.classes c.loop-i.shapes.layouts)
    (sym c.loop-i.invariant.layouts) c.loop-i.invariant.made

pub returns-in_err-add_one-clause-err : goal.returns-in_err-add_one-clause-err
returns-in_err-add_one-clause-err c =
    let list = c.args.list.now in
    let first = c.args.first in
    let p = err_from_is_err_and c.from_residual-in_err-add_one.result c.from_residual-in_err-add_one.ensures.1 in
    let stops = subst (λ (l : SizedClasses). StopsAt (known_at l.classes) l.size (sub_view c.get-sub.result) c.loop-i.ids c.in_err-add_one.field-0.0)
    c.loop-i.invariant.layouts c.in_err-add_one.ensures.err in
    let at : slice_get (drop first list) (c.loop-i.i - first) ≡ Some (sub_view c.get-sub.result) = at-distance list first c.loop-i.i _ c.loop-i.invariant.from
    (rw c.as_list-subs.ensures at c.get-sub.ensures) in
    rw (p.1, p.2) (lifted (known_at c.args.classes.now) c.args.id_size (drop first list) (c.loop-i.i - first) _ _ _ _ _ at c.loop-i.invariant.numbered stops)

pub loop-i-preserved : goal.loop-i-preserved
loop-i-preserved c =
    let list = c.args.list.now in
    let first = c.args.first in
    let known = known_at c.args.classes.now in
    let size = c.args.id_size in
    let bytes = c.args.bytes.now in
    let k = c.loop-i.i - first in
    let s : Sub = sub_view c.get-sub.result in
    let now = c.loop-i.slot_table in
    let then = c.add_one.new.slot_table in
    let shapes = c.loop-i.shapes.objects in
    let more_shapes = c.add_one.new.shapes.objects in
    let done = c.in_ok-add_one.ensures in
    let same = c.loop-i.invariant.layouts in
    let at : slice_get (drop first list) k ≡ Some s = at-distance list first c.loop-i.i _ c.loop-i.invariant.from
    (rw c.as_list-subs.ensures at c.get-sub.ensures) in
    let more = subst (λ (l : SizedClasses). NumbersOneMore (known_at l.classes) l.size s c.loop-i.ids c.loop-i.roots.items c.loop-i.tally c.add_one.new.ids
    c.add_one.new.roots.items c.add_one.new.tally) same done.ok in
    let adds = subst (λ (l : SizedClasses). AddsItemRow (known_at l.classes) now.bytes now.size s.item now then) same done.row in
    let shape = subst (λ (l : SizedClasses). more_shapes ≡ shapes ++ cons_option (shape_of_item (known_at l.classes) l.size s.item) []) same done.shape in
    let next : k + 1 ≡ c.loop-i.i + 1 - first = let from = c.loop-i.invariant.from in omega arith in
    record {
      from = let from = c.loop-i.invariant.from in omega arith;
      numbered = subst (λ (n : ℕ). IsNumbered known size (stretch first n list) c.add_one.new.ids c.add_one.new.roots.items c.add_one.new.tally) next
          (rw (take-next (drop first list) k s at) (more (stretch first k list) c.loop-i.invariant.numbered));
      so_far = subst (λ (n : ℕ). HasAllRows known bytes size (stretch first n list) then) next
          (all-next known bytes size (drop first list) k s at now then c.loop-i.invariant.so_far adds);
      shapes = subst (λ (n : ℕ). HasAllShapes known size (stretch first n list) more_shapes) next
          (shapes-next known size (drop first list) k s at shapes more_shapes c.loop-i.invariant.shapes shape);
      made = subst (λ (l : SizedClasses). AreLayouts l.size l.classes c.add_one.new.shapes.layouts) same done.classes;
      layouts = done.same ∙ same;
    }

pub returns-clause-numbers : goal.returns-clause-numbers
returns-clause-numbers c =
    let list = c.args.list.now in
    let all : c.loop-i.i ≡ c.args.end = omega (arith, c.loop-i-test.false, c.loop-i.auto.i-end c.requires.there.0) in
    subst (λ (n : ℕ). IsNumbered (known_at c.args.classes.now) c.args.id_size
    (stretch c.args.first (n - c.args.first) list) c.loop-i.ids c.loop-i.roots.items c.loop-i.tally) all c.loop-i.invariant.numbered
