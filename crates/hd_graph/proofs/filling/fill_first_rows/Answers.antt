use Rattle.std.proofs.Common.{◌∙◌, ℕ, ap, sym, subst, arith, length, List, take}
use Rattle.hd_classes.specs.Known.{known_at}
use Rattle.hd_classes.specs.Fits.{SizedClasses}
use Rattle.hd_subs.specs.Views.{sub_view}
use Rattle.hd_graph.specs.Building.{columns, AreLayouts, FillsItem}
use Rattle.hd_graph.proofs.RowLemmas.{fill-next, weight-at, few-shapes}
use Rattle.hd_graph.proofs.OpenLemmas.{length-le-weight}
use Rattle.hd_graph.specs.ArrayRows.{object_ids}
use Rattle.std.proofs.lemmas.List.{length-take}
use Rattle.hd_graph.proofs.filling.fill_first_rows.Goals as goal

pub fill_next-requires-clause-size : goal.fill_next-requires-clause-size
fill_next-requires-clause-size c = ap (λ (l : SizedClasses). l.size) c.loop-i.invariant.layouts ∙ c.requires.size ∙ sym c.loop-i.invariant.so_far.size_is

pub fill_next-requires-clause-room : goal.fill_next-requires-clause-room
fill_next-requires-clause-room c =
    let few = weight-at c.args.list.now c.loop-i.i _ (rw c.as_list-subs.ensures at c.get.ensures) in
    omega (
      arith,
      few,
      c.loop-i.invariant.so_far.few,
      c.requires.within.few,
      c.requires.few,
      ap (λ (xs : List ℕ). length xs)
          (c.loop-i.invariant.so_far.ids_are ∙ sym c.requires.ids),
    )

pub fill_next-requires-clause-few : goal.fill_next-requires-clause-few
fill_next-requires-clause-few c =
    let first = c.args.slot_table.now in
    let few = few-shapes (known_at c.args.layouts.now.classes) first.bytes first.size (take c.loop-i.i c.args.list.now) (object_ids c.args.list.now)
    (columns c.loop-i.slot_table c.loop-i.shapes.objects) c.loop-i.invariant.so_far in
    omega (arith, few, length-take c.loop-i.i c.args.list.now, length-le-weight c.args.list.now, c.requires.within.few)

pub fill_next-requires-clause-classes : goal.fill_next-requires-clause-classes
fill_next-requires-clause-classes c = subst (λ (l : SizedClasses). AreLayouts l.size l.classes c.loop-i.shapes.layouts)
    (sym c.loop-i.invariant.layouts) c.loop-i.invariant.made

pub loop-i-preserved : goal.loop-i-preserved
loop-i-preserved c =
    let first = c.args.slot_table.now in
    let old = columns c.loop-i.slot_table c.loop-i.shapes.objects in
    let new = columns c.fill_next.new.slot_table c.fill_next.new.shapes.objects in
    let fills = subst (λ (l : SizedClasses). FillsItem (known_at l.classes) c.loop-i.slot_table.bytes c.loop-i.slot_table.size
    (sub_view c.get.result).item old new) c.loop-i.invariant.layouts c.in_ok-fill_next.ensures.filled in
    record {
      so_far = fill-next (known_at c.args.layouts.now.classes) first.bytes first.size c.args.list.now c.loop-i.i _
          (rw c.as_list-subs.ensures at c.get.ensures) old new c.loop-i.invariant.so_far fills;
      made = subst (λ (l : SizedClasses). AreLayouts l.size l.classes c.fill_next.new.shapes.layouts) c.loop-i.invariant.layouts
          c.in_ok-fill_next.ensures.classes;
      layouts = c.in_ok-fill_next.ensures.same ∙ c.loop-i.invariant.layouts;
    }
