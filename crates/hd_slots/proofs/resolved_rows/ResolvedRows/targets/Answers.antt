use Rattle.std.proofs.Common.{◌≡◌, ◌∙◌, ℕ, ◌+◌, ◌-◌, map, take, drop, get_or, refl, ap, arith, eqb}
use Rattle.std.specs.List.{position}
use Rattle.std.specs.Arc.{arc_value}
use Rattle.hd_slots.specs.Table.{Rows, row_at}
use Rattle.hd_slots.specs.Codes.{object_of_code}
use Rattle.hd_slots.proofs.TableLemmas.{starts-before, start-within, end-within, length-row_of, targets-row}
use Rattle.hd_slots.proofs.resolved_rows.ResolvedRows.targets.Goals as goal

pub bounds-as_slice-o : goal.bounds-as_slice-o
bounds-as_slice-o c =
    let a = c.self.inside in
    let lt = rw (← c.self.view_is) at c.requires in
    rw c.as_slice.ensures.value (omega (arith, starts-before (arc_value a.ids) a.starts.items a.items.items a.absent.items c.self.invariant.parts c.args.o lt))

pub slice_bounds-new-end : goal.slice_bounds-new-end
slice_bounds-new-end c =
    let a = c.self.inside in
    let lt = rw (← c.self.view_is) at c.requires in
    let len = length-row_of (arc_value a.ids) a.starts.items a.items.items a.absent.items c.self.invariant.parts c.args.o lt c.args.self.now c.self.view_is in
    let from = start-within (arc_value a.ids) a.starts.items a.items.items a.absent.items c.self.invariant.parts c.args.o lt in
    let to = end-within (arc_value a.ids) a.starts.items a.items.items a.absent.items c.self.invariant.parts c.args.o lt in
    rw (c.as_slice.ensures.value, c.as_slice-2.ensures.value) (omega (arith, c.row_len-len.ensures, len, from, to))

pub returns : goal.returns
returns c =
    let a = c.self.inside in
    let lt = rw (← c.self.view_is) at c.requires in
    let start = get_or c.as_slice.result.now c.args.o 0 in
    let width : start + c.row_len-len.result - start ≡ c.row_len-len.result = omega arith in
    let len = length-row_of (arc_value a.ids) a.starts.items a.items.items a.absent.items c.self.invariant.parts c.args.o lt c.args.self.now c.self.view_is in
    c.new.ensures
    ∙ ap (λ (n : ℕ). map (object_of_code a.objects) (take n (drop start c.as_slice-2.result.now))) (width ∙ c.row_len-len.ensures ∙ len)
    ∙ rw (c.as_slice.ensures.value, c.as_slice-2.ensures.value, c.self.invariant.objects_are) refl
    ∙ targets-row (arc_value a.ids) a.starts.items a.items.items a.absent.items c.self.invariant.parts c.args.o lt
    ∙ ap (λ (t : Rows). map (λ id. position (λ x. eqb id x) t.ids) (row_at t c.args.o)) c.self.view_is
