use Rattle.std.proofs.Common.{◌∙◌, ℕ, ◌+◌, ◌-◌, List, get_or, ap, sym, arith, add-one}
use Rattle.std.specs.Arc.{arc_value}
use Rattle.hd_slots.proofs.TableLemmas.{starts-before, length-row_of}
use Rattle.hd_slots.proofs.resolved_rows.ResolvedRows.row_len.Goals as goal

pub bounds-starts-o : goal.bounds-starts-o
bounds-starts-o c =
    let a = c.self.inside in
    let lt = rw (← c.self.view_is) at c.requires in
    rw c.as_slice-starts.ensures.value
    (omega (arith, starts-before (arc_value a.ids) a.starts.items a.items.items a.absent.items c.self.invariant.parts c.args.o lt))

pub bounds-starts-o-2 : goal.bounds-starts-o-2
bounds-starts-o-2 c =
    let a = c.self.inside in
    let lt = rw (← c.self.view_is) at c.requires in
    rw c.as_slice-starts.ensures.value
    (omega (arith, starts-before (arc_value a.ids) a.starts.items a.items.items a.absent.items c.self.invariant.parts c.args.o lt))

pub returns : goal.returns
returns c =
    let a = c.self.inside in
    let lt = rw (← c.self.view_is) at c.requires in
    c.saturating_sub.ensures
    ∙ ap (λ (xs : List ℕ). get_or xs (c.args.o + 1) 0 - get_or xs c.args.o 0) c.as_slice-starts.ensures.value
    ∙ ap (λ (n : ℕ). get_or a.starts.items n 0 - get_or a.starts.items c.args.o 0) (add-one c.args.o)
    ∙ sym (length-row_of (arc_value a.ids) a.starts.items a.items.items a.absent.items c.self.invariant.parts c.args.o lt c.args.self.now c.self.view_is)
