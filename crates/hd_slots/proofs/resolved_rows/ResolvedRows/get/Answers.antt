-- The row of an object lies between two starts, so its slot is the number at the first of them and the index.
-- That number stands for the ID and tells its object.
use Rattle.std.proofs.Common.{◌≡◌, ◌∙◌, ℕ, ◌+◌, get_or, ap, sym, arith, refl, nat_eq}
use Rattle.std.specs.List.{position}
use Rattle.std.specs.Arc.{arc_value}
use Rattle.hd_slots.specs.Table.{Rows, row_at}
use Rattle.hd_slots.specs.Codes.{id_of_code, target_of_code}
use Rattle.hd_slots.proofs.TableLemmas.{starts-before, item-within, item-code, get_or-row}
use Rattle.hd_slots.proofs.resolved_rows.ResolvedRows.get.Goals as goal

pub bounds-as_slice-o : goal.bounds-as_slice-o
bounds-as_slice-o c =
    let a = c.self.inside in
    let lt = rw (← c.self.view_is) at c.requires.row in
    rw c.as_slice.ensures.value (omega (arith, starts-before (arc_value a.ids) a.starts.items a.items.items a.absent.items c.self.invariant.parts c.args.o lt))

pub bounds-as_slice-start : goal.bounds-as_slice-start
bounds-as_slice-start c =
    let a = c.self.inside in
    let lt = rw (← c.self.view_is) at c.requires.row in
    let index = rw (← c.self.view_is) at c.requires.index in
    rw (c.as_slice.ensures.value, c.as_slice-2.ensures.value)
    (item-within (arc_value a.ids) a.starts.items a.items.items a.absent.items c.self.invariant.parts c.args.o lt c.args.i index)

pub read_code-requires-clause-is : goal.read_code-requires-clause-is
read_code-requires-clause-is c =
    let a = c.self.inside in
    let lt = rw (← c.self.view_is) at c.requires.row in
    let index = rw (← c.self.view_is) at c.requires.index in
    rw (c.as_slice.ensures.value, c.as_slice-2.ensures.value, c.deref.ensures, c.as_slice-3.ensures.value)
    (item-code (arc_value a.ids) a.starts.items a.items.items a.absent.items c.self.invariant.parts c.args.o lt c.args.i index)

-- the number at the index
code_is : (c : goal.After-read_code) → get_or c.as_slice-2.result.now (get_or c.as_slice.result.now c.args.o 0 + c.args.i) 0 ≡ get_or c.self.inside.items.items
    (get_or c.self.inside.starts.items c.args.o 0 + c.args.i) 0
code_is c = rw (c.as_slice.ensures.value, c.as_slice-2.ensures.value) refl

id_is : (c : goal.After-read_code) → c.read_code.result.0 ≡ id_of_code (arc_value c.self.inside.ids) c.self.inside.absent.items
    (get_or c.self.inside.items.items (get_or c.self.inside.starts.items c.args.o 0 + c.args.i) 0)
id_is c = c.read_code.ensures.id ∙ rw (c.deref.ensures, c.as_slice-3.ensures.value, code_is c) refl

pub returns-clause-id : goal.returns-clause-id
returns-clause-id c =
    let a = c.self.inside in
    let lt = rw (← c.self.view_is) at c.requires.row in
    let index = rw (← c.self.view_is) at c.requires.index in
    id_is c ∙ sym (get_or-row (arc_value a.ids) a.starts.items a.items.items a.absent.items c.self.invariant.parts c.args.o lt c.args.i index)
    ∙ ap (λ (t : Rows). get_or (row_at t c.args.o) c.args.i 0) c.self.view_is

pub returns-clause-target : goal.returns-clause-target
returns-clause-target c =
    let a = c.self.inside in
    let lt = rw (← c.self.view_is) at c.requires.row in
    let index = rw (← c.self.view_is) at c.requires.index in
    let is = item-code (arc_value a.ids) a.starts.items a.items.items a.absent.items c.self.invariant.parts c.args.o lt c.args.i index in
    let code = get_or a.items.items (get_or a.starts.items c.args.o 0 + c.args.i) 0 in
    let read : target_of_code c.deref.result.now (get_or c.as_slice-2.result.now (get_or c.as_slice.result.now c.args.o 0 + c.args.i) 0) ≡ target_of_code
    (arc_value a.ids) code = rw (c.deref.ensures, code_is c) refl in
    let found : position (λ x. nat_eq (id_of_code (arc_value a.ids) a.absent.items code) x) (arc_value a.ids) ≡ position (λ x. nat_eq c.read_code.result.0 x)
    (arc_value a.ids) = ap (λ (id : ℕ). position (λ x. nat_eq id x) (arc_value a.ids)) (sym (id_is c)) in
    c.read_code.ensures.target ∙ read ∙ sym is.target ∙ found ∙ ap (λ (t : Rows). position (λ x. nat_eq c.read_code.result.0 x) t.ids) c.self.view_is
