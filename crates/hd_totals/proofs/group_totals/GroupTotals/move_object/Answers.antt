-- The group's row is read (`read-row`), loses the object in one strength and has it in another, and is put back (`put-at`).
-- There is room for it, since it leaves the row before it comes back.
use Rattle.std.proofs.Common.{◌≡◌, ◌∙◌, ◌≤◌, ap, sym, subst, arith}
use Rattle.hd_terms.specs.Listed.{group_key}
use Rattle.hd_totals.specs.declared.total.StrengthTotals.{StrengthTotals}
use Rattle.hd_totals.specs.Running.{IsRowPut, plus_one, less_one}
use Rattle.hd_totals.specs.Totals.{total_for, row_at}
use Rattle.hd_totals.specs.contracts.group_totals.GroupTotals.{the_view}
use Rattle.hd_totals.proofs.RowLemmas.{read-row, put-at}
use Rattle.hd_totals.proofs.TotalLemmas.{less-count, less-bytes}
use Rattle.hd_totals.proofs.group_totals.GroupTotals.move_object.Goals as goal

pub returns : goal.returns
returns c =
    let t = c.args.self.now in
    let key = group_key c.args.group in
    let u = the_view c.self.inside in
    let place = c.in-Some.place in
    let read = read-row u t key place c.get-row.result c.self.view_is c.in-Some.ensures.place.0 c.get-row.ensures in
    let row : c.add.new.self ≡ plus_one (less_one (row_at t key) c.args.before c.args.bytes) c.args.after c.args.bytes =
    c.add.ensures ∙ ap (λ (x : StrengthTotals). plus_one x c.args.after c.args.bytes)
    (c.take.ensures ∙ ap (λ (x : StrengthTotals). less_one x c.args.before c.args.bytes) read) in
    subst (λ (x : StrengthTotals). IsRowPut t (the_view (record { keys = c.self.inside.keys; rows = c.with.new.self; last = c.self.inside.last })) key x) row
    (put-at u t key place c.add.new.self c.with.new.self c.self.view_is c.in-Some.ensures.place.0 c.in-Some.ensures.place.1 c.in-Some.ensures.whole
    c.in_ok-with.ensures.ok)

pub take-requires-clause-count : goal.take-requires-clause-count
take-requires-clause-count c =
    let t = c.args.self.now in
    let key = group_key c.args.group in
    let read = read-row (the_view c.self.inside) t key c.in-Some.place c.get-row.result c.self.view_is c.in-Some.ensures.place.0 c.get-row.ensures in
    subst (λ (x : StrengthTotals). 1 ≤ (total_for x c.args.before).count) (sym read) c.requires.count

pub take-requires-clause-bytes : goal.take-requires-clause-bytes
take-requires-clause-bytes c =
    let t = c.args.self.now in
    let key = group_key c.args.group in
    let read = read-row (the_view c.self.inside) t key c.in-Some.place c.get-row.result c.self.view_is c.in-Some.ensures.place.0 c.get-row.ensures in
    subst (λ (x : StrengthTotals). c.args.bytes ≤ (total_for x c.args.before).bytes) (sym read) c.requires.bytes

pub add-requires-clause-count : goal.add-requires-clause-count
add-requires-clause-count c =
    let t = c.args.self.now in
    let key = group_key c.args.group in
    let read = read-row (the_view c.self.inside) t key c.in-Some.place c.get-row.result c.self.view_is c.in-Some.ensures.place.0 c.get-row.ensures in
    let taken : c.take.new.self ≡ less_one (row_at t key) c.args.before c.args.bytes = c.take.ensures
    ∙ ap (λ (x : StrengthTotals). less_one x c.args.before c.args.bytes) read in
    let same = ap (λ (x : StrengthTotals). (total_for x c.args.after).count) taken in
    let less = less-count (row_at t key) c.args.before c.args.after c.args.bytes c.requires.count in
    let room = c.requires.count_room in
    omega (arith, same, less, room)

pub add-requires-clause-bytes : goal.add-requires-clause-bytes
add-requires-clause-bytes c =
    let t = c.args.self.now in
    let key = group_key c.args.group in
    let read = read-row (the_view c.self.inside) t key c.in-Some.place c.get-row.result c.self.view_is c.in-Some.ensures.place.0 c.get-row.ensures in
    let taken : c.take.new.self ≡ less_one (row_at t key) c.args.before c.args.bytes = c.take.ensures
    ∙ ap (λ (x : StrengthTotals). less_one x c.args.before c.args.bytes) read in
    let same = ap (λ (x : StrengthTotals). (total_for x c.args.after).bytes) taken in
    let less = less-bytes (row_at t key) c.args.before c.args.after c.args.bytes c.requires.bytes in
    let room = c.requires.bytes_room in
    omega (arith, same, less, room)
