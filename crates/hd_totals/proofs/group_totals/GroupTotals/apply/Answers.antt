-- One change after another: `ready` says that its object is counted as it was, and `one-done-with` that it is counted anew.
-- All is told of any two lists of strengths that differ by these changes.
use Rattle.std.proofs.Common.{◌∙◌, ◌<◌, ◌≤◌, ℕ, length, ap, subst, sym, arith}
use Rattle.hd_terms.specs.Dump.{object_at}
use Rattle.hd_terms.specs.Regions.{StrengthChange}
use Rattle.hd_totals.proofs.ChangeLemmas.{IsReady, none-done, change-within, ready, one-done-with, all-done}
use Rattle.hd_totals.proofs.group_totals.GroupTotals.apply.Goals as goal

pub loop-change-init : goal.loop-change-init
loop-change-init c = λ before after h. none-done c.args.graph.now c.args.self.now c.args.changes.now before after h

pub group_of-group-requires : goal.group_of-group-requires
group_of-group-requires c =
    let r = c.requires in
    let d = c.change-item.result in
    let i = c.loop-change.change-index in
    let lt : i < length c.args.changes.now = omega arith in
    subst (λ (o : ℕ). o < length c.args.graph.now.objects) (sym (c.object.ensures ∙ ap (λ (x : StrengthChange). x.object) c.change-item.is))
    (change-within c.args.graph.now c.args.self.now c.args.changes.now r.before r.after r.are i d lt)

pub bytes_of-bytes-requires : goal.bytes_of-bytes-requires
bytes_of-bytes-requires c =
    let r = c.requires in
    let d = c.change-item.result in
    let i = c.loop-change.change-index in
    let lt : i < length c.args.changes.now = omega arith in
    subst (λ (o : ℕ). o < length c.args.graph.now.objects) (sym (c.object-in-loop-change.ensures ∙ ap (λ (x : StrengthChange). x.object) c.change-item.is))
    (change-within c.args.graph.now c.args.self.now c.args.changes.now r.before r.after r.are i d lt)

pub move_object-requires : goal.move_object-requires
move_object-requires c =
    let r = c.requires in
    let dump = c.args.graph.now in
    let changes = c.args.changes.now in
    let d = c.change-item.result in
    let i = c.loop-change.change-index in
    let lt : i < length changes = omega arith in
    let o_is = ap (λ (o : ℕ). (object_at dump o).group) (c.object.ensures ∙ ap (λ (x : StrengthChange). x.object) c.change-item.is) in
    let o_is' = ap (λ (o : ℕ). (object_at dump o).bytes) (c.object-in-loop-change.ensures ∙ ap (λ (x : StrengthChange). x.object) c.change-item.is) in
    let f : IsReady c.loop-change.self c.group_of-group.result c.bytes_of-bytes.result c.before-in-loop-change.result c.after.result =
    ready dump c.args.self.now changes r.before r.after r.are i d lt c.loop-change.self (c.loop-change.invariant r.before r.after r.are)
    c.group_of-group.result (c.group_of-group.ensures ∙ o_is) c.bytes_of-bytes.result (c.bytes_of-bytes.ensures.bytes ∙ o_is')
    c.before-in-loop-change.result (c.before-in-loop-change.ensures ∙ ap (λ (x : StrengthChange). x.before) c.change-item.is) c.after.result
    (c.after.ensures ∙ ap (λ (x : StrengthChange). x.after) c.change-item.is) in
    record { there = f.there; count = f.count; bytes = f.size; count_room = f.count_room; bytes_room = f.size_room }

pub loop-change-preserved : goal.loop-change-preserved
loop-change-preserved c = λ before after h.
    let dump = c.args.graph.now in
    let changes = c.args.changes.now in
    let d = c.change-item.result in
    let i = c.loop-change.change-index in
    let lt : i < length changes = omega arith in
    let o_is = ap (λ (o : ℕ). (object_at dump o).group) (c.object.ensures ∙ ap (λ (x : StrengthChange). x.object) c.change-item.is) in
    let o_is' = ap (λ (o : ℕ). (object_at dump o).bytes) (c.object-in-loop-change.ensures ∙ ap (λ (x : StrengthChange). x.object) c.change-item.is) in
    one-done-with dump c.args.self.now changes before after h i d lt c.loop-change.self (c.loop-change.invariant before after h)
    c.group_of-group.result (c.group_of-group.ensures ∙ o_is) c.bytes_of-bytes.result (c.bytes_of-bytes.ensures.bytes ∙ o_is')
    c.before-in-loop-change.result (c.before-in-loop-change.ensures ∙ ap (λ (x : StrengthChange). x.before) c.change-item.is) c.after.result
    (c.after.ensures ∙ ap (λ (x : StrengthChange). x.after) c.change-item.is)
    c.move_object.new.self c.in_ok-move_object.ensures

pub returns : goal.returns
returns c = λ before after h.
    let all : length c.args.changes.now ≤ c.loop-change.change-index = omega arith in
    all-done c.args.graph.now c.args.self.now c.args.changes.now before after h c.loop-change.change-index all c.loop-change.self
    (c.loop-change.invariant before after h)
