-- The list of constants by its text: one value after another is read (`step_list`), where the rest begins with one.
-- A list that is cut off is short by the count that it says (`short_count`).
use Rattle.std.proofs.lemmas.Result.{err_from_is_err_and}
use Rattle.std.proofs.Common.{map, [], ◌∷◌, ◌≡◌, ◌∙◌, ap, arith}
use Rattle.std.proofs.lemmas.List.{map-append}
use Rattle.hd_terms.specs.SubRecords.{IsClassValue, value_text}
use Rattle.hd_subs.specs.Views.{constant_view}
use Rattle.hd_subs.specs.Parts.{typed_item}
use Rattle.hd_subs.proofs.Parts.{begin_list, step_list, whole_list, short_count, item_stop}
use Rattle.hd_subs.proofs.Values.{no_value, is_no_value}
use Rattle.hd_subs.proofs.class_reading.read_constants.Goals as goal

pub returns-in_default-clause-err : goal.returns-in_default-clause-err
returns-in_default-clause-err c = short_count (IsClassValue c.args.id_size 2) value_text (no_value 2) c.args.from.rest.now
    (is_no_value c.args.id_size 2) c.in_default.ensures

pub loop-i-init : goal.loop-i-init
loop-i-init c = begin_list (IsClassValue c.args.id_size 2) value_text (typed_item c.args.id_size 2) c.in-Some.items.at c.in-Some.items.rest.now
    (map constant_view c.new-constants.result.items) (ap (map constant_view) c.new-constants.ensures.items)

pub loop-i-preserved : goal.loop-i-preserved
loop-i-preserved c =
    let new : map constant_view c.push.new.self.items ≡ _ = ap (map constant_view) c.in_ok-push.ensures.items
    ∙ map-append constant_view c.loop-i.constants.items (c.in_ok-constant.constant ∷ []) in
    step_list (IsClassValue c.args.id_size 2) value_text (typed_item c.args.id_size 2) c.in-Some.items.at c.in-Some.items.rest.now c.loop-i._i
    (map constant_view c.loop-i.constants.items) c.loop-i.rest.rest.now c.loop-i.rest.at
    (constant_view c.in_ok-constant.constant) c.in_ok-constant.after.rest.now c.in_ok-constant.after.at
    (map constant_view c.push.new.self.items) c.loop-i.invariant c.in_ok-constant.ensures.ok new

pub returns-in_err-constant-clause-err : goal.returns-in_err-constant-clause-err
returns-in_err-constant-clause-err c =
    let p = err_from_is_err_and c.from_residual.result c.from_residual.ensures.1 in
    rw (p.1, p.2)
    (item_stop (IsClassValue c.args.id_size 2) value_text (typed_item c.args.id_size 2)
    (no_value 2) 2 c.args.from.at c.args.from.rest.now c.in-Some.count c.in-Some.items.rest.now c.in-Some.items.at c.loop-i._i
    (map constant_view c.loop-i.constants.items) c.loop-i.rest.rest.now c.loop-i.rest.at c.in_err-constant.field-0.0
    (is_no_value c.args.id_size 2) c.in-Some.ensures c.loop-i.invariant (omega arith) c.in_err-constant.ensures.err)

pub returns-clause-ok : goal.returns-clause-ok
returns-clause-ok c =
    whole_list (IsClassValue c.args.id_size 2) value_text
    (typed_item c.args.id_size 2) c.args.from.at c.args.from.rest.now c.in-Some.count c.in-Some.items.rest.now c.in-Some.items.at
    (map constant_view c.loop-i.constants.items) c.loop-i.rest.rest.now c.loop-i.rest.at c.loop-i._i
    c.in-Some.ensures c.loop-i.invariant (omega arith)
