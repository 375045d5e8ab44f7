-- The list of fields by its text: one field after another is read (`step_list`), where the rest begins with one.
-- A list that is cut off is short by the count that it says (`short_count`).
use Rattle.std.proofs.lemmas.Result.{err_from_is_err_and}
use Rattle.std.proofs.Common.{map, [], ◌∷◌, ◌≡◌, ◌∙◌, ap, arith}
use Rattle.std.proofs.lemmas.List.{map-append}
use Rattle.hd_terms.specs.Records.{id_len}
use Rattle.hd_terms.specs.SubRecords.{IsClassField, field_text}
use Rattle.hd_subs.specs.Views.{field_view}
use Rattle.hd_subs.specs.Parts.{field_at}
use Rattle.hd_subs.proofs.Parts.{begin_list, step_list, whole_list, short_count, item_stop}
use Rattle.hd_subs.proofs.Values.{no_field, is_no_field}
use Rattle.hd_subs.proofs.class_reading.read_fields.Goals as goal

pub returns-in_default-clause-err : goal.returns-in_default-clause-err
returns-in_default-clause-err c = short_count (IsClassField c.args.id_size) field_text (no_field c.args.id_size) c.args.from.rest.now
    (is_no_field c.args.id_size) c.in_default.ensures

pub loop-i-init : goal.loop-i-init
loop-i-init c = begin_list (IsClassField c.args.id_size) field_text (field_at c.args.id_size) c.in-Some.items.at c.in-Some.items.rest.now
    (map field_view c.new-fields.result.items) (ap (map field_view) c.new-fields.ensures.items)

pub loop-i-preserved : goal.loop-i-preserved
loop-i-preserved c =
    let new : map field_view c.push.new.self.items ≡ _ = ap (map field_view) c.in_ok-push.ensures.items
    ∙ map-append field_view c.loop-i.fields.items (c.in_ok-field.field ∷ []) in
    step_list (IsClassField c.args.id_size) field_text (field_at c.args.id_size) c.in-Some.items.at c.in-Some.items.rest.now c.loop-i._i
    (map field_view c.loop-i.fields.items) c.loop-i.rest.rest.now c.loop-i.rest.at
    (field_view c.in_ok-field.field) c.in_ok-field.after.rest.now c.in_ok-field.after.at
    (map field_view c.push.new.self.items) c.loop-i.invariant c.in_ok-field.ensures.ok new

pub returns-in_err-field-clause-err : goal.returns-in_err-field-clause-err
returns-in_err-field-clause-err c =
    let p = err_from_is_err_and c.from_residual.result c.from_residual.ensures.1 in
    rw (p.1, p.2)
    (item_stop (IsClassField c.args.id_size) field_text (field_at c.args.id_size) (no_field c.args.id_size)
    (id_len c.args.id_size) c.args.from.at c.args.from.rest.now c.in-Some.count c.in-Some.items.rest.now c.in-Some.items.at c.loop-i._i
    (map field_view c.loop-i.fields.items) c.loop-i.rest.rest.now c.loop-i.rest.at c.in_err-field.field-0.0
    (is_no_field c.args.id_size) c.in-Some.ensures c.loop-i.invariant (omega arith) c.in_err-field.ensures.err)

pub returns-clause-ok : goal.returns-clause-ok
returns-clause-ok c =
    whole_list (IsClassField c.args.id_size) field_text (field_at c.args.id_size) c.args.from.at c.args.from.rest.now c.in-Some.count c.in-Some.items.rest.now
    c.in-Some.items.at (map field_view c.loop-i.fields.items) c.loop-i.rest.rest.now c.loop-i.rest.at c.loop-i._i
    c.in-Some.ensures c.loop-i.invariant (omega arith)
