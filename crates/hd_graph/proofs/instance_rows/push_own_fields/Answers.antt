-- One field after another: a reference is pushed at its place among the values, and the place moves on by the length of
-- the value. All places lie within the values, since the layout fits.
use Rattle.std.proofs.Common.{◌≡◌, ◌∙◌, ℕ, ◌+◌, List, get_or, ap, subst, arith}
use Rattle.hd_terms.specs.declared.IdSize.{IdSize}
use Rattle.hd_terms.specs.Types.{value_len}
use Rattle.hd_terms.specs.Classes as classes_of
use Rattle.hd_classes.specs.declared.known.LayoutField.{LayoutField}
use Rattle.hd_classes.proofs.FieldLemmas.{first_fields, all-fields, length-first}
use Rattle.hd_graph.proofs.LayoutLemmas.{ArePushed, none-pushed, field-pushed, field-within, value-within, count-so-far}
use Rattle.hd_graph.proofs.instance_rows.push_own_fields.Goals as goal

-- a field, where it doesn't matter which
abbrev any_field : LayoutField
any_field = record { owner = 0; name = 0; code = 0 }

pub loop-i-init : goal.loop-i-init
loop-i-init c = none-pushed c.args.start c.args.slot_table.now

pub push_value-requires-clause-within : goal.push_value-requires-clause-within
push_value-requires-clause-within c =
    let code = (get_or c.args.fields.now c.loop-i.i any_field).code in
    let len : c.from-len.result ≡ value_len c.args.slot_table.now.size code = c.from-len.ensures ∙ c.value_len.ensures.len
    ∙ ap (λ (size : IdSize). value_len size code) c.id_size-id_size.ensures.size in
    value-within c.args.start c.args.fields.now c.loop-i.i any_field c.args.slot_table.now c.loop-i.slot_table c.loop-i.at c.from-len.result c.loop-i-test.true
    c.loop-i.invariant c.requires.within len

pub overflow_add-at : goal.overflow_add-at
overflow_add-at c =
    let code = (get_or c.args.fields.now c.loop-i.i any_field).code in
    let len : c.from-len.result ≡ value_len c.args.slot_table.now.size code = c.from-len.ensures ∙ c.value_len.ensures.len
    ∙ ap (λ (size : IdSize). value_len size code) c.id_size-id_size.ensures.size in
    let within = field-within c.args.start c.args.fields.now c.loop-i.i any_field c.args.slot_table.now c.loop-i.slot_table c.loop-i.at c.loop-i-test.true
    c.loop-i.invariant c.requires.within in
    omega (arith, within, len, c.id_size-id_size.ensures.small)

pub push_value-requires-clause-room : goal.push_value-requires-clause-room
push_value-requires-clause-room c =
    let few = count-so-far c.args.start (first_fields c.args.fields.now c.loop-i.i) c.args.slot_table.now c.loop-i.slot_table c.loop-i.at c.loop-i.invariant in
    omega (arith, few.0, few.1, length-first c.args.fields.now c.loop-i.i c.loop-i-test.true, c.requires.room, c.loop-i-test.true)

pub loop-i-preserved : goal.loop-i-preserved
loop-i-preserved c =
    let code = (get_or c.args.fields.now c.loop-i.i any_field).code in
    let len : c.from-len.result ≡ value_len c.args.slot_table.now.size code = c.from-len.ensures ∙ c.value_len.ensures.len
    ∙ ap (λ (size : IdSize). value_len size code) c.id_size-id_size.ensures.size in
    field-pushed c.args.start c.args.fields.now c.loop-i.i any_field c.args.slot_table.now c.loop-i.slot_table c.push_value.new.slot_table c.loop-i.at
    (c.loop-i.at + c.from-len.result) c.loop-i-test.true c.loop-i.invariant
    c.in_ok-push_value.ensures (ap (λ (n : ℕ). c.loop-i.at + n) len)

pub returns : goal.returns
returns c =
    let all = subst (λ (fs : List classes_of.LayoutField). ArePushed c.args.start fs c.args.slot_table.now c.loop-i.slot_table c.loop-i.at)
    (all-fields c.args.fields.now c.loop-i.i (omega arith)) c.loop-i.invariant in
    record { row = all.table; end = all.at_is }
