use Rattle.std.proofs.Common.{◌∙◌, ◌+◌, List, [], ◌∷◌, ◌++◌, sym, ap, append_assoc, true, false}
use Rattle.std.proofs.lemmas.List.{append-nil}
use Rattle.hd_terms.specs.declared.Slot.{Slot}
use Rattle.hd_terms.specs.declared.Slot.TheVariants as slots
use Rattle.hd_graph.specs.ArrayRows.{field_names}
use Rattle.hd_classes.proofs.FieldLemmas.{first_fields}
use Rattle.hd_graph.proofs.LayoutLemmas.{names-more}
use Rattle.hd_graph.proofs.layouts.push_names.Goals as goal
use Rattle.hd_graph.proofs.layouts.push_names.Goals.{then-is_id_type+in_ok-push, else-is_id_type}

pub loop-i-preserved : goal.loop-i-preserved
loop-i-preserved c =
    let old = c.args.names.now.items in
    let so_far = field_names c.args.first (first_fields c.args.fields.now c.loop-i.i) in
    elim c.if-is_id_type.branch [
      | then-is_id_type+in_ok-push w ↦
          ap (λ v. v.items) w.names-is ∙ w.in_ok-push.ensures.items
          ∙ ap (λ (ns : List Slot). ns ++ slots.Field (c.args.first + c.loop-i.i) ∷ []) c.loop-i.invariant
          ∙ append_assoc old so_far (slots.Field (c.args.first + c.loop-i.i) ∷ [])
          ∙ ap (λ (ns : List Slot). old ++ ns)
          (sym (names-more c.args.first c.args.fields.now c.loop-i.i _ c.loop-i-test.true true (sym c.is_id_type.ensures ∙ w.if-is_id_type.true)))
      | else-is_id_type w ↦
          ap (λ v. v.items) w.names-is ∙ c.loop-i.invariant
          ∙ ap (λ (ns : List Slot). old ++ ns)
          (sym (append-nil so_far)
          ∙ sym (names-more c.args.first c.args.fields.now c.loop-i.i _ c.loop-i-test.true false (sym c.is_id_type.ensures ∙ w.if-is_id_type.false)))
    ]
