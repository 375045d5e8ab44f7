-- One field after another: a reference is noted at its place, and the place moves on by the length of the value.
-- The place is the length of the values so far, which fits, since all of a layout do.
use Rattle.std.proofs.Common.{◌∙◌, ◌≡◌, ◌+◌, List, ℕ, [], ◌∷◌, ◌++◌, sym, ap, arith, append_assoc, get_or, true, false}
use Rattle.std.proofs.lemmas.List.{append-nil}
use Rattle.hd_terms.specs.Classes.{layout_len}
use Rattle.hd_classes.specs.declared.known.LayoutField.{LayoutField}
use Rattle.hd_classes.specs.Fields.{field_view}
use Rattle.hd_classes.specs.Places.{reference_places}
use Rattle.hd_classes.proofs.FieldLemmas.{first_fields, all-fields, bytes-more, bytes-within}
use Rattle.hd_classes.proofs.PlaceLemmas.{places-more}
use Rattle.hd_classes.proofs.places.push_places.Goals as goal
use Rattle.hd_classes.proofs.places.push_places.Goals.{then-is_id_type+in_ok-push, else-is_id_type}

-- a field, where it doesn't matter which
abbrev any_field : LayoutField
any_field = record { owner = 0; name = 0; code = 0 }

pub overflow_cast-at : goal.overflow_cast-at
overflow_cast-at c = let at_is = c.loop-i.invariant.at_is in omega (arith, at_is, bytes-within c.args.id_size c.args.fields.now c.loop-i.i, c.requires)

pub overflow_add-at : goal.overflow_add-at
overflow_add-at c = let at_is = c.loop-i.invariant.at_is in
    omega (arith, at_is, bytes-within c.args.id_size c.args.fields.now c.loop-i.i, c.requires, c.value_len.ensures.few, c.from-at.ensures)

pub loop-i-preserved : goal.loop-i-preserved
loop-i-preserved c =
    let old = c.args.places.now.items in
    let fields = c.args.fields.now in
    let so_far = reference_places c.args.id_size c.args.start (first_fields fields c.loop-i.i) in
    let at_is = c.loop-i.invariant.at_is in
    record {
      added = elim c.if-is_id_type.branch [
        | then-is_id_type+in_ok-push w ↦
            ap (λ v. v.items) w.places-is ∙ w.in_ok-push.ensures.items ∙ ap (λ (ps : List ℕ). ps ++ c.loop-i.at ∷ []) c.loop-i.invariant.added
            ∙ append_assoc old so_far (c.loop-i.at ∷ [])
            ∙ ap (λ (n : ℕ). old ++ (so_far ++ n ∷ [])) at_is
            ∙ ap (λ (ps : List ℕ). old ++ ps)
            (sym (places-more c.args.id_size c.args.start fields c.loop-i.i any_field c.loop-i-test.true true
            (sym c.is_id_type.ensures ∙ w.if-is_id_type.true)))
        | else-is_id_type w ↦
            ap (λ v. v.items) w.places-is ∙ c.loop-i.invariant.added
            ∙ ap (λ (ps : List ℕ). old ++ ps)
            (sym (append-nil so_far)
            ∙ sym (places-more c.args.id_size c.args.start fields c.loop-i.i any_field c.loop-i-test.true false
            (sym c.is_id_type.ensures ∙ w.if-is_id_type.false)))
      ];
      at_is = omega (arith, at_is, bytes-more c.args.id_size fields c.loop-i.i any_field c.loop-i-test.true, c.value_len.ensures.len, c.from-at.ensures);
    }
