use Rattle.std.proofs.Common.{◌∙◌, map, ap, sym, arith}
use Rattle.std.proofs.lemmas.List.{take_all}
use Rattle.hd_subs.specs.declared.class.Field.{Field}
use Rattle.hd_subs.specs.Views as subs
use Rattle.hd_classes.proofs.SearchLemmas.{map-twice}
use Rattle.hd_classes.proofs.linking.own_fields.Goals as goal

pub returns : goal.returns
returns c =
    c.loop-field.invariant
    ∙ ap (map (λ (f : Field). record { owner = c.args.class.now.id; name = f.name; code = f.code }))
    (take_all c.loop-field.field-index c.deref-field-items.result.now (omega arith) ∙ c.deref-field-items.ensures.value)
    ∙ sym (map-twice subs.field_view _ c.args.class.now.fields.items)
