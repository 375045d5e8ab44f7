use Rattle.std.proofs.Common.{◌≡◌, map, take}
use Rattle.hd_subs.specs.declared.class.Field.{Field}
use Rattle.hd_classes.specs.Known.{field_view}
use Rattle.hd_classes.proofs.linking.own_fields.Given as goal

-- the fields so far
abbrev pub invariant-loop-field : goal.invariant-loop-field
invariant-loop-field l =
    map field_view l.fields.items ≡ map (λ (f : Field). record { owner = l.class.id; name = f.name; code = f.code }) (take l.field-index l.field-items)
