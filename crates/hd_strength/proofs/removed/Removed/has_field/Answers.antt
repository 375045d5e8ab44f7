use Rattle.std.proofs.Common.{◌≡◌, ◌∙◌, ℕ, nat_eq, Option, Some, false, ap, sym}
use Rattle.std.specs.List.{list_any}
use Rattle.std.specs.Option.{option_map_or}
use Rattle.hd_terms.specs.declared.Group.{Group}
use Rattle.hd_terms.specs.Dump.{Object, object_at}
use Rattle.hd_strength.specs.Removed.{Removals, field_of, has_field, has_pair}
use Rattle.hd_strength.proofs.RemovedLemmas.{slot_found}
use Rattle.hd_strength.proofs.removed.Removed.has_field.Goals as goal

pub returns-in-Some : goal.returns-in-Some
returns-in-Some c s at =
    let keys = c.self.inside.fields in
    let x : Object = object_at c.args.graph.now c.args.o in
    let class = c.in-Some.class in
    let field = c.in-Some.field in
    let named : field_of x.group s.slot ≡ Some (class, field) =
    ap (λ (g : Group). field_of g s.slot) (sym c.group_of.ensures) ∙ ap (field_of c.group_of.result) (sym (c.slot_name-slot.ensures.slot s at))
    ∙ sym c.field_of.ensures ∙ c.in-Some.is in
    let found : c.contains.result ≡ has_pair keys class field = slot_found keys class field c.contains.result c.pair_key.ensures.small
    (c.contains.ensures ∙ ap (λ (k : ℕ). list_any (nat_eq k) keys) c.pair_key.ensures.key) in
    found
    ∙ sym (ap (λ (m : Option (ℕ × ℕ)). option_map_or (λ (p : ℕ × ℕ). has_pair keys p.0 p.1) m false) named)
    ∙ ap (λ (t : Removals). has_field t.fields x.group s.slot) c.self.view_is
