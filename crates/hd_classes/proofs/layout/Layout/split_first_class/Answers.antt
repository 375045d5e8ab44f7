use Rattle.std.proofs.Common.{◌≡◌, ◌∙◌, ℕ, ◌<◌, List, ◌++◌, map, length, Some, Option, sym, ap, subst}
use Rattle.hd_terms.specs.Classes.{LayoutField}
use Rattle.hd_classes.specs.declared.known.LayoutField as declared_field
use Rattle.hd_classes.specs.Fields.{field_view}
use Rattle.hd_classes.specs.Links.{numbered, views, Declares}
use Rattle.hd_classes.proofs.LinkLemmas.{layout-here, fields-here, rest-shorter}
use Rattle.hd_classes.proofs.layout.Layout.split_first_class.Goals as goal

pub new-requires-clause-declares : goal.new-requires-clause-declares
new-requires-clause-declares c = (c.self.invariant.linked c.in-Some.number _ (sym c.in-Some-get_index.ensures.entry)).declares

pub returns-in-Some-get_index : goal.returns-in-Some-get_index
returns-in-Some-get_index c =
    let rows = c.self.inside.classes.now.entries in
    let own = c.as_slice.result.now in
    let at = sym c.in-Some-get_index.ensures.entry in
    let whole : c.args.self ≡ map field_view own ++ c.new.result =
    sym c.self.view_is
    ∙ ap (λ (n : Option ℕ). (numbered (views rows) n).layout) c.in-Some.is
    ∙ layout-here rows c.self.invariant.linked c.in-Some.number _ at
    ∙ ap (λ (fs : List declared_field.LayoutField). map field_view fs ++ (numbered (views rows) c.in-Some-get_index.class.now.fields_above).layout)
    (sym c.as_slice.ensures.value)
    ∙ ap (λ (fs : List LayoutField). map field_view own ++ fs) (sym c.new.ensures) in
    let declares : Declares rows (Some c.in-Some.number) = subst (λ (n : Option ℕ). Declares rows n) c.in-Some.is c.self.invariant.declares in
    let some : 0 < length own = subst (λ (fs : List declared_field.LayoutField). 0 < length fs) (fields-here rows c.self.invariant.linked c.in-Some.number _ at
    ∙ sym c.as_slice.ensures.value) declares in
    (whole, rest-shorter own c.new.result c.args.self whole some)
