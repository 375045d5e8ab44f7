use Rattle.std.proofs.Common.{◌∙◌, Some, List, sym, ap}
use Rattle.std.specs.Option.{option_map}
use Rattle.hd_terms.specs.Dump.{NamedField, NamedClass}
use Rattle.hd_names.specs.Named.{class_in}
use Rattle.hd_names.specs.Tables.{layout_in}
use Rattle.hd_names.proofs.NamedLemmas.{fields-found, none-found}
use Rattle.hd_names.proofs.named_classes.NamedClasses.fields.Goals as goal

pub returns-in-Some : goal.returns-in-Some
returns-in-Some c =
    let a = c.self.inside in
    ap (λ (cs : List NamedClass). option_map (λ (x : NamedClass). x.fields) (class_in cs c.args.class)) (sym c.self.view_is)
    ∙ fields-found a.table c.args.class a.firsts.entries a.statics c.self.invariant.statics
    ∙ ap (option_map (layout_in a.table)) (sym c.in-Some.ensures.value)
    ∙ ap (λ (fs : List NamedField). Some fs) (sym c.new.ensures)

pub returns-in-None : goal.returns-in-None
returns-in-None c =
    let a = c.self.inside in
    ap (λ (cs : List NamedClass). class_in cs c.args.class) (sym c.self.view_is)
    ∙ none-found a.table c.args.class a.firsts.entries a.statics c.self.invariant.statics (sym c.in-None.ensures.value)
