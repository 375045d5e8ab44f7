use Rattle.std.proofs.Common.{◌∙◌, List, length, sym, ap}
use Rattle.hd_terms.specs.Dump.{NamedClass}
use Rattle.hd_names.proofs.NamedLemmas.{named-length}
use Rattle.hd_names.proofs.named_classes.NamedClasses.len.Goals as goal

pub returns : goal.returns
returns c =
    let a = c.self.inside in
    c.len.ensures.len ∙ sym (named-length a.table a.firsts.entries a.statics c.self.invariant.statics)
    ∙ ap (λ (cs : List NamedClass). length cs) c.self.view_is
