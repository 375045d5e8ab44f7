use Rattle.std.proofs.Common.{◌∙◌, sym, ap}
use Rattle.std.specs.Option.{option_and_then}
use Rattle.hd_terms.specs.Classes.{ResolvedClass}
use Rattle.hd_classes.specs.Known.{Known, referent_at}
use Rattle.hd_classes.proofs.LookLemmas.{referent-of, none-known}
use Rattle.hd_classes.proofs.classes.Classes.referent.Goals as goal

pub returns-in-Some : goal.returns-in-Some
returns-in-Some c = referent-of c.self.inside.known.entries c.args.id _ c.in-Some.ensures.value ∙ ap (λ (k : Known). referent_at k c.args.id) c.self.view_is

pub returns-in-None : goal.returns-in-None
returns-in-None c =
    sym (ap (option_and_then (λ (x : ResolvedClass). x.referent)) (none-known c.self.inside.known.entries c.args.id c.in-None.ensures.value))
    ∙ ap (λ (k : Known). referent_at k c.args.id) c.self.view_is
