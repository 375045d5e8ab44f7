use Rattle.std.proofs.Common.{◌∙◌, Option, sym, ap}
use Rattle.std.specs.Option.{option_map_or}
use Rattle.hd_terms.specs.declared.EdgeKind.TheVariants as kinds
use Rattle.hd_terms.specs.Classes.{ResolvedClass}
use Rattle.hd_classes.specs.Known.{Known, kind_at}
use Rattle.hd_classes.proofs.LookLemmas.{kind-of, none-known}
use Rattle.hd_classes.proofs.classes.Classes.kind_of.Goals as goal

pub returns-in-Some : goal.returns-in-Some
returns-in-Some c = kind-of c.self.inside.known.entries c.args.id _ c.in-Some.ensures.value ∙ ap (λ (k : Known). kind_at k c.args.id) c.self.view_is

pub returns-in-None : goal.returns-in-None
returns-in-None c =
    sym (ap (λ (o : Option ResolvedClass). option_map_or (λ (x : ResolvedClass). x.kind) o kinds.Strong)
    (none-known c.self.inside.known.entries c.args.id c.in-None.ensures.value))
    ∙ ap (λ (k : Known). kind_at k c.args.id) c.self.view_is
