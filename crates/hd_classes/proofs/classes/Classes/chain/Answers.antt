use Rattle.std.proofs.Common.{◌∙◌, Some, sym, ap}
use Rattle.std.specs.Option.{option_map}
use Rattle.hd_terms.specs.Classes.{ResolvedClass}
use Rattle.hd_classes.specs.Known.{Known, chain_at}
use Rattle.hd_classes.proofs.NameLemmas.{none-from_is_some}
use Rattle.hd_classes.proofs.LookLemmas.{known-number, none-known}
use Rattle.hd_classes.proofs.classes.Classes.chain.Goals as goal

pub returns-in-Some : goal.returns-in-Some
returns-in-Some c =
    ap (λ (k : Known). chain_at k c.args.id) (sym c.self.view_is)
    ∙ ap (option_map (λ (x : ResolvedClass). x.chain))
    (known-number c.self.inside.known.entries c.args.id c.in-Some.i c.in-Some.ensures.index c.in-Some.ensures.within)
    ∙ ap Some (sym c.new.ensures)

pub returns-in-None : goal.returns-in-None
returns-in-None c =
    ap (λ (k : Known). chain_at k c.args.id) (sym c.self.view_is)
    ∙ ap (option_map (λ (x : ResolvedClass). x.chain))
    (none-known c.self.inside.known.entries c.args.id (sym (none-from_is_some _ (sym c.in-None.ensures.found))))
