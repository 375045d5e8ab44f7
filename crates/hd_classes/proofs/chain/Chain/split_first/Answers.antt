use Rattle.std.proofs.Common.{◌∙◌, ℕ, List, ◌∷◌, Option, sym, ap}
use Rattle.hd_terms.specs.Classes.{ResolvedClass}
use Rattle.hd_classes.specs.Links.{numbered, views}
use Rattle.hd_classes.proofs.LinkLemmas.{chain-here, none-past}
use Rattle.hd_classes.proofs.chain.Chain.split_first.Goals as goal

pub returns-in-Some-get_index : goal.returns-in-Some-get_index
returns-in-Some-get_index c =
    let rows = c.self.inside.classes.now.entries in
    sym c.self.view_is
    ∙ ap (λ (n : Option ℕ). (numbered (views rows) n).chain) c.in-Some.is
    ∙ chain-here rows c.self.invariant c.in-Some.number _ (sym c.in-Some-get_index.ensures.entry)
    ∙ ap (λ (ids : List ℕ). c.in-Some-get_index.id.now ∷ ids) (sym c.new.ensures)

pub returns-in-None-get_index : goal.returns-in-None-get_index
returns-in-None-get_index c =
    let rows = c.self.inside.classes.now.entries in
    sym c.self.view_is
    ∙ ap (λ (n : Option ℕ). (numbered (views rows) n).chain) c.in-Some.is
    ∙ ap (λ (k : ResolvedClass). k.chain) (none-past rows c.in-Some.number c.in-None-get_index.ensures.entry)
