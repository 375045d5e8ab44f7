use Rattle.std.proofs.Common.{◌∙◌, ℕ, nat_eq, ap}
use Rattle.std.specs.List.{list_any}
use Rattle.hd_strength.specs.Removed.{Removals, is_root_removed}
use Rattle.hd_strength.proofs.RemovedLemmas.{root_found}
use Rattle.hd_strength.proofs.removed.Removed.root.Goals as goal

pub returns : goal.returns
returns c =
    root_found c.self.inside.roots c.args.r c.contains.result
    (c.contains.ensures ∙ ap (λ (n : ℕ). list_any (nat_eq n) c.self.inside.roots) c.from.ensures)
    ∙ ap (λ (t : Removals). is_root_removed t c.args.r) c.self.view_is
