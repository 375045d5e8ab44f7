use Rattle.std.proofs.Common.{Bool, subst}
use Rattle.hd_strength.specs.Parts.{HaveFound}
use Rattle.hd_strength.proofs.scratch.find.Goals as goal

pub returns : goal.returns
returns g c =
    subst (λ (whole : Bool). HaveFound c.args.edited.graph.now c.args.edited.front.now whole c.in_ok-found.found.parts.items) c.in_ok-search.ensures.whole
    c.in_ok-found.ensures
