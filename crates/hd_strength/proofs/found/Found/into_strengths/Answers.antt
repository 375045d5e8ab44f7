use Rattle.std.proofs.Common.{◌∙◌, map, ap}
use Rattle.hd_strength.specs.Found.{Findings, strength_of}
use Rattle.hd_strength.proofs.FoundLemmas.{list-strengths}
use Rattle.hd_strength.proofs.found.Found.into_strengths.Goals as goal

pub returns : goal.returns
returns c =
    list-strengths c.self.inside.whole c.self.inside.strengths.items c.self.inside.kept.items c.self.invariant
    ∙ ap (λ (f : Findings). map strength_of f.list) c.self.view_is
