use Rattle.std.proofs.Common.{◌∙◌, false, map, ap}
use Rattle.hd_strength.specs.Found.{strength_of}
use Rattle.hd_strength.proofs.FoundLemmas.{strengths-seen}
use Rattle.hd_strength.proofs.scratch.strengths_alone.Goals as goal

pub returns-clause-settled : goal.returns-clause-settled
returns-clause-settled g c =
    let h = c.in_ok-parts.ensures in
    record {
      kept = h.kept;
      settled = h.holds.settled;
      same = c.in_ok-strengths.ensures ∙ ap (map strength_of) h.found ∙ strengths-seen false h.kept;
    }
