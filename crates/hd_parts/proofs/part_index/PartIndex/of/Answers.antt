use Rattle.std.proofs.Common.{◌∙◌, ap}
use Rattle.hd_parts.specs.Parts.{lens_between}
use Rattle.hd_parts.proofs.FirstLemmas.{lens-of-firsts, index-made}
use Rattle.hd_parts.proofs.part_index.PartIndex.of.Goals as goal

pub invariant_of-result : goal.invariant_of-result
invariant_of-result c = index-made c.args.lens.now _ _ c.in_ok-firsts.ensures c.in_ok-at.ensures

pub returns : goal.returns
returns c = ap lens_between c.in_ok-firsts.ensures ∙ lens-of-firsts c.args.lens.now
