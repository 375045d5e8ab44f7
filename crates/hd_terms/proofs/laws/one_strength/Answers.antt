use Rattle.hd_terms.proofs.OneStrength.{one_strength}
use Rattle.hd_terms.proofs.laws.one_strength.Goals as goal

pub returns : goal.returns
returns c = one_strength
