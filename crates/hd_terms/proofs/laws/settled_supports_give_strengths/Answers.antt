use Rattle.hd_terms.proofs.Upper.{greatest}
use Rattle.hd_terms.proofs.Lower.{found}
use Rattle.hd_terms.proofs.laws.settled_supports_give_strengths.Goals as goal

pub returns-clause-strengths : goal.returns-clause-strengths
returns-clause-strengths c = λ g ks settled o. record {
  found = λ reached. let f = found g ks settled o reached in (f.0, f.1, f.2.path, f.2.strength);
  greatest = greatest g ks settled o;
}

pub returns-clause-chains : goal.returns-clause-chains
returns-clause-chains c = found
