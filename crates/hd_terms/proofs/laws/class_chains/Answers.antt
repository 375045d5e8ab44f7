use Rattle.hd_terms.proofs.Chains.{chain_found, found_is_chain, cycle_told, told_never_ends}
use Rattle.hd_terms.proofs.laws.class_chains.Goals as goal

pub returns-clause-found : goal.returns-clause-found
returns-clause-found c = chain_found

pub returns-clause-is_chain : goal.returns-clause-is_chain
returns-clause-is_chain c = found_is_chain

pub returns-clause-cycle : goal.returns-clause-cycle
returns-clause-cycle c = cycle_told

pub returns-clause-never_ends : goal.returns-clause-never_ends
returns-clause-never_ends c = told_never_ends
