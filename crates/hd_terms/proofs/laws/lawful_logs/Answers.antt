use Rattle.hd_terms.proofs.LawfulLogs.{empty_lawful, takes, refuses}
use Rattle.hd_terms.proofs.laws.lawful_logs.Goals as goal

pub returns-clause-none : goal.returns-clause-none
returns-clause-none c = empty_lawful

pub returns-clause-takes : goal.returns-clause-takes
returns-clause-takes c = takes

pub returns-clause-refuses : goal.returns-clause-refuses
returns-clause-refuses c = refuses
