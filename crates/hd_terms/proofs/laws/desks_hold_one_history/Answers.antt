use Rattle.hd_terms.proofs.Schedules.{kept_after, one_history, lawful_fork}
use Rattle.hd_terms.proofs.laws.desks_hold_one_history.Goals as goal

pub returns-clause-history : goal.returns-clause-history
returns-clause-history c = λ board s r. one_history board s (kept_after board s r)

pub returns-clause-forks : goal.returns-clause-forks
returns-clause-forks c = λ board s r law a _. lawful_fork board s (kept_after board s r) law a
