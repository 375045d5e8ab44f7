use Rattle.hd_laws.proofs.OneSession.{alike_runs, same_runs}
use Rattle.hd_laws.proofs.laws.one_run.Goals as goal

pub returns-clause-alike : goal.returns-clause-alike
returns-clause-alike c = alike_runs

pub returns-clause-same : goal.returns-clause-same
returns-clause-same c = same_runs
