use Rattle.hd_terms.proofs.Schedules.{kept_after, one_history, never_foreign, never_apart, closes}
use Rattle.hd_terms.proofs.laws.no_desk_is_foreign.Goals as goal

pub returns-clause-found : goal.returns-clause-found
returns-clause-found c = λ board s r. never_foreign board s (kept_after board s r)

pub returns-clause-told : goal.returns-clause-told
returns-clause-told c = λ board s r a told _. never_apart board s (kept_after board s r) a told

pub returns-clause-learned : goal.returns-clause-learned
returns-clause-learned c = λ board s r a b _ member. never_apart board s (kept_after board s r) a (s.desk b).seen
    ((one_history board s (kept_after board s r)).seen b member).begins

pub returns-clause-closed : goal.returns-clause-closed
returns-clause-closed c = λ board s r. closes board s (kept_after board s r)
