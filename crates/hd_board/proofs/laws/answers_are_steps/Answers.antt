use Rattle.std.proofs.Common.{ℕ, [], ◌∷◌, refl, sym, ap}
use Rattle.hd_terms.specs.Schedule.{Board}
use Rattle.hd_terms.proofs.Schedules.{kept_after, one_history}
use Rattle.hd_board.proofs.laws.answers_are_steps.Goals as goal

pub returns-clause-appends : goal.returns-clause-appends
returns-clause-appends c = λ board s event t. (t.found.member, t.accepts, refl)

pub returns-clause-looks : goal.returns-clause-looks
returns-clause-looks c = λ board s who f. (f.member, refl)

pub returns-clause-learns : goal.returns-clause-learns
returns-clause-learns c = λ board s a b mine theirs longer. (mine, theirs, longer, refl)

pub returns-clause-catches : goal.returns-clause-catches
returns-clause-catches c = λ board s a event member is. (member, event, is, refl)

pub returns-clause-forks : goal.returns-clause-forks
returns-clause-forks c = λ board s a dump roots. ap (λ (n : ℕ). let b : Board = record { roots = n; base = (s.desk a).front; numbers = a ∷ [] } in b)
    (sym roots)

pub returns-clause-finds : goal.returns-clause-finds
returns-clause-finds c = λ board s r a member. record { member = member; continues = (one_history board s (kept_after board s r)).seen a member }

pub returns-clause-takes : goal.returns-clause-takes
returns-clause-takes c = λ board s r event member none. record {
  found = record { member = member; continues = (one_history board s (kept_after board s r)).seen event.who member };
  accepts = none;
}
