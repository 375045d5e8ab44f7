use Rattle.hd_state.proofs.state.State.moved_parts.Goals as goal

pub returns-clause-outside : goal.returns-clause-outside
returns-clause-outside g c o out = rw c.in_ok-new.ensures.ok (c.in_ok-repair.ensures.outside o (λ r. rw c.in_ok-new.ensures.ok at out r))
