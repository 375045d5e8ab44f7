use Rattle.hd_state.proofs.NextLemmas.{changes_done, changes_back}
use Rattle.hd_state.proofs.parts.moved_removed.Goals as goal

pub returns-then-moved : goal.returns-then-moved
returns-then-moved c before after is changes =
    c.in_ok-more.ensures before after is (changes_done before after c.args.moved.edit c.args.moved.done c.if-moved.true changes)

pub returns : goal.returns
returns c before after is changes =
    c.in_ok-fewer.ensures before after is (changes_back before after c.args.moved.edit c.args.moved.done c.if-moved.false changes)
