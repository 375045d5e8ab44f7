use Rattle.std.proofs.Common.{◌∙◌, [], sym}
use Rattle.std.proofs.lemmas.List.{append-nil}
use Rattle.hd_board.proofs.desk.Desk.begin.Goals as goal

pub invariant_of-result : goal.invariant_of-result
invariant_of-result c = ([], c.in_ok-seen.ensures ∙ (c.front.ensures ∙ sym (append-nil c.args.state.log)))
