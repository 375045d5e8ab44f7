use Rattle.std.proofs.Common.{◌∙◌, ℕ, ap}
use Rattle.hd_strength.specs.Removed.{pair_key}
use Rattle.hd_strength.proofs.RemovedLemmas.{edited_key}
use Rattle.hd_strength.proofs.removed.edited_key.Goals as goal

pub returns : goal.returns
returns c =
    edited_key c.args.graph.now c.args.edit c.edited_slot.result c.edited_slot.ensures c.in_ok-o.o c.in_ok-o.index c.pair_key.result c.in_ok-o.was
    c.pair_key.ensures.small (c.pair_key.ensures.key ∙ ap (λ (n : ℕ). pair_key n c.in_ok-o.index) c.from.ensures)
