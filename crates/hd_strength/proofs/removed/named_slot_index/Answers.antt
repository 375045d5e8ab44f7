use Rattle.hd_terms.specs.Dump.{object_at}
use Rattle.hd_strength.proofs.RemovedLemmas.{some_named_slot}
use Rattle.hd_strength.proofs.removed.named_slot_index.Goals as goal

pub returns : goal.returns
returns c =
    let slots = (object_at c.args.graph.now c.args.o).slots in
    rw c.in_ok-name.was (some_named_slot slots c.in_ok-name.field-0 c.args.o c.slot_index.result c.slot_index.ensures.first c.slot_index.ensures.only
    c.in_ok-index.index c.in_ok-index.was)
