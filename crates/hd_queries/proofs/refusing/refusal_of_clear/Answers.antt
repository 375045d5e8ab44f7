use Rattle.std.proofs.Common.{◌∙◌, sym}
use Rattle.hd_queries.proofs.RefusalLemmas.{no_referent, referent_lost, referent_there}
use Rattle.hd_queries.proofs.refusing.refusal_of_clear.Goals as goal

pub returns-in_default-referent_of : goal.returns-in_default-referent_of
returns-in_default-referent_of c =
    sym (no_referent c.args.graph.now c.args.id c.in-Some.object (sym c.index_of.ensures.first ∙ c.in-Some.is)
    (sym c.referent_of.ensures ∙ c.in_default-referent_of.is))

pub returns-in_default-slot_index : goal.returns-in_default-slot_index
returns-in_default-slot_index c =
    sym (referent_lost c.args.graph.now c.args.id c.in-Some.object (sym c.index_of.ensures.first ∙ c.in-Some.is)
    c.in-Some-referent_of.slot (sym c.referent_of.ensures ∙ c.in-Some-referent_of.is) (sym c.slot_index.ensures.first ∙ c.in_default-slot_index.is))

pub returns : goal.returns
returns c =
    let read = c.refusal_of_empty.ensures in
    read.2 ∙ sym (referent_there c.args.graph.now c.args.id c.in-Some.object (sym c.index_of.ensures.first ∙ c.in-Some.is)
    c.in-Some-referent_of.slot c.in-Some-slot_index.index read.0 (sym c.referent_of.ensures ∙ c.in-Some-referent_of.is)
    (sym c.slot_index.ensures.first ∙ c.in-Some-slot_index.is) read.1)
