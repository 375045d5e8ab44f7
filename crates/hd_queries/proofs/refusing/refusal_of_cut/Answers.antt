use Rattle.std.proofs.Common.{◌∙◌, sym}
use Rattle.hd_queries.proofs.RefusalLemmas.{not_there, not_cuttable, cuttable}
use Rattle.hd_queries.proofs.refusing.refusal_of_cut.Goals as goal

pub returns-in_default-slot_index : goal.returns-in_default-slot_index
returns-in_default-slot_index c =
    sym (not_there c.args.graph.now c.args.slot c.args.id c.in-Some.object (sym c.index_of.ensures.first ∙ c.in-Some.is)
    (sym c.slot_index.ensures.first ∙ c.in_default-slot_index.is))

pub returns-then-not-is_cuttable : goal.returns-then-not-is_cuttable
returns-then-not-is_cuttable c =
    let read = c.refusal_of_empty-refusal.ensures in
    sym (not_cuttable c.args.graph.now c.args.slot c.args.id c.in-Some.object (sym c.index_of.ensures.first ∙ c.in-Some.is)
    c.in-Some-slot_index.index read.0 (sym c.slot_index.ensures.first ∙ c.in-Some-slot_index.is) read.1 (sym c.is_cuttable.ensures ∙ c.if-not-is_cuttable.true))

pub returns : goal.returns
returns c =
    let read = c.refusal_of_empty-refusal.ensures in
    read.2 ∙ sym (cuttable c.args.graph.now c.args.slot c.args.id c.in-Some.object (sym c.index_of.ensures.first ∙ c.in-Some.is)
    c.in-Some-slot_index.index read.0 (sym c.slot_index.ensures.first ∙ c.in-Some-slot_index.is) read.1
    (sym c.is_cuttable.ensures ∙ c.if-not-is_cuttable.false))
