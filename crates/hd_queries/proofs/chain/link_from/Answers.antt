use Rattle.hd_terms.specs.Dump.{SlotEntry}
use Rattle.hd_queries.proofs.ChainLemmas.{is-link, found-there}
use Rattle.hd_queries.proofs.chain.link_from.Goals as goal

pub returns-in-Some : goal.returns-in-Some
returns-in-Some c = λ log e stands is.
    let s : SlotEntry = record { slot = c.slots.result.slot; kind = c.slots.result.kind; id = c.slots.result.id } in
    is-link c.args.graph.now log e stands c.args.source c.args.slot c.args.target is c.slot_index.result c.slot_index.ensures.only c.in-Some.i s c.in-Some.is
    c.slots.ensures.entry

pub returns-in-None : goal.returns-in-None
returns-in-None c = λ log e stands is.
    let there = found-there c.args.graph.now log e stands c.args.source c.args.slot c.args.target is c.slot_index.result c.slot_index.ensures.only in
    let none = c.in-None.is in
    absurd (cc (there, none))
