use Rattle.std.proofs.Common.{◌≡◌, ◌∙◌, get_or, sym, arith, rules}
use Rattle.hd_terms.specs.declared.Slot.{Slot}
use Rattle.hd_terms.specs.declared.Slot.TheVariants as slots
use Rattle.hd_terms.specs.contracts.SlotPartialEq.TheImpl as slot_eq
use Rattle.hd_terms.specs.EditedDump.{same_slot}
use Rattle.hd_graph.proofs.ShapeLemmas.{found-among, one-more-among, none-among}
use Rattle.hd_graph.proofs.graph.index_among.Goals as goal

-- `==` says whether two slots are one
eq-same_slot : (a b : Slot) → slot_eq.ghosts.eq a b ≡ same_slot a b
eq-same_slot a b = search rules

pub returns-then-eq : goal.returns-then-eq
returns-then-eq c =
    let name = get_or c.args.names.now c.loop-i.i (slots.Field 0) in
    sym (found-among c.args.names.now c.args.slot c.loop-i.i (slots.Field 0) c.loop-i-test.true c.loop-i.invariant
    (sym (eq-same_slot name c.args.slot) ∙ sym c.eq.ensures ∙ c.if-eq.true))

pub loop-i-preserved : goal.loop-i-preserved
loop-i-preserved c =
    let name = get_or c.args.names.now c.loop-i.i (slots.Field 0) in
    one-more-among c.args.names.now c.args.slot c.loop-i.i (slots.Field 0) c.loop-i-test.true c.loop-i.invariant
    (sym (eq-same_slot name c.args.slot) ∙ sym c.eq.ensures ∙ c.if-eq.false)

pub returns : goal.returns
returns c = none-among c.args.names.now c.args.slot (omega (arith, c.loop-i.invariant))
