use Rattle.std.proofs.Common.{◌≡◌, ◌∙◌, ◌+◌, ◌<◌, ℕ, length, is_some, sym, ap, arith}
use Rattle.hd_terms.specs.Dump.{SlotEntry, object_at}
use Rattle.hd_reverse.proofs.SlotLemmas.{entry_at, entry_there}
use Rattle.hd_view.specs.Finding.{is_edge}
use Rattle.hd_view.proofs.OutLemmas.{edges_more, edges_kept}
use Rattle.hd_view.proofs.finding.edge_slot.Goals as goal
use Rattle.hd_view.proofs.finding.edge_slot.Goals.{then-is_some+else-edges-edge, else-is_some}

pub loop-slot-preserved : goal.loop-slot-preserved
loop-slot-preserved c =
    let dump = c.args.graph.now in
    let o = c.args.o in
    let i = c.loop-slot.slot in
    let lt : i < length (object_at dump o).slots = omega (arith, c.loop-slot-test.true, c.slots_len-slot-end.ensures) in
    let s : SlotEntry = entry_at dump o i in
    let there = entry_there dump o i lt in
    let edge : c.is_some.result ≡ is_edge dump s = c.is_some.ensures ∙ ap is_some (c.get.ensures ∙ c.targets-targets.ensures.each i s there) in
    elim c.if-is_some.branch [
      | then-is_some+else-edges-edge w ↦ record {
        within = omega arith;
        before = w.edges-is ∙ ap (λ (n : ℕ). n + 1) c.loop-slot.invariant.before ∙ sym (edges_more dump o i s there (sym edge ∙ w.if-is_some.true));
        upto = omega (arith, w.edges-is, c.loop-slot.invariant.upto, w.if-edges-edge.false);
      }
      | else-is_some w ↦ record {
        within = omega arith;
        before = w.edges-is ∙ c.loop-slot.invariant.before ∙ sym (edges_kept dump o i s there (sym edge ∙ w.if-is_some.false));
        upto = omega (arith, w.edges-is, c.loop-slot.invariant.upto);
      }
    ]
