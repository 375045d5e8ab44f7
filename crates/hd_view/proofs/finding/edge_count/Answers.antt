use Rattle.std.proofs.Common.{◌≡◌, ◌∙◌, ◌+◌, ◌<◌, ℕ, length, is_some, sym, ap, arith}
use Rattle.hd_terms.specs.Dump.{SlotEntry, object_at}
use Rattle.hd_reverse.proofs.SlotLemmas.{entry_at, entry_there}
use Rattle.hd_view.specs.Finding.{is_edge}
use Rattle.hd_view.proofs.OutLemmas.{edges_more, edges_kept, edges_le, edges_all}
use Rattle.hd_view.proofs.finding.edge_count.Goals as goal
use Rattle.hd_view.proofs.finding.edge_count.Goals.{then-is_some, else-is_some}

pub overflow_add-edges : goal.overflow_add-edges
overflow_add-edges c = omega
    (arith, c.loop-i.invariant, edges_le c.args.graph.now c.args.o c.loop-i.i (omega (arith, c.loop-i-test.true, c.slots_len-i-end.ensures)))

pub loop-i-preserved : goal.loop-i-preserved
loop-i-preserved c =
    let dump = c.args.graph.now in
    let o = c.args.o in
    let i = c.loop-i.i in
    let lt : i < length (object_at dump o).slots = omega (arith, c.loop-i-test.true, c.slots_len-i-end.ensures) in
    let s : SlotEntry = entry_at dump o i in
    let there = entry_there dump o i lt in
    let edge : c.is_some.result ≡ is_edge dump s = c.is_some.ensures ∙ ap is_some (c.get.ensures ∙ c.targets-targets.ensures.each i s there) in
    elim c.if-is_some.branch [
      | then-is_some w ↦ w.edges-is ∙ ap (λ (n : ℕ). n + 1) c.loop-i.invariant ∙ sym (edges_more dump o i s there (sym edge ∙ w.if-is_some.true))
      | else-is_some w ↦ w.edges-is ∙ c.loop-i.invariant ∙ sym (edges_kept dump o i s there (sym edge ∙ w.if-is_some.false))
    ]

pub returns : goal.returns
returns c = c.loop-i.invariant ∙ edges_all c.args.graph.now c.args.o c.loop-i.i (omega (arith, c.loop-i-test.false, c.slots_len-i-end.ensures))
