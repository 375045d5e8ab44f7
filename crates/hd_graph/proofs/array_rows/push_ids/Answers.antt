use Rattle.std.proofs.Common.{◌∙◌, ℕ, ◌+◌, sym, subst}
use Rattle.hd_graph.proofs.RowLemmas.{AreIdsPushed, id-pushed}
use Rattle.hd_graph.proofs.array_rows.push_ids.Goals as goal

pub loop-i-preserved : goal.loop-i-preserved
loop-i-preserved c =
    let first = c.args.slot_table.now in
    subst (λ (n : ℕ). AreIdsPushed first c.args.start c.args.count (c.loop-i.i + 1) c.push.new.self (c.loop-i.offset + n))
    (sym (c.from-id_len.ensures ∙ c.id_len.ensures.len))
    (id-pushed first c.args.start c.args.count c.loop-i.i c.loop-i.slot_table c.loop-i.offset c.loop-i.invariant c.push.new.self c.loop-i-test.true
    c.in_ok-push.ensures)
