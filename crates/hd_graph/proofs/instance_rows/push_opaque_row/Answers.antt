use Rattle.std.proofs.Common.{[], ap, sym, arith, add-zero, ◌∙◌, ◌++◌, List, ℕ}
use Rattle.std.proofs.lemmas.List.{append-nil}
use Rattle.hd_graph.proofs.AddedLemmas.{instance-added}
use Rattle.hd_graph.proofs.instance_rows.push_opaque_row.Goals as goal

pub returns : goal.returns
returns c =
    let t = c.args.slot_table.now in
    instance-added [] c.args.class 1 t t c.push.new.self c.end_row.new.self
    c.requires.filled
    (ap (λ (f : List ℕ). record t { filling = f; count = t.count }) (sym (append-nil t.filling))
    ∙ ap (λ (n : ℕ). record t { filling = t.filling ++ []; count = n }) (sym (add-zero t.count)))
    c.in_ok-push.ensures c.in_ok-end_row.ensures (omega arith)
