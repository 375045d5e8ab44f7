use Rattle.std.proofs.Common.{◌∙◌, ◌<◌, List, [], ◌++◌, length, Option, sym, ap, arith, append-nil}
use Rattle.std.specs.List.{cons_option}
use Rattle.hd_terms.specs.declared.RootRow.{RootRow}
use Rattle.hd_queries.proofs.RootLemmas.{event-pushed, all-rows}
use Rattle.hd_queries.proofs.roots.root_rows.Goals as goal
use Rattle.hd_queries.proofs.roots.root_rows.Goals.{in-Some+in_ok-push, in_default}

pub loop-k-preserved : goal.loop-k-preserved
loop-k-preserved c =
    let dump = c.args.edited.graph.now in
    let log = c.args.edited.front.now in
    let k = c.loop-k.k in
    let lt : k < length log = omega (arith, c.len-k-end.ensures.len, c.loop-k-test.true) in
    let rows : List RootRow = c.loop-k.rows.items in
    let more = event-pushed dump log k c.added_row.result rows c.match-added_row.rows.items lt c.added_row.ensures c.loop-k.invariant in
    elim c.match-added_row.branch [
      | in-Some+in_ok-push w ↦
          more (ap (λ v. v.items) w.rows-is ∙ w.in_ok-push.ensures.items ∙ ap (λ (o : Option RootRow). rows ++ cons_option o []) (sym w.in-Some.is))
      | in_default w ↦ more (ap (λ v. v.items) w.rows-is ∙ sym (append-nil rows) ∙ ap (λ (o : Option RootRow). rows ++ cons_option o []) (sym w.in_default.is))
    ]

pub returns : goal.returns
returns c = c.loop-k.invariant ∙ all-rows c.args.edited.graph.now c.args.edited.front.now c.loop-k.k
    (omega (arith, c.len-k-end.ensures.len, c.loop-k-test.false))
