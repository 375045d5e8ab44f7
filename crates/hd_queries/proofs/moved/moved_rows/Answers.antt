use Rattle.std.proofs.Common.{subst}
use Rattle.hd_terms.specs.Dump.{Dump}
use Rattle.hd_terms.specs.EditedDump.{standing}
use Rattle.hd_terms.specs.Settled.{Settled}
use Rattle.hd_queries.proofs.MovedLemmas.{moved-rows}
use Rattle.hd_queries.proofs.moved.moved_rows.Goals as goal

pub returns : goal.returns
returns c =
    let dump = c.args.later.graph.now in
    let before = c.args.earlier.front.now in
    let after = c.args.later.front.now in
    let ks = c.args.earlier.strengths.now in
    let ls = c.args.later.strengths.now in
    let settled : Settled (standing dump before) ks =
    subst (λ (d : Dump). Settled (standing d before) ks) c.requires.one_dump c.requires.kept_earlier.settled in
    let counted = rw (c.compare-both.ensures.earlier, c.compare-both.ensures.later) at c.in_ok-totals.ensures in
    let totals = c.in_ok-totals.totals.items in
    moved-rows c.settled_supports_give_strengths.ensures.strengths c.one_strength.ensures dump before after ks ls settled c.requires.kept_later.settled totals
    (rw c.objects-end.ensures at counted) c.in_ok-rows.rows.items (rw c.deref.ensures.value at c.in_ok-rows.ensures)
