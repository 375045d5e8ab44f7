-- What is counted is what changed from living to unreachable (`falls_from`), and by settled supports that decides `Falls`.
-- The rows are the same groups, ranked.
use Rattle.std.proofs.Common.{length, map, subst}
use Rattle.hd_terms.specs.Dump.{Dump}
use Rattle.hd_terms.specs.EditedDump.{standing}
use Rattle.hd_terms.specs.Fell.{Falls}
use Rattle.hd_terms.specs.Settled.{Settled}
use Rattle.hd_terms.specs.Totals.{Decides}
use Rattle.hd_totals.specs.Counting.{totals_of}
use Rattle.hd_totals.specs.Fallen.{falls_from}
use Rattle.hd_totals.specs.Rows.{row_key}
use Rattle.hd_totals.proofs.TopLemmas.{rising-distinct}
use Rattle.hd_queries.specs.Freed.{AreFreedBetween}
use Rattle.hd_queries.proofs.FallenLemmas.{decides-falls}
use Rattle.hd_queries.proofs.FreedLemmas.{freed-rows, freed-total}
use Rattle.hd_queries.proofs.freed.freed_rows.Goals as goal
use Rattle.hd_queries.proofs.freed.freed_rows.Goals.{After-drop-totals-2}

-- the part is of all objects
counted : (c : After-drop-totals-2) → AreFreedBetween c.args.later.graph.now (falls_from c.args.earlier.strengths.now c.args.later.strengths.now) 0
    (length c.args.later.graph.now.objects) c.in_ok-part.part.total (totals_of c.in_ok-part.part.groups)
counted c = rw c.objects-end.ensures at (rw (c.compare-both.ensures.earlier, c.compare-both.ensures.later) at c.in_ok-part.ensures)

decides : (c : After-drop-totals-2) → Decides c.args.later.graph.now (Falls c.args.later.graph.now c.args.earlier.front.now c.args.later.front.now)
    (falls_from c.args.earlier.strengths.now c.args.later.strengths.now)
decides c =
    let dump = c.args.later.graph.now in
    let before = c.args.earlier.front.now in
    let ks = c.args.earlier.strengths.now in
    let settled : Settled (standing dump before) ks =
    subst (λ (d : Dump). Settled (standing d before) ks) c.requires.one_dump c.requires.kept_earlier.settled in
    decides-falls c.settled_supports_give_strengths.ensures.strengths c.one_strength.ensures dump before c.args.later.front.now ks c.args.later.strengths.now
    settled c.requires.kept_later.settled

pub ranked-rows-requires : goal.ranked-rows-requires
ranked-rows-requires c = rising-distinct (map row_key c.in_ok-rows.rows.items) c.in_ok-rows.ensures.rows.in_order

pub returns-clause-total : goal.returns-clause-total
returns-clause-total c =
    let dump = c.args.later.graph.now in
    freed-total dump (falls_from c.args.earlier.strengths.now c.args.later.strengths.now) (Falls dump c.args.earlier.front.now c.args.later.front.now)
    (decides c) c.in_ok-part.part.total (totals_of c.in_ok-part.part.groups) (counted c)

pub returns-clause-rows : goal.returns-clause-rows
returns-clause-rows c =
    let dump = c.args.later.graph.now in
    freed-rows dump (falls_from c.args.earlier.strengths.now c.args.later.strengths.now) (Falls dump c.args.earlier.front.now c.args.later.front.now)
    (decides c) c.in_ok-part.part.total (totals_of c.in_ok-part.part.groups) (counted c)
    c.in_ok-rows.rows.items c.ranked-rows.result.items
    (rw c.in_ok-totals.ensures at c.in_ok-rows.ensures.rows) c.ranked-rows.ensures.same c.ranked-rows.ensures.ranked
