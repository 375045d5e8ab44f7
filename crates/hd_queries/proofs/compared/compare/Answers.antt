use Rattle.std.proofs.Common.{subst}
use Rattle.hd_terms.specs.Dump.{Dump}
use Rattle.hd_totals.specs.LastChanges.{AreLastChanges}
use Rattle.hd_totals.proofs.LastChangeLemmas.{same-since}
use Rattle.hd_queries.proofs.compared.compare.Goals as goal

pub returns-clause-same : goal.returns-clause-same
returns-clause-same c o quiet =
    let dump = c.args.later.graph.now in
    let before = c.args.earlier.front.now in
    let ks = c.args.earlier.strengths.now in
    let was = c.args.earlier.last_changes.now in
    let are : AreLastChanges dump before ks was = subst (λ (d : Dump). AreLastChanges d before ks was) c.requires.one_dump c.requires.changes_earlier in
    let common = c.common_events-common.ensures in
    same-since c.one_strength.ensures dump before c.args.later.front.now ks c.args.later.strengths.now was c.args.later.last_changes.now
    c.common_events-common.result
    are c.requires.changes_later common.within_earlier common.within_later common.same o quiet.0 quiet.1
