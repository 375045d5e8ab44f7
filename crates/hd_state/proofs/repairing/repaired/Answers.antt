-- The event is a loss or a gain of one edit (`moves_loss`, `moves_gain`), so `lose` or `gain` settles the supports.
-- What they change and look at lies in the region of the event, as that of what is lost or gained.
use Rattle.std.proofs.Common.{inl, inr, ap, subst, sym, arith}
use Rattle.std.proofs.lemmas.Bool.{cases_eq}
use Rattle.hd_terms.specs.Dump.{Dump}
use Rattle.hd_terms.specs.EditedDump.{standing}
use Rattle.hd_terms.specs.Ranks.{rank}
use Rattle.hd_terms.specs.Regions.{by_change}
use Rattle.hd_terms.specs.Settled.{reached_at, Settled}
use Rattle.hd_terms.proofs.RankLemmas.{same_rank}
use Rattle.hd_state.specs.LastMove.{earlier, HaveMoved, HaveSameLive, IsLastMove}
use Rattle.hd_state.specs.Repaired.{IsRestored}
use Rattle.hd_terms.specs.Lost.{AreLost, by_loss, by_gain}
use Rattle.hd_view.specs.OneEdit.{LosesBy}
use Rattle.hd_state.proofs.RepairLemmas.{before_loss, before_gain, moves_loss, moves_gain}
use Rattle.hd_state.proofs.UndoneLemmas.{moved_back_within, sum_edges_within}
use Rattle.hd_state.proofs.repairing.repaired.Goals as goal
use Rattle.hd_state.proofs.repairing.repaired.Goals.{After-drop-gained-then-search-saturating_mul}

pub repaired_loss-requires-clause-settled : goal.repaired_loss-requires-clause-settled
repaired_loss-requires-clause-settled g c =
    let dump = c.args.after.graph.now in
    let before = c.args.before.front.now in
    let after = c.args.after.front.now in
    let moved = c.moved_by-moved.result in
    let lost : AreLost dump before after c.in_ok-lost.lost.items = subst (λ (d : Dump). AreLost d before after c.in_ok-lost.lost.items)
    (sym c.requires.same) c.in_ok-lost.ensures in
    let settled : Settled (standing dump before) c.args.supports.now = subst (λ (d : Dump). Settled (standing d before) c.args.supports.now)
    (sym c.requires.same) c.requires.kept.settled in
    let loses : LosesBy before after moved.event moved.edit =
    moves_loss before after moved.loses moved.event moved.edit c.moved_by-moved.ensures.moves c.if-moved.true in
    rw c.deref.ensures.value
    (λ κs le. before_loss dump before after moved.event moved.edit c.in_ok-lost.lost.items c.args.supports.now loses lost settled)

pub gain-requires-clause-settled : goal.gain-requires-clause-settled
gain-requires-clause-settled g c =
    let dump = c.args.after.graph.now in
    let before = c.args.before.front.now in
    let after = c.args.after.front.now in
    let moved = c.moved_by-moved.result in
    let settled : Settled (standing dump before) c.args.supports.now = subst (λ (d : Dump). Settled (standing d before) c.args.supports.now)
    (sym c.requires.same) c.requires.kept.settled in
    let gains : LosesBy after before moved.event moved.edit =
    moves_gain before after moved.loses moved.event moved.edit c.moved_by-moved.ensures.moves c.if-moved.false in
    rw (c.view_of-view.ensures, c.in_ok-supports.ensures, c.deref-2.ensures.value)
    (λ κs le. before_gain dump before after moved.event moved.edit c.in_ok-gained.gained.items c.args.supports.now gains c.in_ok-gained.ensures settled)

pub returns-then-moved-clause-outside : goal.returns-then-moved-clause-outside
returns-then-moved-clause-outside g c o out =
    let dump = c.args.after.graph.now in
    let lost : AreLost dump c.args.before.front.now c.args.after.front.now c.in_ok-lost.lost.items =
    subst (λ (d : Dump). AreLost d c.args.before.front.now c.args.after.front.now c.in_ok-lost.lost.items) (sym c.requires.same) c.in_ok-lost.ensures in
    c.in_ok-repair.ensures.outside o (λ r. out (by_loss c.in_ok-lost.lost.items lost (rw c.deref.ensures.value at r)))

pub returns-then-moved-clause-looks : goal.returns-then-moved-clause-looks
returns-then-moved-clause-looks g c region all =
    let dump = c.args.after.graph.now in
    let lost : AreLost dump c.args.before.front.now c.args.after.front.now c.in_ok-lost.lost.items =
    subst (λ (d : Dump). AreLost d c.args.before.front.now c.args.after.front.now c.in_ok-lost.lost.items) (sym c.requires.same) c.in_ok-lost.ensures in
    c.in_ok-repair.ensures.looks region (λ o r. all o (by_loss c.in_ok-lost.lost.items lost (rw c.deref.ensures.value at r)))

pub returns-clause-outside : goal.returns-clause-outside
returns-clause-outside g c o out =
    rw c.in_ok-supports.ensures at c.in_ok-changes.ensures.outside o
    (λ r. out (by_gain c.in_ok-gained.gained.items c.in_ok-gained.ensures (rw c.deref-2.ensures.value at r)))

pub returns-clause-looks : goal.returns-clause-looks
returns-clause-looks g c region all =
    let most = rw c.view_of-view.ensures at c.in_ok-changes.ensures.looks region
    (λ o r. all o (by_gain c.in_ok-gained.gained.items c.in_ok-gained.ensures (rw (c.in_ok-supports.ensures, c.deref-2.ensures.value) at r))) in
    omega (arith, most, c.looks-looks.ensures)

pub returns-clause-stamps : goal.returns-clause-stamps
returns-clause-stamps g c m small o = rw c.view_of-view.ensures at c.in_ok-changes.ensures.stamps m (rw c.in_ok-supports.ensures small) o

-- where an undo restores what the last event changed, by a search
search_restores : (g : _) (c : After-drop-gained-then-search-saturating_mul g)
    → IsRestored c.args.after.graph.now c.args.after.front.now c.args.supports.now c.search_looks-search.result c.in_ok-repair-2.repair
search_restores g c =
    let dump = c.args.after.graph.now in
    let before = c.args.before.front.now in
    let moved = c.moved_by-moved.result in
    let settled : Settled (standing dump before) c.args.supports.now = subst (λ (d : Dump). Settled (standing d before) c.args.supports.now)
    (sym c.requires.same) c.requires.kept.settled in
    let gains : LosesBy c.args.after.front.now before moved.event moved.edit =
    moves_gain before c.args.after.front.now moved.loses moved.event moved.edit c.moved_by-moved.ensures.moves c.if-moved.false in
    c.in_ok-repair-2.ensures c.in_ok-gained.gained.items
    (before_gain dump before c.args.after.front.now moved.event moved.edit c.in_ok-gained.gained.items c.args.supports.now gains c.in_ok-gained.ensures settled)

pub returns-then-search-saturating_mul-clause-kept : goal.returns-then-search-saturating_mul-clause-kept
returns-then-search-saturating_mul-clause-kept g c = (search_restores g c).kept

pub returns-then-search-saturating_mul-clause-changes : goal.returns-then-search-saturating_mul-clause-changes
returns-then-search-saturating_mul-clause-changes g c = (search_restores g c).changes

pub returns-then-search-saturating_mul-clause-stamps : goal.returns-then-search-saturating_mul-clause-stamps
returns-then-search-saturating_mul-clause-stamps g c = (search_restores g c).stamps

pub returns-then-search-saturating_mul-clause-outside : goal.returns-then-search-saturating_mul-clause-outside
returns-then-search-saturating_mul-clause-outside g c o out =
    let ks = c.args.supports.now in
    let ls = c.in_ok-repair-2.repair.supports in
    elim (cases_eq (rank (reached_at ks o).strength) (rank (reached_at ls o).strength)) [
      | inl same ↦ (search_restores g c).outside o (same_rank (reached_at ks o).strength (reached_at ls o).strength same)
      | inr other ↦ absurd (out (by_gain c.in_ok-gained.gained.items c.in_ok-gained.ensures (by_change (λ e. other (ap rank e)))))
    ]

pub returns-then-search-saturating_mul-clause-looks : goal.returns-then-search-saturating_mul-clause-looks
returns-then-search-saturating_mul-clause-looks g c region all =
    let dump = c.args.after.graph.now in
    let before = c.args.before.front.now in
    let after = c.args.after.front.now in
    let ks = c.args.supports.now in
    let restored = search_restores g c in
    let settled : Settled (standing dump before) ks = subst (λ (d : Dump). Settled (standing d before) ks) (sym c.requires.same) c.requires.kept.settled in
    let last = c.takes_back_last.ensures c.if-takes_back_last.true in
    let same : HaveSameLive (earlier before) after = c.moved_by-moved.ensures.restores last.0 last.1 in
    let moved : HaveMoved dump before region = moved_back_within c.settled_supports_give_strengths.ensures.strengths c.one_strength.ensures dump before after ks
    c.in_ok-repair-2.repair.supports region same settled restored.kept.settled
    (λ o differ. all o (by_gain c.in_ok-gained.gained.items c.in_ok-gained.ensures (by_change differ))) in
    let most = subst (λ (d : Dump). IsLastMove d before c.args.indexes.moved) (sym c.requires.same) c.requires.moved region moved in
    omega (arith, restored.charged, c.if-search-saturating_mul.true, c.saturating_mul.ensures, most, sum_edges_within dump after region)
