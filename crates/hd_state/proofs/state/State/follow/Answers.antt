-- The next state has the parts that were moved, over the same graph: its invariant is what each of them ensures.
-- Stamps rise by no more than the objects with each event, so those of all events stay bounded.
use Rattle.std.proofs.Common.{◌≡◌, ◌∙◌, ℕ, ◌+◌, ◌*◌, ◌≤◌, List, length, ap, sym, subst, arith}
use Rattle.std.specs.Arc.{arc_value}
use Rattle.std.proofs.lemmas.List.{length_push}
use Rattle.hd_terms.specs.declared.Event.{Event}
use Rattle.hd_terms.specs.Dump.{Dump}
use Rattle.hd_terms.specs.Kept.{AreKept}
use Rattle.hd_terms.specs.Lost.{InEventRegion}
use Rattle.hd_terms.specs.Settled.{reached_at}
use Rattle.hd_strength.specs.Removed.{IsRemovedBy}
use Rattle.hd_totals.specs.GroupPages.{AreNoted}
use Rattle.hd_totals.specs.LastChanges.{AreLastChanges}
use Rattle.hd_totals.specs.Totals.{AreTotals}
use Rattle.hd_view.specs.Added.{IsAddedBy}
use Rattle.hd_state.specs.LastMove.{IsLastMove}
use Rattle.hd_state.specs.Solution.{Solution}
use Rattle.hd_state.proofs.state.State.follow.Goals as goal

pub invariant_of-state : goal.invariant_of-state
invariant_of-state g c =
    let now = c.args.self.now in
    let next = c.in_ok-next.next in
    let moved = c.in_ok-moved.moved in
    let kept = arc_value moved.supports in
    let graph : arc_value c.in_ok-try_clone.field-0 ≡ now.dump = c.in_ok-try_clone.ensures ∙ ap (λ (s : Solution). s.dump) c.self.view_is in
    let dump : Dump = arc_value c.in_ok-try_clone.field-0 in
    let len : length next.front ≡ length now.log + 1 = ap length c.in_ok-next.ensures.log ∙ ap length c.requires.is ∙ length_push now.log c.requires.event in
    let more : length next.front + 1 ≡ length now.log + 2 = omega (arith, len) in
    let most : (length next.front + 1) * length dump.objects ≡ (length now.log + 2) * length now.dump.objects =
    ap (λ (n : ℕ). n * length dump.objects) more ∙ ap (λ (d : Dump). (length now.log + 2) * length d.objects) graph in
    record {
      removed = subst (λ (d : Dump). IsRemovedBy d next.front (arc_value next.removed)) (sym graph) c.in_ok-next.ensures.removed;
      added = subst (λ (d : Dump). IsAddedBy d next.front (arc_value next.added)) (sym graph) c.in_ok-next.ensures.added;
      reverse = rw (c.in_ok-try_clone.ensures, c.in_ok-try_clone-2.ensures) c.self.invariant.reverse;
      kept = subst (λ (d : Dump). AreKept d next.front kept) (sym graph) c.in_ok-moved.ensures.kept;
      stamps = λ o. subst (λ (n : ℕ). (reached_at kept o).stamp ≤ n) (sym most) (c.in_ok-moved.ensures.stamps o);
      changes = subst (λ (d : Dump). AreLastChanges d next.front kept (arc_value moved.last_changes)) (sym graph) c.in_ok-moved.ensures.changes;
      totals = subst (λ (d : Dump). AreTotals d kept (arc_value moved.totals)) (sym graph) c.in_ok-moved.ensures.totals;
      pages = subst (λ (d : Dump). AreNoted d (arc_value moved.pages)) (sym graph) c.in_ok-moved.ensures.pages;
      moved = subst (λ (d : Dump). IsLastMove d next.front moved.moved) (sym graph) c.in_ok-moved.ensures.moved;
    }

pub returns-clause-outside : goal.returns-clause-outside
returns-clause-outside g c o out =
    let now = c.args.self.now in
    let kept = arc_value c.in_ok-moved.moved.supports in
    c.in_ok-moved.ensures.outside o (λ r. out (subst (λ (log : List Event). InEventRegion now.dump now.log log now.kept kept o) c.in_ok-next.ensures.log r))
