use Rattle.hd_state.proofs.state.State.open.Goals as goal

pub invariant_of-result : goal.invariant_of-result
invariant_of-result g c = record {
  removed = rw (c.in_ok-log.ensures.log) (rw c.deref.ensures at c.in_ok-log.ensures.removed);
  added = rw (c.in_ok-log.ensures.log) (rw c.deref.ensures at c.in_ok-log.ensures.added);
  reverse = rw c.in_ok-reverse.ensures.ok (rw c.deref-2.ensures at c.in_ok-kept.ensures.reverse);
  kept = rw c.deref-2.ensures at c.in_ok-kept.ensures.kept.kept;
  stamps = rw c.deref-2.ensures at c.in_ok-kept.ensures.kept.stamps;
  changes = rw c.deref-2.ensures at c.in_ok-kept.ensures.kept.changes;
  totals = rw c.deref-2.ensures at c.in_ok-kept.ensures.kept.totals;
  pages = rw c.deref-2.ensures at c.in_ok-kept.ensures.kept.pages;
  moved = rw c.deref-2.ensures at c.in_ok-kept.ensures.kept.moved;
}
