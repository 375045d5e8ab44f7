use Rattle.hd_state.proofs.state.State.share.Goals as goal

pub invariant_of-result : goal.invariant_of-result
invariant_of-result c =
    let h = c.self.invariant in
    let graph = c.in_ok-try_clone.ensures in
    let front = c.in_ok-share.ensures in
    let supports = c.in_ok-try_clone-5.ensures in
    record {
      removed = rw (graph, front, c.in_ok-try_clone-3.ensures) h.removed;
      added = rw (graph, front, c.in_ok-try_clone-4.ensures) h.added;
      reverse = rw (graph, c.in_ok-try_clone-2.ensures) h.reverse;
      kept = rw (graph, front, supports) h.kept;
      stamps = rw (graph, front, supports) h.stamps;
      changes = rw (graph, front, supports, c.in_ok-try_clone-6.ensures) h.changes;
      totals = rw (graph, supports, c.in_ok-try_clone-7.ensures) h.totals;
      pages = rw (graph, c.in_ok-try_clone-8.ensures) h.pages;
      moved = rw (graph, front) h.moved;
    }
