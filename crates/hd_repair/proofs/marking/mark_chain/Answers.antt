-- What the walk found is marked on the way, so the object is known, and what was known stays so.
use Rattle.hd_repair.proofs.MarkingLemmas.{chain_marked, still_known, begin_known}
use Rattle.hd_repair.proofs.marking.mark_chain.Goals as goal

pub mark_all-requires : goal.mark_all-requires
mark_all-requires c x is = rw c.requires.count (c.in_ok-found.ensures.within x (rw c.deref.ensures.value at is))

pub returns-then-is_known : goal.returns-then-is_known
returns-then-is_known c =
    let path = c.follow.new.path.items in
    let others = rw c.deref.ensures.value at c.mark_all.ensures.others in
    let some = c.is_known.ensures.yes c.if-is_known.true in
    record {
      count = c.mark_all.ensures.count;
      known = λ lost h. chain_marked c.args.kept.now c.args.known.now c.mark_all.new.known path c.args.o c.in_ok-found.found others some lost h
          (c.in_ok-found.ensures.followed lost h);
      more = still_known c.args.kept.now c.args.known.now c.mark_all.new.known path c.args.o c.in_ok-found.found others some;
      here = λ is lost h. begin_known c.args.kept.now c.args.known.now c.mark_all.new.known path c.args.o c.in_ok-found.found others some
          (rw c.deref.ensures.value at c.mark_all.ensures.here) ((c.in_ok-found.ensures.followed lost h).first some);
    }
