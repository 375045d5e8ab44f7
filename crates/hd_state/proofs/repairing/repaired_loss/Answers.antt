use Rattle.std.proofs.Common.{◌∙◌, length, ap, arith}
use Rattle.hd_state.proofs.repairing.repaired_loss.Goals as goal

pub returns-in-Settled : goal.returns-in-Settled
returns-in-Settled g c =
    let view = c.view_of-view.ensures in
    let shared = c.in_ok-supports.ensures in
    let is = c.in-Settled.is in
    let lose = c.in_ok-changes.ensures in
    record {
      kept = record {
        count = c.lose.ensures.count ∙ ap length shared ∙ c.requires.count;
        settled = rw view at (rw is at lose.settled);
      };
      changes = rw shared at (rw is at lose.changes);
      outside = λ o out. (rw shared at (rw is at lose.outside)) o out;
      looks = λ region all. omega (arith, c.looks.ensures, (rw (view, shared) at (rw is at lose.looks)) region all);
      stamps = λ m high o. (rw (view, shared) at (rw is at lose.stamps)) m high o;
    }
