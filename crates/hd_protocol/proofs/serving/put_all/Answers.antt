use Rattle.std.proofs.Common.{arith, length-take, length-drop, ◌≤◌, ◌-◌, length}
use Rattle.hd_protocol.proofs.Writing.{appends_more}
use Rattle.hd_protocol.proofs.serving.put_all.Goals as goal

pub loop-at-preserved : goal.loop-at-preserved
loop-at-preserved g c =
    let fits : c.in-Ok.n ≤ length c.args.text.now - c.loop-at.at = grind (arith, length-take, length-drop, c.in-Ok.ensures.bound) in
    record {
      within = omega (arith, c.loop-at.invariant.within);
      front = appends_more _ _ _ c.args.text.now c.loop-at.at c.in-Ok.n c.loop-at.invariant.front c.in-Ok.ensures.bytes;
    }
