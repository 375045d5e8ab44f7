use Rattle.hd_strength.proofs.Holding.{queued_after, still_ready}
use Rattle.hd_strength.proofs.roots.prepare.Goals as goal

pub queue_reached-requires : goal.queue_reached-requires
queue_reached-requires c = let m = c.in_ok-make_cells.ensures in still_ready c.args.part.now c.make_cells.new.self c.requires m.0 m.1

pub returns : goal.returns
returns c = queued_after c.args.part.now c.make_cells.new.self c.queue_reached.new.part c.in_ok-make_cells.ensures.0 c.in_ok-queue_reached.ensures
