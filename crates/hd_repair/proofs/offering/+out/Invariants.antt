use Rattle.std.proofs.Common.{◌+◌, ◌*◌}
use Rattle.hd_repair.proofs.offering.+out.Given as goal

abbrev pub decreases-out_by_threads : goal.decreases-out_by_threads
decreases-out_by_threads g l = 2 * l.threads

abbrev pub decreases-rest : goal.decreases-rest
decreases-rest g l = 2 * l.left + 1
