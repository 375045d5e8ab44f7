use Rattle.std.proofs.Common.{◌+◌, ◌*◌}
use Rattle.hd_repair.proofs.best.+best.Given as goal

abbrev pub decreases-best_by_threads : goal.decreases-best_by_threads
decreases-best_by_threads g l = 2 * l.threads

abbrev pub decreases-rest : goal.decreases-rest
decreases-rest g l = 2 * l.left + 1
