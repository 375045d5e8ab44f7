use Rattle.std.proofs.Common.{◌+◌, ◌*◌}
use Rattle.hd_repair.proofs.falling.+below.Given as goal

abbrev pub decreases-below_by_threads : goal.decreases-below_by_threads
decreases-below_by_threads g l = 2 * l.threads

abbrev pub decreases-rest : goal.decreases-rest
decreases-rest g l = 2 * l.left + 1
