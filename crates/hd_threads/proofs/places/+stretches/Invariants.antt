use Rattle.std.proofs.Common.{◌+◌, ◌*◌, length}
use Rattle.hd_threads.proofs.places.+stretches.Given as goal

abbrev pub decreases-stretches_from : goal.decreases-stretches_from
decreases-stretches_from g l = 3 * length l.s.now

abbrev pub decreases-stretch_and_rest : goal.decreases-stretch_and_rest
decreases-stretch_and_rest g l = 3 * length l.b.now + 2

abbrev pub decreases-stretch_and_rest-rest : goal.decreases-stretch_and_rest-rest
decreases-stretch_and_rest-rest g l = 3 * length l.b.now + 1
