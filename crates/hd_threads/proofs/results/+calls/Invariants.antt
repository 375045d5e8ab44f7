use Rattle.std.proofs.Common.{◌+◌, ◌*◌}
use Rattle.hd_threads.proofs.results.+calls.Given as goal

abbrev pub decreases-calls_from : goal.decreases-calls_from
decreases-calls_from g l = 2 * l.count

abbrev pub decreases-first : goal.decreases-first
decreases-first g l = 3

abbrev pub decreases-others : goal.decreases-others
decreases-others g l = 2 * l.left + 1
