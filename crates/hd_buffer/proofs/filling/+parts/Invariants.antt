use Rattle.std.proofs.Common.{◌+◌, ◌*◌}
use Rattle.hd_buffer.proofs.filling.+parts.Given as goal

abbrev pub decreases-fill_piece : goal.decreases-fill_piece
decreases-fill_piece g l = 2 * l.threads

abbrev pub decreases-fill_second : goal.decreases-fill_second
decreases-fill_second g l = 2 * l.threads_left + 1
