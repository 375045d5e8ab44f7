use Rattle.std.proofs.Common.{◌+◌, ◌*◌}
use Rattle.hd_queries.proofs.totals.+shares.Given as goal

abbrev pub decreases-count_shares : goal.decreases-count_shares
decreases-count_shares g l = 2 * l.shares

abbrev pub decreases-others : goal.decreases-others
decreases-others g l = 2 * l.shares_left + 1
