use Rattle.std.proofs.Common.{[], refl}
use Rattle.hd_protocol.proofs.Stating.{is_stat}
use Rattle.hd_protocol.proofs.stat.stat_text.Goals as goal

pub returns : goal.returns
returns g c =
    is_stat c.args.graph.now [] c.join-totals.result.1 c.in_ok-totals.totals _ _ _ refl c.new-text.ensures.bytes c.join-totals.ensures.second
    (rw c.in_ok-totals.was at c.join-totals.ensures.first) c.in_ok-put_counts.ensures c.in_ok-put_totals.ensures
