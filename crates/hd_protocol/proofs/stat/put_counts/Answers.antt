use Rattle.hd_protocol.proofs.Stating.{six}
use Rattle.hd_protocol.proofs.stat.put_counts.Goals as goal

pub returns : goal.returns
returns c =
    six _ _ _ _ _ _ _ _ _ _ _ _ _ c.in_ok-put_count.ensures c.in_ok-put_count-2.ensures c.in_ok-put_count-3.ensures c.in_ok-put_count-4.ensures
    c.in_ok-put_repeated.ensures c.in_ok-put_count-5.ensures
