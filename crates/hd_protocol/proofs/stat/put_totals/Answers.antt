use Rattle.hd_terms.specs.declared.Strength.TheVariants as strengths
use Rattle.hd_protocol.proofs.Stating.{six, one_total}
use Rattle.hd_protocol.proofs.stat.put_totals.Goals as goal

pub returns : goal.returns
returns c =
    six _ _ _ _ _ _ _ _ _ _ _ _ _
    (one_total _ _ strengths.Strong _ _ c.of.ensures c.in_ok-put_total.ensures)
    (one_total _ _ strengths.Soft _ _ c.of-2.ensures c.in_ok-put_total-2.ensures)
    (one_total _ _ strengths.Weak _ _ c.of-3.ensures c.in_ok-put_total-3.ensures)
    (one_total _ _ strengths.Final _ _ c.of-4.ensures c.in_ok-put_total-4.ensures)
    (one_total _ _ strengths.Phantom _ _ c.of-5.ensures c.in_ok-put_total-5.ensures)
    (one_total _ _ strengths.Unreachable _ _ c.of-6.ensures c.in_ok-put_total-6.ensures)
