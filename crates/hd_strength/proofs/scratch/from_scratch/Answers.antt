use Rattle.std.proofs.Common.{◌≡◌, ◌∙◌, ◌≤◌, List, length, sym, subst}
use Rattle.hd_terms.specs.EditedDump.{standing}
use Rattle.hd_terms.specs.Settled.{Reached, Settled, reached_at}
use Rattle.hd_strength.proofs.Joining.{all-seen}
use Rattle.hd_strength.proofs.scratch.from_scratch.Goals as goal

pub returns-clause-settled : goal.returns-clause-settled
returns-clause-settled g c =
    let h = c.in_ok-parts.ensures in
    let same : c.of-2.result ≡ h.kept = c.of-2.ensures ∙ c.in_ok-kept.ensures ∙ h.found ∙ all-seen h.kept in
    subst (Settled (standing c.args.graph.now c.args.front.now)) (sym same) h.holds.settled

pub returns-clause-stamps : goal.returns-clause-stamps
returns-clause-stamps g c = λ o.
    let h = c.in_ok-parts.ensures in
    let same : c.of-2.result ≡ h.kept = c.of-2.ensures ∙ c.in_ok-kept.ensures ∙ h.found ∙ all-seen h.kept in
    subst (λ (ks : List Reached). (reached_at ks o).stamp ≤ length c.args.graph.now.objects) (sym same) (h.holds.stamps o)
