use Rattle.std.proofs.Common.{◌≡◌, ◌∙◌, arith, rules, subst, sym}
use Rattle.hd_terms.specs.contracts.StrengthPartialEq.TheImpl as strength_eq
use Rattle.hd_terms.specs.declared.Strength.{Strength}
use Rattle.hd_terms.specs.declared.Strength.TheVariants as strengths
use Rattle.hd_terms.specs.EditedDump.{standing}
use Rattle.hd_terms.specs.Strengths.{HasStrength}
use Rattle.hd_totals.specs.Fallen.{is_unreachable}
use Rattle.hd_queries.proofs.ChainLemmas.{past-unreachable}
use Rattle.hd_queries.proofs.FallenLemmas.{unreachable-true}
use Rattle.hd_queries.proofs.chain.chain_of.Goals as goal
use Rattle.hd_queries.proofs.chain.chain_of.Goals.{then-o-len-via-then-o-len, then-o-len-via-else-o-len+then-eq}

-- `==` says whether a strength is that of what nothing reaches
eq-unreachable : (s : Strength) → strength_eq.ghosts.eq s strengths.Unreachable ≡ is_unreachable s
eq-unreachable s = search rules

pub returns-then-o-len : goal.returns-then-o-len
returns-then-o-len c =
    let g = standing c.args.solved.graph.now c.args.solved.front.now in
    let ks = c.args.solved.strengths.now in
    let o = c.args.o in
    let gives = c.settled_supports_give_strengths.ensures.strengths in
    elim c.then-o-len.branch [
      | then-o-len-via-then-o-len w ↦ past-unreachable gives g ks c.requires.settled o (omega (arith, w.if-o-len.true, c.len.ensures))
      | then-o-len-via-else-o-len+then-eq w ↦
          let none : w.strength.result ≡ strengths.Unreachable =
          unreachable-true w.strength.result (sym (eq-unreachable w.strength.result) ∙ sym w.eq.ensures ∙ w.if-eq.true) in
          subst (λ (s : Strength). HasStrength g o s) (sym w.strength.ensures ∙ none) (gives g ks c.requires.settled o)
    ]
