use Rattle.std.proofs.Common.{◌≡◌, ◌≤◌, ℕ, Some, refl, arith}
use Rattle.hd_terms.specs.Ranks.{rank}
use Rattle.hd_terms.specs.Paths.{Edge}
use Rattle.hd_strength.specs.Rows.{edge_at}
use Rattle.hd_strength.specs.Growing.{rank_at, offered_strength}
use Rattle.hd_settled.proofs.Checked.{refuted, says_no, one_more, nothing_passed_on, one_too_much, each_gives}
use Rattle.hd_settled.proofs.checking.object_gives_no_more.Goals as goal

pub returns-then-not-passes_on : goal.returns-then-not-passes_on
returns-then-not-passes_on c = (
  λ h. nothing_passed_on c.args.edited.graph.now c.args.edited.front.now c.args.strengths.now c.args.o
      (says_no c.passes_on.result c.if-not-passes_on.true c.passes_on.ensures),
  λ all. refl,
)

pub returns-then-not-edge_gives_no_more : goal.returns-then-not-edge_gives_no_more
returns-then-not-edge_gives_no_more c =
    refuted (one_too_much c.args.edited.graph.now c.args.edited.front.now c.args.strengths.now c.args.o
    (c.passes_on.ensures.0 c.if-not-passes_on.false) c.loop-index.index
    (says_no c.edge_gives_no_more.result c.if-not-edge_gives_no_more.true c.edge_gives_no_more.ensures))

pub loop-index-preserved : goal.loop-index-preserved
loop-index-preserved c =
    one_more (λ (k : ℕ). (e : Edge) → edge_at c.args.edited.graph.now c.args.edited.front.now c.args.o k ≡ Some e
    → rank (offered_strength c.args.strengths.now e) ≤ rank_at c.args.strengths.now e.target) c.loop-index.index c.loop-index.invariant
    (c.edge_gives_no_more.ensures.0 c.if-not-edge_gives_no_more.false)

pub returns : goal.returns
returns c = (
  λ h. each_gives c.args.edited.graph.now c.args.edited.front.now c.args.strengths.now c.args.o c.loop-index.index
      (omega arith) c.loop-index.invariant,
  λ all. refl,
)
