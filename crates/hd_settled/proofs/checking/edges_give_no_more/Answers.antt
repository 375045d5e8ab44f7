use Rattle.std.proofs.Common.{◌≡◌, ℕ, Some, refl, arith}
use Rattle.hd_terms.specs.Paths.{Edge}
use Rattle.hd_strength.specs.Rows.{edge_at}
use Rattle.hd_settled.specs.Checking.{GivesNoMore}
use Rattle.hd_strength.proofs.RowLemmas.{edge_stands_at}
use Rattle.hd_settled.proofs.Checked.{refuted, says_no, one_more, all_give}
use Rattle.hd_settled.proofs.checking.edges_give_no_more.Goals as goal

pub returns-then-not-object_gives_no_more : goal.returns-then-not-object_gives_no_more
returns-then-not-object_gives_no_more c =
    refuted (λ all. says_no c.object_gives_no_more.result c.if-not-object_gives_no_more.true c.object_gives_no_more.ensures
    (λ i e is. all e (edge_stands_at c.args.edited.graph.now c.args.edited.front.now c.loop-o.o i e is)))

pub loop-o-preserved : goal.loop-o-preserved
loop-o-preserved c =
    one_more (λ (k : ℕ). (i : ℕ) (e : Edge) → edge_at c.args.edited.graph.now c.args.edited.front.now k i ≡ Some e
    → GivesNoMore c.args.edited.graph.now.mode c.args.strengths.now e) c.loop-o.o c.loop-o.invariant
    (c.object_gives_no_more.ensures.0 c.if-not-object_gives_no_more.false)

pub returns : goal.returns
returns c = (
  λ h. all_give c.args.edited.graph.now c.args.edited.front.now c.args.strengths.now c.loop-o.o
      (omega (arith, c.requires.count, c.len-o-end.ensures)) c.loop-o.invariant,
  λ all. refl,
)
