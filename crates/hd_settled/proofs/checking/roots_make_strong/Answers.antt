use Rattle.std.proofs.Common.{◌≡◌, ℕ, Some, refl, arith}
use Rattle.hd_terms.specs.Paths.{RootEntry}
use Rattle.hd_strength.specs.Rows.{root_at}
use Rattle.hd_settled.specs.Checking.{MakesStrong}
use Rattle.hd_strength.proofs.RowLemmas.{root_stands_at}
use Rattle.hd_settled.proofs.Checked.{refuted, says_no, one_more, roots_strong}
use Rattle.hd_settled.proofs.checking.roots_make_strong.Goals as goal

pub returns-then-not-root_makes_strong : goal.returns-then-not-root_makes_strong
returns-then-not-root_makes_strong c =
    refuted (λ all. says_no c.root_makes_strong.result c.if-not-root_makes_strong.true c.root_makes_strong.ensures
    (λ x is. all x (root_stands_at c.args.edited.graph.now c.args.edited.front.now c.loop-r.r x is)))

pub loop-r-preserved : goal.loop-r-preserved
loop-r-preserved c =
    one_more (λ (k : ℕ). (x : RootEntry) → root_at c.args.edited.graph.now c.args.edited.front.now k ≡ Some x → MakesStrong c.args.strengths.now x) c.loop-r.r
    c.loop-r.invariant
    (c.root_makes_strong.ensures.0 c.if-not-root_makes_strong.false)

pub returns : goal.returns
returns c = (λ h. roots_strong c.args.edited.graph.now c.args.edited.front.now c.args.strengths.now c.loop-r.r (omega arith) c.loop-r.invariant, λ all. refl)
