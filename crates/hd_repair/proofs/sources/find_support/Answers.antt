-- One root or edge after another: what is known is a support that hangs on a root, or nothing (`known`).
-- Each is looked at once at most.
use Rattle.std.proofs.Common.{◌≡◌, ◌∙◌, ◌<◌, ◌⊎◌, inl, inr, length, ap, refl, arith, IfSome, Some, None, Option}
use Rattle.hd_terms.specs.declared.Support.{Support}
use Rattle.hd_terms.specs.EdgeRows.{Rows}
use Rattle.hd_edges.specs.Marks.{marked_edge}
use Rattle.hd_repair.specs.Hanging.{IsSupportFor, IsGiven}
use Rattle.hd_repair.proofs.BestLemmas.{in_within}
use Rattle.hd_repair.proofs.SourceLemmas.{edge_read}
use Rattle.hd_repair.proofs.sources.find_support.Goals as goal
use Rattle.hd_repair.proofs.sources.find_support.Goals.{then-rank-eq5+in_default, else-rank-eq5}

-- what is known after one more edge
known : (Good : Support → Type 0) (Given : Support → Type 0) (old new : Option Support) → IfSome old Good → IfSome new (λ by. (old ≡ Some by) ⊎ Given by)
    → ((by : Support) → Given by → Good by) → IfSome new Good
known Good Given old None h which more = tt
known Good Given old (Some by) h which more = elim which [
  | inl same ↦ rw same at h
  | inr given ↦ more by given
]

pub better_support-best-requires-clause-edge : goal.better_support-best-requires-clause-edge
better_support-best-requires-clause-edge g c =
    let rows = g.E.Edges.rows in
    let start : rows c.if-rank-eq5.edges ≡ rows c.args.edges.now =
    elim c.if-rank-eq5.branch [ then-rank-eq5+in_default w ↦ rw w.edges-is w.standing_root.ensures.same | else-rank-eq5 w ↦ rw w.edges-is refl ] in
    let lt : c.loop-i.i < length ((rows c.args.edges.now).into c.args.o) = omega (arith, ap (λ (r : Rows). length (r.into c.args.o)) start) in
    in_within (rows c.args.edges.now) (rows c.loop-i.edges) c.loop-i.invariant.same (g.met.E.Edges.lawful c.loop-i.edges) c.args.kept.now c.args.o
    c.loop-i.i (marked_edge c.into-edge.result) lt c.into-edge.ensures.value
    (length c.args.kept.now) c.requires.count c.requires.object

pub loop-i-preserved : goal.loop-i-preserved
loop-i-preserved g c =
    let rows = g.E.Edges.rows in
    let start : rows c.if-rank-eq5.edges ≡ rows c.args.edges.now =
    elim c.if-rank-eq5.branch [ then-rank-eq5+in_default w ↦ rw w.edges-is w.standing_root.ensures.same | else-rank-eq5 w ↦ rw w.edges-is refl ] in
    let lt : c.loop-i.i < length ((rows c.args.edges.now).into c.args.o) = omega (arith, ap (λ (r : Rows). length (r.into c.args.o)) start) in
    let mode = c.mode-mode.ensures ∙ ap (λ (r : Rows). r.standing.mode) start in
    record {
      same = c.into-edge.ensures.same ∙ c.loop-i.invariant.same;
      looks = omega (arith, c.into-edge.ensures.counted, c.loop-i.invariant.looks);
      best = known (IsSupportFor (rows c.args.edges.now).standing c.args.kept.now c.args.o)
          (IsGiven c.mode-mode.result c.args.kept.now (marked_edge c.into-edge.result)) c.loop-i.best c.better_support-best.result c.loop-i.invariant.best
          c.better_support-best.ensures
          (edge_read (rows c.args.edges.now) (rows c.loop-i.edges) c.loop-i.invariant.same (g.met.E.Edges.lawful c.loop-i.edges) c.args.kept.now c.args.o
          c.loop-i.i (marked_edge c.into-edge.result) lt c.into-edge.ensures.value c.mode-mode.result mode);
    }

pub returns-then-is_enough-clause-support : goal.returns-then-is_enough-clause-support
returns-then-is_enough-clause-support g c =
    let rows = g.E.Edges.rows in
    let start : rows c.if-rank-eq5.edges ≡ rows c.args.edges.now =
    elim c.if-rank-eq5.branch [ then-rank-eq5+in_default w ↦ rw w.edges-is w.standing_root.ensures.same | else-rank-eq5 w ↦ rw w.edges-is refl ] in
    let lt : c.loop-i.i < length ((rows c.args.edges.now).into c.args.o) = omega (arith, ap (λ (r : Rows). length (r.into c.args.o)) start) in
    let mode = c.mode-mode.ensures ∙ ap (λ (r : Rows). r.standing.mode) start in
    known (IsSupportFor (rows c.args.edges.now).standing c.args.kept.now c.args.o)
    (IsGiven c.mode-mode.result c.args.kept.now (marked_edge c.into-edge.result)) c.loop-i.best c.better_support-best.result c.loop-i.invariant.best
    c.better_support-best.ensures
    (edge_read (rows c.args.edges.now) (rows c.loop-i.edges) c.loop-i.invariant.same (g.met.E.Edges.lawful c.loop-i.edges) c.args.kept.now c.args.o
    c.loop-i.i (marked_edge c.into-edge.result) lt c.into-edge.ensures.value c.mode-mode.result mode)
