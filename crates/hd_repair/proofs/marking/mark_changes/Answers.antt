-- One object after another is marked, if its ranks differ.
use Rattle.std.proofs.Common.{◌≡◌, ◌≢◌, ◌∙◌, ◌≤◌, inl, inr, length, ap, sym, arith}
use Rattle.std.proofs.lemmas.Bool.{cases_eq, cases_lt}
use Rattle.std.proofs.lemmas.List.{get_or_past}
use Rattle.hd_terms.specs.Ranks.{rank}
use Rattle.hd_terms.specs.Settled.{Reached, reached_at, unreached}
use Rattle.hd_terms.proofs.RankLemmas.{same_rank}
use Rattle.hd_repair.proofs.MarkingLemmas.{marked_still}
use Rattle.hd_repair.proofs.marking.mark_changes.Goals as goal
use Rattle.hd_repair.proofs.marking.mark_changes.Goals.{then-rank, else-rank}

pub loop-o-preserved : goal.loop-o-preserved
loop-o-preserved c =
    let ks = c.args.kept.now in
    let fs = c.args.found.now in
    let o = c.loop-o.o in
    let before : rank (reached_at ks o).strength ≡ c.rank.result = sym (c.rank.ensures ∙ ap rank c.strength.ensures) in
    let after : rank (reached_at fs o).strength ≡ c.rank-in-loop-o.result = sym (c.rank-in-loop-o.ensures ∙ ap rank c.strength-in-loop-o.ensures) in
    elim c.if-rank.branch [
      | then-rank w ↦
          let others = w.mark.ensures.others in
          let differ : (reached_at ks o).strength ≢ (reached_at fs o).strength = λ e.
          let same : rank (reached_at ks o).strength ≡ rank (reached_at fs o).strength = ap rank e
          in omega (arith, w.if-rank.true) in
          record {
            count = rw w.known-is (w.mark.ensures.count ∙ c.loop-o.invariant.count);
            done = rw w.known-is (λ x lt. elim (cases_eq x o) [
              | inl same ↦ rw same (inl (differ, w.mark.ensures.here))
              | inr other ↦ marked_still ks fs c.loop-o.known w.mark.new.known x (others x other) (c.loop-o.invariant.done x (omega arith))
            ]);
            rest = rw w.known-is (λ x le is. c.loop-o.invariant.rest x (omega arith) (sym (others x (λ same. omega (arith, le, same))) ∙ is));
          }
      | else-rank w ↦ record {
        count = rw w.known-is c.loop-o.invariant.count;
        done = rw w.known-is (λ x lt. elim (cases_eq x o) [
          | inl same ↦ rw same (inr (
            same_rank (reached_at ks o).strength (reached_at fs o).strength (omega (arith, w.if-rank.false)),
            c.loop-o.invariant.rest o (omega arith),
          ))
          | inr other ↦ c.loop-o.invariant.done x (omega arith)
        ]);
        rest = rw w.known-is (λ x le. c.loop-o.invariant.rest x (omega arith));
      }
    ]

pub returns-clause-each : goal.returns-clause-each
returns-clause-each c o = elim (cases_lt o c.loop-o.o) [
  | inl lt ↦ c.loop-o.invariant.done o lt
  | inr past ↦
      let all : length c.args.kept.now ≤ o = omega (arith, c.loop-o-test.false, c.len-o-end.ensures) in
      inr (
        ap (λ (k : Reached). k.strength) (get_or_past c.args.kept.now o unreached all
            ∙ sym (get_or_past c.args.found.now o unreached (omega (arith, c.requires.found)))),
        c.loop-o.invariant.rest o past,
      )
]
