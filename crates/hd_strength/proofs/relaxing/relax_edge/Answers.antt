use Rattle.std.proofs.Common.{◌≡◌, ◌∙◌, ℕ, inl, inr, List, [], ◌∷◌, ◌++◌, ap, sym, subst}
use Rattle.hd_terms.specs.Ranks.{IsPassedOn}
use Rattle.hd_terms.specs.Paths.{Edge}
use Rattle.hd_terms.proofs.RankLemmas.{same_rank}
use Rattle.hd_strength.proofs.RowLemmas.{slot_at, at_edge, edge_to}
use Rattle.hd_strength.proofs.relaxing.relax_edge.Goals as goal

pub returns-then-has : goal.returns-then-has
returns-then-has c =
    let h = c.in-Some.ensures.some in
    let same : c.in-Some.gain.strength ≡ c.args.strength = same_rank c.in-Some.gain.strength c.args.strength
    (sym c.rank.ensures ∙ c.if-rank.true ∙ c.rank-2.ensures) in
    let at = slot_at c.args.edited.graph.now c.args.o c.args.index c.requires.index in
    let is : h.edge ≡ edge_to c.args.o at.0 h.edge.target =
    (at_edge c.args.edited.graph.now c.args.edited.front.now c.args.o c.args.index at.0 at.1 h.edge h.is).1 in
    let source : h.edge.source ≡ c.args.o = ap (λ (e : Edge). e.source) is in
    let slot : h.edge.slot ≡ at.0.slot = ap (λ (e : Edge). e.slot) is in
    let own = c.has.ensures.yes c.if-has.true in
    inr (inl (record {
      edge = h.edge;
      is = h.is;
      gives = sym same ∙ h.strength;
      own = rw (← h.target) own;
      unreached = h.unknown (rw (← h.target) own);
      reaches = rw (source, slot, sym h.target, sym same) (record {
        keeps = let k = c.keep.ensures.kept at.0 at.1 in
            record { kept = k.kept; same_first = k.same_first; same_buckets = k.same_buckets; same_handed = k.same_handed; counted = k.counted };
        queued = λ high. c.in_ok-push.ensures ∙ ap (λ (os : List ℕ). os ++ c.in-Some.gain.target ∷ []) c.keep.ensures.queue;
        not_queued = λ low. absurd (low (subst (IsPassedOn c.args.edited.graph.now.mode) (sym same) c.requires.passes_on));
      });
    }))
