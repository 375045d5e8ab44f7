use Rattle.std.proofs.Common.{◌≡◌, ◌∙◌, ℕ, [], List, length, map, ap, sym, subst}
use Rattle.hd_terms.specs.declared.Event.{Event}
use Rattle.hd_terms.specs.declared.Strength.{Strength}
use Rattle.hd_terms.specs.EditedDump.{standing}
use Rattle.hd_terms.specs.Strengths.{HasStrength}
use Rattle.hd_terms.specs.Settled.{Settled, reached_at}
use Rattle.hd_strength.specs.Found.{only_strength}
use Rattle.hd_queries.specs.Totals.{AreCounted}
use Rattle.hd_queries.proofs.TotalLemmas.{alone-at, total-is}
use Rattle.hd_queries.proofs.totals.opening_totals.Goals as goal

pub returns : goal.returns
returns g c =
    let dump = c.args.graph.now in
    let found = c.in_ok-strengths.ensures.settled in
    let ks = map only_strength c.in_ok-strengths.strengths.items in
    let settled : Settled (standing dump []) found.kept =
    subst (λ (log : List Event). Settled (standing dump log) found.kept) c.in_ok-front.ensures found.settled in
    let same : (o : ℕ) → (reached_at ks o).strength ≡ (reached_at found.kept o).strength =
    λ o. ap (λ (ss : List Strength). (reached_at (map only_strength ss) o).strength) found.same ∙ alone-at found.kept o in
    let has : (o : ℕ) → HasStrength (standing dump []) o (reached_at ks o).strength = λ o. subst (HasStrength (standing dump []) o) (sym (same o))
    (c.settled_supports_give_strengths.ensures.strengths (standing dump []) found.kept settled o) in
    total-is c.one_strength.ensures dump [] ks has c.count_totals-totals.result
    (subst (λ (ss : List Strength). AreCounted dump (map only_strength ss) 0 (length dump.objects) c.count_totals-totals.result) c.deref.ensures.value
    c.count_totals-totals.ensures)
