use Rattle.std.proofs.Common.{◌≡◌, ℕ, ◌≤◌, List, [], ◌∷◌, Contains, subst, arith}
use Rattle.hd_terms.specs.Ranks.{rank, given_by, weaker_of, least_passed_on}
use Rattle.hd_terms.specs.Paths.{Edge, RootEntry, Standing, Lead, PassOn, path_strength, IsPath}
use Rattle.hd_terms.specs.Settled.{Reached, Settled, reached_at}
use Rattle.hd_terms.proofs.RankLemmas.{weaker-le_left, weaker-le_right, weaker-greatest, rank-le}

module _ (g : Standing) (ks : List Reached) (settled : Settled g ks) where
  -- the rank kept of an object
  abbrev at : ℕ → ℕ
  at o = rank (reached_at ks o).strength

  -- the least rank that is passed on
  abbrev least : ℕ
  least = rank (least_passed_on g.mode)

  -- one edge from a passes on what both a and the edge have
  along : (a n : ℕ) (e : Edge) → Contains g.edges e → e.source ≡ a → least ≤ at a → n ≤ at a → n ≤ rank (given_by e.kind) → n ≤ at e.target
  along a n e stands from passes low given =
      let P : ℕ → Type 0 = λ x. (least ≤ at x) × (n ≤ at x) in
      let here : P e.source = rw from (passes, low) in
      let step : rank (weaker_of (reached_at ks e.source).strength (given_by e.kind)) ≤ at e.target = settled.by_edges e stands here.0 in
      omega (arith, weaker-greatest n (reached_at ks e.source).strength (given_by e.kind) here.1 given)

  -- what a and the edges of a path from a to b have, b has
  carried : (es : List Edge) (a b n : ℕ) → Lead g a es b → PassOn g.mode es → least ≤ at a → n ≤ at a → n ≤ rank (path_strength es) → n ≤ at b
  carried [] a b n lead last passes low strength = let P : ℕ → Type 0 = λ x. n ≤ at x in subst P lead low
  carried (e ∷ []) a b n lead last passes low strength =
      let P : ℕ → Type 0 = λ x. n ≤ at x in
      subst P lead.2 (along a n e lead.0 lead.1 passes low (omega (arith, weaker-le_left (given_by e.kind) (path_strength []))))
  carried (e ∷ f ∷ es) a b n lead last passes low strength =
      carried (f ∷ es) e.target b n lead.2 last.1
      (along a least e lead.0 lead.1 passes passes last.0)
      (along a n e lead.0 lead.1 passes low (omega (arith, weaker-le_left (given_by e.kind) (path_strength (f ∷ es)))))
      (omega (arith, weaker-le_right (given_by e.kind) (path_strength (f ∷ es))))

  -- no path is stronger than what is kept
  pub greatest : (o : ℕ) (r : RootEntry) (es : List Edge) → IsPath g r es o → rank (path_strength es) ≤ at o
  greatest o r es path =
      let strong : 5 ≤ at r.target = rw (settled.by_roots r path.root) (omega arith) in
      carried es r.target o (rank (path_strength es)) path.edges path.passed_on (omega (arith, rank-le (least_passed_on g.mode)))
      (omega (arith, rank-le (path_strength es))) (omega arith)
