-- Classes that lead up over more classes than there are meet one ID twice, and then they go round for ever.
use Rattle.std.proofs.Common.{◌≡◌, ◌∙◌, ℕ, zero, suc, ◌+◌, ◌≤◌, ◌<◌, ◌==◌, Bool, true, false, if◌then◌else◌, ◌⊎◌, inl, inr, List, [], ◌∷◌, ◌++◌, length, take}
use Rattle.std.proofs.Common.{Some, None, sym, refl, eq-eqb, arith}
use Rattle.std.specs.List.{find}
use Rattle.std.proofs.lemmas.Bool.{cases_eq, ne_eqb}
use Rattle.std.proofs.lemmas.List.{length-append, length-take-le}
use Rattle.hd_terms.specs.SubRecords.{ClassItem}
use Rattle.hd_terms.specs.Classes.{class_at, LeadUp, NeverEnds}

-- some class of a list has an ID
abbrev pub has : ℕ → List ClassItem → Bool
has id [] = false
has id (c ∷ cs) = if id == c.id then true else has id cs

-- a list without the classes of an ID
abbrev without : ℕ → List ClassItem → List ClassItem
without id [] = []
without id (c ∷ cs) = if id == c.id then without id cs else c ∷ without id cs

-- it has all other IDs that the list has
has_without : (x id : ℕ) (pool : List ClassItem) → (x ≡ id → ⊥) → has id pool ≡ true → has id (without x pool) ≡ true
has_without x id [] differ h = h
has_without x id (c ∷ cs) differ h = elim (cases_eq id c.id) [
  | inl same ↦
      let other : (x == c.id) ≡ false = ne_eqb x c.id (λ e. differ (e ∙ sym same)) in
      let this : (id == c.id) ≡ true = eq-eqb id c.id same in
      rw other (rw this refl)
  | inr apart ↦
      let not_this : (id == c.id) ≡ false = ne_eqb id c.id apart in
      let later : has id cs ≡ true = rw not_this at h in
      let kept : has id (without x cs) ≡ true = has_without x id cs differ later in
      elim (cases_eq x c.id) [
        | inl gone ↦ let e : (x == c.id) ≡ true = eq-eqb x c.id gone in rw e kept
        | inr stays ↦ let e : (x == c.id) ≡ false = ne_eqb x c.id stays in rw e (rw not_this kept)
      ]
]

-- it isn't longer
without_le : (x : ℕ) (pool : List ClassItem) → length (without x pool) ≤ length pool
without_le x [] = omega arith
without_le x (c ∷ cs) =
    let rest : length (without x cs) ≤ length cs = without_le x cs in
    elim (cases_eq x c.id) [
      | inl gone ↦ let e : (x == c.id) ≡ true = eq-eqb x c.id gone in rw e (omega arith)
      | inr stays ↦ let e : (x == c.id) ≡ false = ne_eqb x c.id stays in rw e (omega arith)
    ]

-- and shorter, where the list has the ID
without_lt : (x : ℕ) (pool : List ClassItem) → has x pool ≡ true → length (without x pool) < length pool
without_lt x [] h = absurd cc
without_lt x (c ∷ cs) h = elim (cases_eq x c.id) [
  | inl gone ↦
      let e : (x == c.id) ≡ true = eq-eqb x c.id gone in
      let rest : length (without x cs) ≤ length cs = without_le x cs in
      rw e (omega arith)
  | inr stays ↦
      let e : (x == c.id) ≡ false = ne_eqb x c.id stays in
      let later : has x cs ≡ true = rw e at h in
      let rest : length (without x cs) < length cs = without_lt x cs later in
      rw e (omega arith)
]

-- each ID at which classes lead up is one of a list
abbrev pub Within : List ClassItem → ℕ → List ClassItem → Type 0
Within pool id [] = Unit {0}
Within pool id (c ∷ cs) = (has id pool ≡ true) × Within pool c.super cs

module _ (classes : List ClassItem) where
  -- joined ways
  pub Lead-append : (up vp : List ClassItem) (a b c : ℕ) → LeadUp classes a up b → LeadUp classes b vp c → LeadUp classes a (up ++ vp) c
  Lead-append [] vp a b c h k = rw h k
  Lead-append (u ∷ us) vp a b c h k = (h.0, Lead-append us vp u.super b c h.1 k)

  -- the front of a way
  Lead-take : (n : ℕ) (up : List ClassItem) (a b : ℕ) → LeadUp classes a up b → n ≤ length up → (end : ℕ) × LeadUp classes a (take n up) end
  Lead-take zero up a b h le = (a, refl)
  Lead-take (suc n) [] a b h le = absurd (omega arith)
  Lead-take (suc n) (u ∷ us) a b h le = let rest = Lead-take n us u.super b h.1 (omega arith) in (rest.0, (h.0, rest.1))

  -- a way that comes to an ID twice
  record Round (id : ℕ) : Type 0 where
    turn : ℕ
    way : List ClassItem
    first : ClassItem
    rest : List ClassItem
    to_turn : LeadUp classes id way turn
    around : LeadUp classes turn (first ∷ rest) turn

  -- `n` times round
  rounds : (id : ℕ) (r : Round id) (n : ℕ) → (up : List ClassItem) × LeadUp classes r.turn up r.turn × (n ≤ length up)
  rounds id r zero = ([], refl, omega arith)
  rounds id r (suc n) =
      let more = rounds id r n in
      let once : List ClassItem = r.first ∷ r.rest in
      let long : length (once ++ more.0) ≡ length once + length more.0 = length-append once more.0 in
      let many : n ≤ length more.0 = more.2 in
      (once ++ more.0, Lead-append once more.0 r.turn r.turn r.turn r.around more.1, omega arith)

  -- such a way never ends
  for_ever : (id : ℕ) → Round id → NeverEnds classes id
  for_ever id r n =
      let more = rounds id r n in
      let whole : List ClassItem = r.way ++ more.0 in
      let long : length whole ≡ length r.way + length more.0 = length-append r.way more.0 in
      let many : n ≤ length more.0 = more.2 in
      let enough : n ≤ length whole = omega arith in
      let front = Lead-take n whole id r.turn (Lead-append r.way more.0 id r.turn r.turn r.to_turn more.1) enough in
      (take n whole, front.0, length-take-le n whole enough, front.1)

  -- a way comes to an ID, or all its IDs are others
  meets_or_not : (x : ℕ) (pool : List ClassItem) (up : List ClassItem) (id end : ℕ) → LeadUp classes id up end → Within pool id up
      → ((way : List ClassItem) × LeadUp classes id way x) ⊎ Within (without x pool) id up
  meets_or_not x pool [] id end h w = inr tt
  meets_or_not x pool (c ∷ cs) id end h w = elim (cases_eq x id) [
    | inl here ↦ inl ([], sym here)
    | inr differ ↦ elim (meets_or_not x pool cs c.super end h.1 w.1) [
      | inl later ↦ inl (c ∷ later.0, (h.0, later.1))
      | inr never ↦ inr (has_without x id pool differ w.0, never)
    ]
  ]

  -- a way of more classes than a list has, within that list, comes to an ID twice
  some_round : (up pool : List ClassItem) (id end : ℕ) → LeadUp classes id up end → Within pool id up → length pool < length up → Round id
  some_round [] pool id end h w more = absurd (omega arith)
  some_round (c ∷ cs) pool id end h w more = elim (meets_or_not id pool cs c.super end h.1 w.1) [
    | inl again ↦ record { turn = id; way = []; first = c; rest = again.0; to_turn = refl; around = (h.0, again.1) }
    | inr never ↦
        let fewer : length (without id pool) < length pool = without_lt id pool w.0 in
        let r = some_round cs (without id pool) c.super end h.1 never (omega arith) in
        record { turn = r.turn; way = c ∷ r.way; first = r.first; rest = r.rest; to_turn = (h.0, r.to_turn); around = r.around }
  ]

  -- what is found has the ID
  found_has : (id : ℕ) (c : ClassItem) (pool : List ClassItem) → find (λ (d : ClassItem). id == d.id) pool ≡ Some c → has id pool ≡ true
  found_has id c [] e = absurd cc
  found_has id c (d ∷ ds) e = elim (cases_eq id d.id) [
    | inl same ↦ let this : (id == d.id) ≡ true = eq-eqb id d.id same in rw this refl
    | inr apart ↦
        let other : (id == d.id) ≡ false = ne_eqb id d.id apart in
        let later : find (λ (d : ClassItem). id == d.id) ds ≡ Some c = rw other at e in
        rw other (found_has id c ds later)
  ]

  class_has : (id : ℕ) (c : ClassItem) → class_at classes id ≡ Some c → has id classes ≡ true
  class_has id c e = elim (cases_eq id 0) [
    | inl null ↦ let none : (id == 0) ≡ true = eq-eqb id 0 null in let both : None ≡ Some c = rw none at e in absurd cc
    | inr some ↦
        let there : (id == 0) ≡ false = ne_eqb id 0 some in
        let found : find (λ (d : ClassItem). id == d.id) classes ≡ Some c = rw there at e in
        found_has id c classes found
  ]

  -- all IDs of a way are those of classes
  all_within : (up : List ClassItem) (id end : ℕ) → LeadUp classes id up end → Within classes id up
  all_within [] id end h = tt
  all_within (c ∷ cs) id end h = (class_has id c h.0, all_within cs c.super end h.1)

  -- a way of more classes than there are never ends
  pub too_long : (id : ℕ) (up : List ClassItem) (end : ℕ) → LeadUp classes id up end → length classes < length up → NeverEnds classes id
  too_long id up end h more = for_ever id (some_round up classes id end h (all_within up id end h) more)
