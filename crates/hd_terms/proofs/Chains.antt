-- `chain_of` finds the chain of a class, and `never_ends` tells of those that never end.
use Rattle.std.proofs.Common.{◌≡◌, ◌∙◌, ℕ, zero, suc, ◌+◌, ◌≤◌, ◌==◌, true, false, if◌then◌else◌, ◌⊎◌, inl, inr, List, [], ◌∷◌, ◌++◌, length, Option, Some}
use Rattle.std.proofs.Common.{None, is_some, subst, sym, ap, refl, eq-eqb, arith}
use Rattle.std.proofs.lemmas.Bool.{cases_eq, cases_lt, ne_eqb}
use Rattle.std.proofs.lemmas.List.{length-append}
use Rattle.hd_terms.specs.SubRecords.{ClassItem}
use Rattle.hd_terms.specs.Classes.{class_at, LeadUp, IsClassChain, NeverEnds, ChainPrefix, prefix_on, chain_prefix, longest_prefix, chain_of, never_ends}
use Rattle.hd_terms.proofs.Pigeonhole.{Lead-append, too_long}

-- something isn't nothing
some_or_none : (o : Option ClassItem) (c : ClassItem) → o ≡ Some c → o ≡ None → ⊥
some_or_none o c some none = let both : None ≡ Some c = sym none ∙ some in cc

-- one thing is found
same_class : (o : Option ClassItem) (c d : ClassItem) → o ≡ Some c → o ≡ Some d → c ≡ d
same_class o c d h k = let both : Some c ≡ Some d = sym h ∙ k in cc

-- something or nothing
some_or_not : (o : Option ClassItem) → (is_some o ≡ true) ⊎ (o ≡ None)
some_or_not None = inr refl
some_or_not (Some c) = inl refl

the_some : (o : Option ClassItem) → is_some o ≡ true → (c : ClassItem) × (o ≡ Some c)
the_some None h = absurd cc
the_some (Some c) h = (c, refl)

module _ (classes : List ClassItem) where
  -- no way is longer than one that ends where no class is
  no_longer : (up vp : List ClassItem) (id a b : ℕ) → LeadUp classes id up a → class_at classes a ≡ None → LeadUp classes id vp b → length vp ≤ length up
  no_longer up [] id a b h none k = omega arith
  no_longer [] (v ∷ vs) id a b h none k = absurd (some_or_none (class_at classes id) v k.0 (ap (class_at classes) h ∙ none))
  no_longer (u ∷ us) (v ∷ vs) id a b h none k =
      let same : v ≡ u = same_class (class_at classes id) v u k.0 h.0 in
      let rest : LeadUp classes u.super vs b = subst (λ (w : ClassItem). LeadUp classes w.super vs b) same k.1 in
      let short : length vs ≤ length us = no_longer us vs u.super a b h.1 none rest in
      omega arith

  -- a way that ends where no class is has no more classes than there are
  no_more : (up : List ClassItem) (id end : ℕ) → LeadUp classes id up end → class_at classes end ≡ None → length up ≤ length classes
  no_more up id end h none = elim (cases_lt (length classes) (length up)) [
    | inl more ↦
        let longer = too_long classes id up end h more (suc (length up)) in
        let long : length longer.0 ≡ suc (length up) = longer.2 in
        let short : length longer.0 ≤ length up = no_longer up longer.0 id end longer.1 h none longer.3 in
        absurd (omega arith)
    | inr most ↦ most
  ]

  -- the next class of a chain_prefix
  abbrev Next : Type 0
  Next = ClassItem → ChainPrefix

  -- a chain_prefix leads up
  leads_on : (id : ℕ) (more : Next) (o : Option ClassItem) → class_at classes id ≡ o → ((c : ClassItem) → LeadUp classes c.super (more c).classes (more c).end)
      → LeadUp classes id (prefix_on id o more).classes (prefix_on id o more).end
  leads_on id more None e h = refl
  leads_on id more (Some c) e h = (e, h c)

  prefix_leads : (n id : ℕ) → LeadUp classes id (chain_prefix n classes id).classes (chain_prefix n classes id).end
  prefix_leads zero id = refl
  prefix_leads (suc n) id = leads_on id (λ (c : ClassItem). chain_prefix n classes c.super) (class_at classes id) refl (λ c. prefix_leads n c.super)

  -- it has no more classes than were asked for
  short_on : (n id : ℕ) (more : Next) (o : Option ClassItem) → ((c : ClassItem) → length (more c).classes ≤ n) → length (prefix_on id o more).classes ≤ suc n
  short_on n id more None h = omega arith
  short_on n id more (Some c) h = let rest : length (more c).classes ≤ n = h c in omega arith

  prefix_short : (n id : ℕ) → length (chain_prefix n classes id).classes ≤ n
  prefix_short zero id = omega arith
  prefix_short (suc n) id = short_on n id (λ (c : ClassItem). chain_prefix n classes c.super) (class_at classes id) (λ c. prefix_short n c.super)

  -- it has as many, or it ends where no class is
  abbrev IsFull : ℕ → ChainPrefix → Type 0
  IsFull n t = (length t.classes ≡ n) ⊎ (class_at classes t.end ≡ None)

  full_on : (n id : ℕ) (more : Next) (o : Option ClassItem) → class_at classes id ≡ o → ((c : ClassItem) → IsFull n (more c))
      → IsFull (suc n) (prefix_on id o more)
  full_on n id more None e h = inr e
  full_on n id more (Some c) e h = elim (h c) [ inl long ↦ inl (ap suc long) | inr none ↦ inr none ]

  prefix_full : (n id : ℕ) → IsFull n (chain_prefix n classes id)
  prefix_full zero id = inl refl
  prefix_full (suc n) id = full_on n id (λ (c : ClassItem). chain_prefix n classes c.super) (class_at classes id) refl (λ c. prefix_full n c.super)

  -- the chain_prefix of a way that ends where no class is and isn't longer is that way
  prefix_whole : (n : ℕ) (up : List ClassItem) (id end : ℕ) → LeadUp classes id up end → class_at classes end ≡ None → length up ≤ n
      → chain_prefix n classes id ≡ record { classes = up; end = end }
  prefix_whole zero [] id end h none le = ap (λ (x : ℕ). let t : ChainPrefix = record { classes = []; end = x } in t) h
  prefix_whole zero (u ∷ us) id end h none le = absurd (omega arith)
  prefix_whole (suc n) [] id end h none le =
      ap (λ (o : Option ClassItem). prefix_on id o (λ (c : ClassItem). chain_prefix n classes c.super)) (ap (class_at classes) h ∙ none)
      ∙ ap (λ (x : ℕ). let t : ChainPrefix = record { classes = []; end = x } in t) h
  prefix_whole (suc n) (u ∷ us) id end h none le =
      ap (λ (o : Option ClassItem). prefix_on id o (λ (c : ClassItem). chain_prefix n classes c.super)) h.0
      ∙ ap (λ (t : ChainPrefix). let v : ChainPrefix = record { classes = u ∷ t.classes; end = t.end } in v)
      (prefix_whole n us u.super end h.1 none (omega arith))

  -- the classes of a chain_prefix that ends at ID 0
  abbrev whole_chain : ChainPrefix → Option (List ClassItem)
  whole_chain t = if t.end == 0 then Some t.classes else None

  -- the chain of a class is found
  pub chain_found : (id : ℕ) (chain : List ClassItem) → IsClassChain classes id chain → chain_of classes id ≡ Some chain
  chain_found id chain is =
      let some : (id == 0) ≡ false = ne_eqb id 0 is.some in
      let same : longest_prefix classes id ≡ record { classes = chain; end = 0 } = prefix_whole (length classes) chain id 0 is.whole refl
      (no_more chain id 0 is.whole refl) in
      rw some (ap whole_chain same)

  -- what is found at ID 0
  whole_at : (t : ChainPrefix) (chain : List ClassItem) → whole_chain t ≡ Some chain → (t.end ≡ 0) × (t.classes ≡ chain)
  whole_at t chain h = elim (cases_eq t.end 0) [
    | inl top ↦
        let here : (t.end == 0) ≡ true = eq-eqb t.end 0 top in
        let both : Some t.classes ≡ Some chain = rw here at h in
        let same : t.classes ≡ chain = cc in
        (top, same)
    | inr other ↦
        let not_here : (t.end == 0) ≡ false = ne_eqb t.end 0 other in
        let both : None ≡ Some chain = rw not_here at h in
        absurd cc
  ]

  -- what is found is the chain of the class
  pub found_is_chain : (id : ℕ) (chain : List ClassItem) → chain_of classes id ≡ Some chain → IsClassChain classes id chain
  found_is_chain id chain h = elim (cases_eq id 0) [
    | inl null ↦
        let none : (id == 0) ≡ true = eq-eqb id 0 null in
        let both : None ≡ Some chain = rw none at h in
        absurd cc
    | inr some ↦
        let there : (id == 0) ≡ false = ne_eqb id 0 some in
        let found : whole_chain (longest_prefix classes id) ≡ Some chain = rw there at h in
        let t : ChainPrefix = longest_prefix classes id in
        let is = whole_at t chain found in
        let to_top : LeadUp classes id t.classes 0 = subst (λ (x : ℕ). LeadUp classes id t.classes x) is.0 (prefix_leads (length classes) id) in
        record { some = some; whole = subst (λ (cs : List ClassItem). LeadUp classes id cs 0) is.1 to_top }
  ]

  -- a chain that never ends is told
  pub cycle_told : (id : ℕ) → NeverEnds classes id → never_ends classes id ≡ true
  cycle_told id h =
      let t : ChainPrefix = longest_prefix classes id in
      elim (some_or_not (class_at classes t.end)) [
        | inl some ↦ some
        | inr none ↦
            let long = h (suc (length classes)) in
            let many : length long.0 ≡ suc (length classes) = long.2 in
            let short : length long.0 ≤ length t.classes = no_longer t.classes long.0 id t.end long.1 (prefix_leads (length classes) id) none long.3 in
            let few : length t.classes ≤ length classes = prefix_short (length classes) id in
            absurd (omega arith)
      ]

  -- and what is told never ends
  pub told_never_ends : (id : ℕ) → never_ends classes id ≡ true → NeverEnds classes id
  told_never_ends id h =
      let t : ChainPrefix = longest_prefix classes id in
      let next = the_some (class_at classes t.end) h in
      let way : List ClassItem = t.classes ++ next.0 ∷ [] in
      let leads : LeadUp classes id way next.0.super = Lead-append classes t.classes (next.0 ∷ []) id t.end next.0.super (prefix_leads (length classes) id)
      (next.1, refl) in
      elim (prefix_full (length classes) id) [
        | inl full ↦
            let long : length way ≡ length t.classes + 1 = length-append t.classes (next.0 ∷ []) in
            too_long classes id way next.0.super leads (omega arith)
        | inr none ↦ absurd (some_or_none (class_at classes t.end) next.0 next.1 none)
      ]
