-- Lemmas on the chains of classes: a class's is that of its super class, with the class before it.
use Rattle.std.proofs.Common.{◌≡◌, ◌≢◌, ◌∙◌, ◌⊎◌, inl, inr, ℕ, zero, suc, List, [], ◌∷◌, ◌++◌, length, Option, Some, None, Bool, true, false, cond, eqb, refl}
use Rattle.std.proofs.Common.{sym, ap, subst, arith, ne_eqb}
use Rattle.std.specs.List.{find}
use Rattle.std.specs.Option.{is_some}
use Rattle.std.proofs.lemmas.Bool.Decides.{eqb_tells}
use Rattle.hd_terms.specs.SubRecords.{ClassItem}
use Rattle.hd_terms.specs.Classes.{ChainPrefix, LeadUp, IsClassChain, NeverEnds, class_at, prefix_on, chain_prefix, longest_prefix, chain_of, never_ends}

-- what `class_chains` ensures
abbrev pub Found : Type 0
Found = (classes : List ClassItem) (id : ℕ) (chain : List ClassItem) → IsClassChain classes id chain → chain_of classes id ≡ Some chain

abbrev pub IsFound : Type 0
IsFound = (classes : List ClassItem) (id : ℕ) (chain : List ClassItem) → chain_of classes id ≡ Some chain → IsClassChain classes id chain

abbrev pub Told : Type 0
Told = (classes : List ClassItem) (id : ℕ) → NeverEnds classes id → never_ends classes id ≡ true

abbrev pub IsTold : Type 0
IsTold = (classes : List ClassItem) (id : ℕ) → never_ends classes id ≡ true → NeverEnds classes id

some-none : {A : Type 0} (o : Option A) (a : A) → o ≡ Some a → o ≡ None → ⊥
some-none o a is none = cc

one-class : (o : Option ClassItem) (c d : ClassItem) → o ≡ Some c → o ≡ Some d → c ≡ d
one-class o c d is at = cc

true-false : (b : Bool) → b ≡ true → b ≡ false → ⊥
true-false b t f = cc

module _ (classes : List ClassItem) where
  -- no class has the ID 0
  pub class-some : (id : ℕ) (c : ClassItem) → class_at classes id ≡ Some c → id ≢ 0
  class-some id c at = λ (null : id ≡ 0). some-none (class_at classes id) c at (ap (class_at classes) null)

  -- the class of an ID has it
  found-id : (id : ℕ) (cs : List ClassItem) (c : ClassItem) → find (λ (d : ClassItem). eqb id d.id) cs ≡ Some c → id ≡ c.id
  found-id id [] c is = cc
  found-id id (d ∷ cs) c is = by (eqb id d.id) (eqb_tells id d.id) (found-id id cs c) is
    where
      by : (b : Bool) → ((b ≡ true) × (id ≡ d.id)) ⊎ ((b ≡ false) × (id ≢ d.id)) → (find (λ (x : ClassItem). eqb id x.id) cs ≡ Some c → id ≡ c.id)
          → cond b (Some d) (find (λ (x : ClassItem). eqb id x.id) cs) ≡ Some c → id ≡ c.id
      by true (inl (e, same)) rest h = same ∙ ap (λ (x : ClassItem). x.id) (one-class (Some d) d c refl h)
      by true (inr (e, other)) rest h = absurd (true-false true refl e)
      by false t rest h = rest h

  pub class-id : (id : ℕ) (c : ClassItem) → class_at classes id ≡ Some c → c.id ≡ id
  class-id id c at = sym (found-id id classes c
      (sym (ap (λ (b : Bool). cond b None (find (λ (d : ClassItem). eqb id d.id) classes)) (ne_eqb id 0 (class-some id c at))) ∙ at))

  -- one class more at the end of a path
  pub lead-push : (up : List ClassItem) (id end : ℕ) (c : ClassItem) → LeadUp classes id up end → class_at classes end ≡ Some c
      → LeadUp classes id (up ++ c ∷ []) c.super
  lead-push [] id end c h at = (ap (class_at classes) h ∙ at, refl)
  lead-push (u ∷ up) id end c h at = (h.0, lead-push up u.super end c h.1 at)

  -- and without the one at its end
  pub lead-last : (up : List ClassItem) (id end : ℕ) (c : ClassItem) → LeadUp classes id (up ++ c ∷ []) end → (mid : ℕ) × LeadUp classes id up mid
      × (class_at classes mid ≡ Some c) × (c.super ≡ end)
  lead-last [] id end c h = (id, refl, h.0, h.1)
  lead-last (u ∷ up) id end c h = let rest = lead-last up u.super end c h.1 in (rest.0, (h.0, rest.1), rest.2, rest.3)

  -- a path is a prefix of its length
  lead-prefix : (up : List ClassItem) (id end : ℕ) → LeadUp classes id up end → chain_prefix (length up) classes id ≡ record { classes = up; end = end }
  lead-prefix [] id end h = ap (λ (x : ℕ). let t : ChainPrefix = record { classes = []; end = x } in t) h
  lead-prefix (u ∷ up) id end h =
      ap (λ (o : Option ClassItem). prefix_on id o (λ (c : ClassItem). chain_prefix (length up) classes c.super)) h.0
      ∙ ap (λ (t : ChainPrefix). let v : ChainPrefix = record { classes = u ∷ t.classes; end = t.end } in v) (lead-prefix up u.super end h.1)

  -- so a path with as many classes as there are, which goes on, never ends
  pub path-cycle : (up : List ClassItem) (id end : ℕ) (c : ClassItem) → LeadUp classes id up end → length up ≡ length classes → class_at classes end ≡ Some c
      → never_ends classes id ≡ true
  path-cycle up id end c h long at =
      ap (λ (n : ℕ). is_some (class_at classes (chain_prefix n classes id).end)) (sym long)
      ∙ ap (λ (t : ChainPrefix). is_some (class_at classes t.end)) (lead-prefix up id end h)
      ∙ ap is_some at

  -- the chain of a class whose super class has one, or that has no super class
  pub whole-up : Found → (id : ℕ) (c : ClassItem) (chain : List ClassItem) → class_at classes id ≡ Some c → LeadUp classes c.super chain 0
      → chain_of classes id ≡ Some (c ∷ chain)
  whole-up found id c chain at lead = found classes id (c ∷ chain) (record { some = class-some id c at; whole = (at, lead) })

  -- a class whose super class has no chain has none
  pub broken-up : Found → IsFound → (id : ℕ) (c : ClassItem) → class_at classes id ≡ Some c → c.super ≢ 0 → chain_of classes c.super ≡ None
      → chain_of classes id ≡ None
  broken-up found is_found id c at some none = by (chain_of classes id) refl
    where
      on : (chain : List ClassItem) → LeadUp classes id chain 0 → ⊥
      on [] lead = class-some id c at lead
      on (d ∷ chain) lead =
          let same : d ≡ c = one-class (class_at classes id) d c lead.0 at in
          let rest : LeadUp classes c.super chain 0 = subst (λ (x : ClassItem). LeadUp classes x.super chain 0) same lead.1 in
          some-none (chain_of classes c.super) chain (found classes c.super chain (record { some = some; whole = rest })) none

      by : (o : Option (List ClassItem)) → chain_of classes id ≡ o → o ≡ None
      by None e = refl
      by (Some chain) e = absurd (on chain (is_found classes id chain e).whole)

  -- nor does its chain end where that of the super class does not
  pub ends-up : Told → IsTold → (id : ℕ) (c : ClassItem) → class_at classes id ≡ Some c → never_ends classes c.super ≡ false → never_ends classes id ≡ false
  ends-up told is_told id c at ends = by (never_ends classes id) refl
    where
      rest : (n : ℕ) (up : List ClassItem) (end : ℕ) → length up ≡ suc n → LeadUp classes id up end → (vp : List ClassItem) × (to : ℕ) × (length vp ≡ n)
          × LeadUp classes c.super vp to
      rest n [] end long lead = absurd (omega (arith, long))
      rest n (d ∷ up) end long lead =
          let same : d ≡ c = one-class (class_at classes id) d c lead.0 at in
          (up, end, omega (arith, long), subst (λ (x : ClassItem). LeadUp classes x.super up end) same lead.1)

      by : (b : Bool) → never_ends classes id ≡ b → b ≡ false
      by false e = refl
      by true e =
          let never = is_told classes id e in
          absurd (true-false (never_ends classes c.super)
          (told classes c.super (λ (n : ℕ). let longer = never (suc n) in rest n longer.0 longer.1 longer.2 longer.3)) ends)

  -- a chain that is whole ends
  pub whole-ends : (id : ℕ) (chain : List ClassItem) → chain_of classes id ≡ Some chain → never_ends classes id ≡ false
  whole-ends id chain is = by (eqb_tells (longest_prefix classes id).end 0)
    where
      none-here : (a b : Bool) (cs : List ClassItem) → b ≡ false → cond a None (cond b (Some cs) None) ≡ None
      none-here true b cs e = refl
      none-here false true cs e = absurd (true-false true refl e)
      none-here false false cs e = refl

      by : ((eqb (longest_prefix classes id).end 0 ≡ true) × ((longest_prefix classes id).end ≡ 0))
          ⊎ ((eqb (longest_prefix classes id).end 0 ≡ false) × ((longest_prefix classes id).end ≢ 0)) → never_ends classes id ≡ false
      by (inl (e, null)) = ap (λ (n : ℕ). is_some (class_at classes n)) null
      by (inr (e, other)) =
          absurd (some-none (chain_of classes id) chain is (none-here (eqb id 0) (eqb (longest_prefix classes id).end 0) (longest_prefix classes id).classes e))

  -- an ID that is no class's
  chain_prefix-none : (n id : ℕ) → class_at classes id ≡ None → (chain_prefix n classes id).end ≡ id
  chain_prefix-none zero id at = refl
  chain_prefix-none (suc n) id at = ap (λ (o : Option ClassItem). (prefix_on id o (λ (d : ClassItem). chain_prefix n classes d.super)).end) at

  pub absent-ends : (id : ℕ) → class_at classes id ≡ None → never_ends classes id ≡ false
  absent-ends id none = ap (λ (n : ℕ). is_some (class_at classes n)) (chain_prefix-none (length classes) id none) ∙ ap is_some none

  pub absent-chain : (id : ℕ) → class_at classes id ≡ None → chain_of classes id ≡ None
  absent-chain id none = by (eqb id 0) refl
    where
      by : (b : Bool) → eqb id 0 ≡ b → cond b None (cond (eqb (longest_prefix classes id).end 0) (Some (longest_prefix classes id).classes) None) ≡ None
      by true e = refl
      by false e =
          ap (λ (n : ℕ). let o : Option (List ClassItem) = cond (eqb n 0) (Some (longest_prefix classes id).classes) None in o)
          (chain_prefix-none (length classes) id none)
          ∙ ap (λ (b : Bool). let o : Option (List ClassItem) = cond b (Some (longest_prefix classes id).classes) None in o) e

  pub null-ends : (id : ℕ) → id ≡ 0 → never_ends classes id ≡ false
  null-ends id null = absent-ends id (ap (class_at classes) null)
