-- Lemmas on what is known of a class, by what is known of its super class.
use Rattle.std.proofs.Common.{◌≡◌, ◌∙◌, inl, inr, ℕ, suc, ◌+◌, ◌<◌, ◌≤◌, List, [], ◌∷◌, ◌++◌, length, map, Option, Some, None, Bool, true, false, not, cond}
use Rattle.std.proofs.Common.{ltb, refl, sym, ap, arith}
use Rattle.std.specs.Prelude.{unwrap_or}
use Rattle.std.specs.List.{filter_map, cons_option, position, prefix_len, slice_get}
use Rattle.std.specs.Option.{option_map, option_or}
use Rattle.std.proofs.lemmas.Bool.{cases_lt, lt-ltb, ltb-true}
use Rattle.hd_terms.specs.declared.EdgeKind.{EdgeKind}
use Rattle.hd_terms.specs.declared.EdgeKind.TheVariants as kinds
use Rattle.hd_terms.specs.SubRecords.{ClassItem}
use Rattle.hd_terms.specs.Classes.{ClassTable, ResolvedClass, chain_of, fields_of, layout_of, is_referent, referent_in, reference_kind, kind_in, resolved_class}
use Rattle.hd_terms.specs.Classes.{resolved_by}
use Rattle.hd_classes.specs.Links.{nothing}

-- the place of the first that passes, by the first element
not-ltb : (n m : ℕ) → m ≤ n → ltb n m ≡ false
not-ltb n m le = by (ltb n m) refl
  where
    by : (b : Bool) → ltb n m ≡ b → b ≡ false
    by true e = absurd (omega (arith, ltb-true n m e, le))
    by false e = refl

ltb-suc : (n m : ℕ) → ltb (1 + n) (suc m) ≡ ltb n m
ltb-suc n m = elim (cases_lt n m) [
  | inl less ↦ lt-ltb (1 + n) (suc m) (omega (arith, less)) ∙ sym (lt-ltb n m less)
  | inr most ↦ not-ltb (1 + n) (suc m) (omega (arith, most)) ∙ sym (not-ltb n m most)
]

module _ {X : Type 0} (p : X → Bool) where
  position-nil : position p [] ≡ None
  position-nil = ap (λ (b : Bool). let o : Option ℕ = cond b (Some 0) None in o) (not-ltb 0 0 (omega arith))

  case-cons : (b : Bool) (n m : ℕ) → (let k : ℕ = cond (not b) (1 + n) 0 in let o : Option ℕ = cond (ltb k (suc m)) (Some k) None in o) ≡ cond b (Some 0)
      (option_map suc (cond (ltb n m) (Some n) None))
  case-cons true n m = ap (λ (b : Bool). let o : Option ℕ = cond b (Some 0) None in o) (lt-ltb 0 (suc m) (omega arith))
  case-cons false n m =
      let same : 1 + n ≡ suc n = omega arith in
      ap (λ (b : Bool). let o : Option ℕ = cond b (Some (1 + n)) None in o) (ltb-suc n m)
      ∙ ap (λ (k : ℕ). let o : Option ℕ = cond (ltb n m) (Some k) None in o) same ∙ on (ltb n m)
    where
      on : (b : Bool) → (let o : Option ℕ = cond b (Some (suc n)) None in o) ≡ option_map suc (cond b (Some n) None)
      on true = refl
      on false = refl

  position-cons : (x : X) (xs : List X) → position p (x ∷ xs) ≡ cond (p x) (Some 0) (option_map suc (position p xs))
  position-cons x xs = case-cons (p x) (prefix_len (λ (y : X). not (p y)) xs) (length xs)

  -- that of two lists
  case-nil : (o : Option ℕ) → o ≡ option_map (λ (i : ℕ). i + 0) o
  case-nil None = refl
  case-nil (Some i) = let same : i ≡ i + 0 = omega arith in ap (λ (n : ℕ). Some n) same

  case-append : (b : Bool) (n : ℕ) (o q : Option ℕ) → cond b (Some 0) (option_map suc (option_or o (option_map (λ (i : ℕ). i + n) q)))
      ≡ option_or (cond b (Some 0) (option_map suc o)) (option_map (λ (i : ℕ). i + suc n) q)
  case-append true n o q = refl
  case-append false n (Some i) q = refl
  case-append false n None None = refl
  case-append false n None (Some i) = let same : suc (i + n) ≡ i + suc n = omega arith in ap (λ (k : ℕ). Some k) same

  pub position-append : (xs ys : List X) → position p (xs ++ ys) ≡ option_or (position p xs) (option_map (λ (i : ℕ). i + length xs) (position p ys))
  position-append [] ys = case-nil (position p ys) ∙ ap (λ (o : Option ℕ). option_or o (option_map (λ (i : ℕ). i + 0) (position p ys))) (sym position-nil)
  position-append (x ∷ xs) ys =
      position-cons x (xs ++ ys)
      ∙ ap (λ (o : Option ℕ). cond (p x) (Some 0) (option_map suc o)) (position-append xs ys)
      ∙ case-append (p x) (length xs) (position p xs) (position p ys)
      ∙ ap (λ (o : Option ℕ). option_or o (option_map (λ (i : ℕ). i + suc (length xs)) (position p ys))) (sym (position-cons x xs))

  case-within : (b : Bool) (n m i : ℕ) → ltb n m ≡ b → cond b (Some n) None ≡ Some i → i < m
  case-within true n m i e is = let same : n ≡ i = cc in omega (arith, ltb-true n m e, same)
  case-within false n m i e is = cc

  pub position-within : (xs : List X) (i : ℕ) → position p xs ≡ Some i → i < length xs
  position-within xs i is = case-within (ltb (prefix_len (λ (y : X). not (p y)) xs) (length xs)) (prefix_len (λ (y : X). not (p y)) xs) (length xs) i refl is

-- the kind of a chain, by its first class
kind-cons : (o : Option EdgeKind) (ks : List EdgeKind) → unwrap_or (slice_get (cons_option o ks) 0) kinds.Strong ≡ unwrap_or o
    (unwrap_or (slice_get ks 0) kinds.Strong)
kind-cons None ks = refl
kind-cons (Some k) ks = refl

module _ (t : ClassTable) where
  -- what is known of a class whose super class has this
  abbrev pub known_under : ClassItem → ResolvedClass → ResolvedClass
  known_under c above = record {
    chain = c.id ∷ above.chain;
    layout = fields_of c ++ above.layout;
    referent = option_or (referent_in t (fields_of c)) (option_map (λ (i : ℕ). i + length (fields_of c)) above.referent);
    kind = unwrap_or (reference_kind t c.id) above.kind;
  }

  pub resolved-cons : (c : ClassItem) (chain : List ClassItem) → resolved_by t (c ∷ chain) ≡ known_under c (resolved_by t chain)
  resolved-cons c chain =
      let of : Option ℕ → EdgeKind → ResolvedClass =
      λ (r : Option ℕ) (k : EdgeKind). record {
        chain = c.id ∷ map (λ (d : ClassItem). d.id) chain;
        layout = fields_of c ++ layout_of chain;
        referent = r;
        kind = k;
      } in
      ap (λ (r : Option ℕ). of r (kind_in t (c ∷ chain))) (position-append (is_referent t) (fields_of c) (layout_of chain))
      ∙ ap (of (option_or (referent_in t (fields_of c)) (option_map (λ (i : ℕ). i + length (fields_of c)) (referent_in t (layout_of chain)))))
      (kind-cons (reference_kind t c.id) (filter_map (λ (d : ClassItem). reference_kind t d.id) chain))

  pub resolved-nil : resolved_by t [] ≡ nothing
  resolved-nil = ap (λ (r : Option ℕ). let k : ResolvedClass = record { chain = []; layout = []; referent = r; kind = kinds.Strong } in k)
      (position-nil (is_referent t))

  -- what is known of a class is known by its chain
  pub resolved-chain : (id : ℕ) (k : ResolvedClass) → resolved_class t id ≡ Some k → (chain : List ClassItem) × (chain_of t.classes id ≡ Some chain)
      × (k ≡ resolved_by t chain)
  resolved-chain id k is = by (chain_of t.classes id) refl is
    where
      by : (o : Option (List ClassItem)) → chain_of t.classes id ≡ o → option_map (resolved_by t) o ≡ Some k → (chain : List ClassItem)
          × (chain_of t.classes id ≡ Some chain) × (k ≡ resolved_by t chain)
      by None e h = cc
      by (Some chain) e h = let same : k ≡ resolved_by t chain = cc in (chain, e, same)

  pub resolved-some : (id : ℕ) (chain : List ClassItem) → chain_of t.classes id ≡ Some chain → resolved_class t id ≡ Some (resolved_by t chain)
  resolved-some id chain is = ap (option_map (resolved_by t)) is

  pub resolved-none : (id : ℕ) → chain_of t.classes id ≡ None → resolved_class t id ≡ None
  resolved-none id none = ap (option_map (resolved_by t)) none
