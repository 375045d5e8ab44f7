-- Lemmas on looking classes up.
use Rattle.std.proofs.Common.{◌≡◌, ◌∙◌, ℕ, zero, suc, slice_index, ◌+◌, ◌<◌, List, [], ◌∷◌, length, Option, Some, None, Bool, not, cond, eqb, ltb, refl, sym}
use Rattle.std.proofs.Common.{ap, arith}
use Rattle.std.specs.List.{slice_get, position, prefix_len}
use Rattle.std.specs.Map.{lookup, keys_of}
use Rattle.std.specs.Option.{option_map, option_map_or, option_and_then}
use Rattle.std.proofs.lemmas.Option.{slice_get-get_or}
use Rattle.hd_terms.specs.declared.EdgeKind.TheVariants as kinds
use Rattle.hd_terms.specs.Classes.{ResolvedClass}
use Rattle.hd_classes.specs.declared.linked.LinkedClass.{LinkedClass}
use Rattle.hd_classes.specs.Links.{Row, View, views, nothing, numbered}
use Rattle.hd_classes.proofs.LinkLemmas.{Facts, view_facts, row_facts, lookup-facts, lookup-place, views-keys, views-length}

-- the place of an ID among entries is that among their keys
module _ {X : Type 0} (test : ℕ → Bool) where
  prefix-keys : (es : List (ℕ × X)) → prefix_len (λ (p : ℕ × X). test p.0) es ≡ prefix_len test (keys_of es)
  prefix-keys [] = refl
  prefix-keys (e ∷ es) = ap (λ (n : ℕ). cond (test e.0) (1 + n) 0) (prefix-keys es)

  length-keys : (es : List (ℕ × X)) → length es ≡ length (keys_of es)
  length-keys [] = refl
  length-keys (e ∷ es) = ap suc (length-keys es)

pub position-keys : {X : Type 0} (test : ℕ → Bool) (es : List (ℕ × X)) → position (λ (p : ℕ × X). test p.0) es ≡ position test (keys_of es)
position-keys test es =
    ap (λ (n : ℕ). cond (ltb n (length es)) (Some n) None) (prefix-keys (λ (id : ℕ). not (test id)) es)
    ∙ ap (λ (n : ℕ). cond (ltb (prefix_len (λ (id : ℕ). not (test id)) (keys_of es)) n) (Some (prefix_len (λ (id : ℕ). not (test id)) (keys_of es))) None)
    (length-keys (λ (id : ℕ). not (test id)) es)

-- the key of an entry
pub key-at : {X : Type 0} (es : List (ℕ × X)) (i : ℕ) (e : ℕ × X) → slice_get es i ≡ Some e → (i < length (keys_of es)) × (slice_index (keys_of es) i ≡ e.0)
key-at [] i e is = absurd cc
key-at (x ∷ es) zero e is = let same : x ≡ e = cc in (omega arith, ap (λ (p : _). p.0) same)
key-at (x ∷ es) (suc i) e is = let r = key-at es i e is in (omega (arith, r.0), r.1)

-- the referent and the kind by an ID
case-referent : (o : Option ResolvedClass) (l : LinkedClass) → option_map view_facts o ≡ Some (row_facts l)
    → l.referent ≡ option_and_then (λ (x : ResolvedClass). x.referent) o
case-referent None l e = cc
case-referent (Some k) l e = let same : view_facts k ≡ row_facts l = cc in sym (ap (λ (f : Facts). f.0) same)

case-kind : (o : Option ResolvedClass) (l : LinkedClass) → option_map view_facts o ≡ Some (row_facts l)
    → l.kind ≡ option_map_or (λ (x : ResolvedClass). x.kind) o kinds.Strong
case-kind None l e = cc
case-kind (Some k) l e = let same : view_facts k ≡ row_facts l = cc in sym (ap (λ (f : Facts). f.1) same)

module _ (rows : List Row) (id : ℕ) where
  found-facts : (l : LinkedClass) → Some l ≡ lookup (λ (x : ℕ). eqb id x) rows → option_map view_facts (lookup (λ (x : ℕ). eqb id x) (views rows)) ≡ Some
      (row_facts l)
  found-facts l is = lookup-facts (λ (x : ℕ). eqb id x) rows ∙ ap (option_map row_facts) (sym is)

  pub referent-of : (l : LinkedClass) → Some l ≡ lookup (λ (x : ℕ). eqb id x) rows → l.referent ≡ option_and_then (λ (x : ResolvedClass). x.referent)
      (lookup (λ (x : ℕ). eqb id x) (views rows))
  referent-of l is = case-referent (lookup (λ (x : ℕ). eqb id x) (views rows)) l (found-facts l is)

  pub kind-of : (l : LinkedClass) → Some l ≡ lookup (λ (x : ℕ). eqb id x) rows → l.kind ≡ option_map_or (λ (x : ResolvedClass). x.kind)
      (lookup (λ (x : ℕ). eqb id x) (views rows)) kinds.Strong
  kind-of l is = case-kind (lookup (λ (x : ℕ). eqb id x) (views rows)) l (found-facts l is)

  case-none : (o : Option ResolvedClass) → option_map view_facts o ≡ None → o ≡ None
  case-none None e = refl
  case-none (Some k) e = cc

  pub none-known : None ≡ lookup (λ (x : ℕ). eqb id x) rows → lookup (λ (x : ℕ). eqb id x) (views rows) ≡ None
  none-known is = case-none (lookup (λ (x : ℕ). eqb id x) (views rows)) (lookup-facts (λ (x : ℕ). eqb id x) rows ∙ ap (option_map row_facts) (sym is))

  -- what is known of the ID of a number
  at-number : (i : ℕ) → i < length (views rows) → option_map (λ (p : View). p.1) (slice_get (views rows) i) ≡ Some (numbered (views rows) (Some i))
  at-number i lt =
      let is = slice_get-get_or (views rows) i (0, nothing) lt in
      ap (option_map (λ (p : View). p.1)) is ∙ sym (ap (λ (o : Option View). Some (option_map_or (λ (p : View). p.1) o nothing)) is)

  pub known-number : (i : ℕ) → Some i ≡ position (λ (x : ℕ). eqb id x) (keys_of rows) → i < length rows → lookup (λ (x : ℕ). eqb id x) (views rows) ≡ Some
      (numbered (views rows) (Some i))
  known-number i is lt =
      lookup-place (λ (x : ℕ). eqb id x) (views rows) i (is ∙ ap (position (λ (x : ℕ). eqb id x)) (sym (views-keys rows [])))
      ∙ at-number i (omega (arith, lt, views-length rows []))
