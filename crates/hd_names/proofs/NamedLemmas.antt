-- Lemmas on looking up class objects.
use Rattle.std.proofs.Common.{◌≡◌, ◌∙◌, ℕ, zero, suc, ◌+◌, List, [], ◌∷◌, length, map, Option, Some, None, Bool, true, false, not, cond, eqb, ltb, refl, sym}
use Rattle.std.proofs.Common.{ap, arith}
use Rattle.std.specs.List.{slice_get, slice_index_or, position, prefix_len, zip}
use Rattle.std.specs.Option.{option_map, option_and_then}
use Rattle.std.specs.Map.{lookup, keys_of}
use Rattle.std.proofs.lemmas.Option.{slice_get-map}
use Rattle.hd_terms.specs.Dump.{NamedClass}
use Rattle.hd_names.specs.declared.field_table.FieldTable.{FieldTable}
use Rattle.hd_names.specs.Named.{class_in, static_in}
use Rattle.hd_names.specs.Tables.{layout_in, class_of, named_of}
use Rattle.hd_names.proofs.TableLemmas.{zip-some, zip-none_second}

abbrev First : Type 0
First = ℕ × Option ℕ

-- a class by its number, as the list has it
pub named-at : (t : FieldTable) (firsts : List First) (statics : List (List ℕ)) (i : ℕ)
    → slice_get (named_of firsts statics t) i ≡ option_map (class_of t) (slice_get (zip firsts statics) i)
named-at t firsts statics i = slice_get-map (class_of t) (zip firsts statics) i

pub named-length : (t : FieldTable) (firsts : List First) (statics : List (List ℕ)) → length statics ≡ length firsts
    → length (named_of firsts statics t) ≡ length firsts
named-length t [] statics e = refl
named-length t (f ∷ firsts) [] e = absurd (omega arith)
named-length t (f ∷ firsts) (ns ∷ statics) e = omega (arith, named-length t firsts statics (omega arith))

pub id-at : (t : FieldTable) (firsts : List First) (statics : List (List ℕ)) (i : ℕ) → length statics ≡ length firsts
    → option_map (λ (c : NamedClass). c.class) (slice_get (named_of firsts statics t) i) ≡ option_map (λ (f : First). f.0) (slice_get firsts i)
id-at t [] statics i e = refl
id-at t (f ∷ firsts) [] i e = absurd (omega arith)
id-at t (f ∷ firsts) (ns ∷ statics) zero e = refl
id-at t (f ∷ firsts) (ns ∷ statics) (suc i) e = id-at t firsts statics i (omega arith)

-- the class of an ID
module _ (t : FieldTable) (id : ℕ) where
  case-fields : (b : Bool) (c : First × List ℕ) (o : Option NamedClass) (q : Option (Option ℕ))
      → option_map (λ (x : NamedClass). x.fields) o ≡ option_map (layout_in t) q
      → option_map (λ (x : NamedClass). x.fields) (cond b (Some (class_of t c)) o) ≡ option_map (layout_in t) (cond b (Some c.0.1) q)
  case-fields true c o q e = refl
  case-fields false c o q e = e

  pub fields-found : (firsts : List First) (statics : List (List ℕ)) → length statics ≡ length firsts
      → option_map (λ (x : NamedClass). x.fields) (class_in (named_of firsts statics t) id) ≡ option_map (layout_in t) (lookup (λ (x : ℕ). eqb id x) firsts)
  fields-found [] statics e = refl
  fields-found (f ∷ firsts) [] e = absurd (omega arith)
  fields-found (f ∷ firsts) (ns ∷ statics) e =
      case-fields (eqb id f.0) (f, ns) (class_in (named_of firsts statics t) id) (lookup (λ (x : ℕ). eqb id x) firsts)
      (fields-found firsts statics (omega arith))

  none-from_fields : (o : Option NamedClass) → option_map (λ (x : NamedClass). x.fields) o ≡ None → o ≡ None
  none-from_fields None e = refl
  none-from_fields (Some c) e = cc

  pub none-found : (firsts : List First) (statics : List (List ℕ)) → length statics ≡ length firsts → lookup (λ (x : ℕ). eqb id x) firsts ≡ None
      → class_in (named_of firsts statics t) id ≡ None
  none-found firsts statics e none =
      none-from_fields (class_in (named_of firsts statics t) id) (fields-found firsts statics e ∙ ap (option_map (layout_in t)) none)

  case-prefix : (b : Bool) (c : NamedClass) (cs : List NamedClass) (o : Option NamedClass) (n : ℕ) → o ≡ slice_get cs n
      → cond b (Some c) o ≡ slice_get (c ∷ cs) (cond (not b) (1 + n) 0)
  case-prefix true c cs o n e = refl
  case-prefix false c cs o n e = let same : suc n ≡ 1 + n = omega arith in e ∙ ap (slice_get (c ∷ cs)) same

  class-prefix : (firsts : List First) (statics : List (List ℕ)) → length statics ≡ length firsts
      → class_in (named_of firsts statics t) id ≡ slice_get (named_of firsts statics t) (prefix_len (λ (x : ℕ). not (eqb id x)) (keys_of firsts))
  class-prefix [] statics e = refl
  class-prefix (f ∷ firsts) [] e = absurd (omega arith)
  class-prefix (f ∷ firsts) (ns ∷ statics) e =
      case-prefix (eqb id f.0) (class_of t (f, ns)) (named_of firsts statics t) (class_in (named_of firsts statics t) id)
      (prefix_len (λ (x : ℕ). not (eqb id x)) (keys_of firsts)) (class-prefix firsts statics (omega arith))

  case-place : (b : Bool) (n i : ℕ) → Some i ≡ cond b (Some n) None → i ≡ n
  case-place true n i e = cc
  case-place false n i e = cc

  class-at : (firsts : List First) (statics : List (List ℕ)) → length statics ≡ length firsts → (place : ℕ)
      → Some place ≡ position (λ (x : ℕ). eqb id x) (keys_of firsts)
      → class_in (named_of firsts statics t) id ≡ option_map (class_of t) (slice_get (zip firsts statics) place)
  class-at firsts statics e place is =
      let n = prefix_len (λ (x : ℕ). not (eqb id x)) (keys_of firsts) in
      class-prefix firsts statics e ∙ ap (slice_get (named_of firsts statics t)) (sym (case-place (ltb n (length (keys_of firsts))) n place is))
      ∙ named-at t firsts statics place

  -- the name of a static
  name-at : (ns : List ℕ) (i : ℕ) → slice_index_or (map (slice_get t.texts) ns) i None ≡ option_and_then (slice_get t.texts) (slice_get ns i)
  name-at [] i = refl
  name-at (n ∷ ns) zero = refl
  name-at (n ∷ ns) (suc i) = name-at ns i

  abbrev static_of : ℕ → Option NamedClass → Option (List ℕ)
  static_of i o = option_and_then (λ (c : NamedClass). slice_index_or c.statics i None) o

  pub static-at : (firsts : List First) (statics : List (List ℕ)) → length statics ≡ length firsts → (place : ℕ)
      → Some place ≡ position (λ (x : ℕ). eqb id x) (keys_of firsts)
      → (first : First) → slice_get firsts place ≡ Some first → (ns : List ℕ) → slice_get statics place ≡ Some ns → (i : ℕ)
      → static_in (named_of firsts statics t) id i ≡ option_and_then (slice_get t.texts) (slice_get ns i)
  static-at firsts statics e place is first at ns there i =
      ap (static_of i) (class-at firsts statics e place is ∙ ap (option_map (class_of t)) (zip-some firsts statics place first ns at there)) ∙ name-at ns i

  pub static-past : (firsts : List First) (statics : List (List ℕ)) → length statics ≡ length firsts → (place : ℕ)
      → Some place ≡ position (λ (x : ℕ). eqb id x) (keys_of firsts)
      → slice_get statics place ≡ None → (i : ℕ) → static_in (named_of firsts statics t) id i ≡ None
  static-past firsts statics e place is none i =
      ap (static_of i) (class-at firsts statics e place is ∙ ap (option_map (class_of t)) (zip-none_second firsts statics place none))

  pub static-none : (firsts : List First) (statics : List (List ℕ)) → length statics ≡ length firsts → lookup (λ (x : ℕ). eqb id x) firsts ≡ None → (i : ℕ)
      → static_in (named_of firsts statics t) id i ≡ None
  static-none firsts statics e none i = ap (static_of i) (none-found firsts statics e none)
