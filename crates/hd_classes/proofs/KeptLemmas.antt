-- Lemmas on keeping one class more.
use Rattle.std.proofs.Common.{◌≡◌, ◌∙◌, ◌⊎◌, inl, inr, ℕ, ◌+◌, ◌<◌, ◌≤◌, ◌^◌, List, [], ◌∷◌, ◌++◌, length, map, Option, Some, None, Bool, true, false, cond}
use Rattle.std.proofs.Common.{eqb, eqb-true, eq-eqb, refl, sym, ap, subst, arith, All}
use Rattle.std.specs.Prelude.{unwrap_or, nat_eq}
use Rattle.std.specs.List.{slice_get, IsDistinct}
use Rattle.std.specs.Option.{option_map, option_map_or, option_or, is_some}
use Rattle.std.specs.Map.{lookup, keys_of}
use Rattle.std.proofs.lemmas.Bool.{cases_lt}
use Rattle.std.proofs.lemmas.Cmp.{nat_eq_equiv}
use Rattle.std.proofs.lemmas.List.{length_push}
use Rattle.std.proofs.lemmas.List.Elements.{All-push, All-nil, All-cons, All-head, All-tail}
use Rattle.std.proofs.lemmas.Map.Keys.{IsDistinct-push}
use Rattle.std.proofs.lemmas.Map.Made.{is_some-lookup}
use Rattle.std.proofs.lemmas.Option.{slice_get_within}
use Rattle.hd_terms.specs.declared.EdgeKind.{EdgeKind}
use Rattle.hd_terms.specs.SubRecords.{ClassItem, FieldItem}
use Rattle.hd_terms.specs.Classes.{ClassTable, LayoutField, ResolvedClass, LeadUp, class_at, fields_of, is_referent, referent_in, reference_kind}
use Rattle.hd_terms.specs.Classes.{resolved_class, resolved_by}
use Rattle.hd_classes.specs.declared.known.LayoutField as declared_field
use Rattle.hd_classes.specs.declared.linked.LinkedClass.{LinkedClass}
use Rattle.hd_classes.specs.declared.linking.Inherited.{Inherited}
use Rattle.hd_classes.specs.Fields.{field_view}
use Rattle.hd_classes.specs.Links.{Row, View, nothing, numbered, class_under, view_of, views, IsBelow, Declares, IsLinkedRow, OwnsFields, IsLinked, is_kept}
use Rattle.hd_classes.specs.Linking.{IsInherited, IsLinkedUnder, AreKept, IsTop, KeepsClass}
use Rattle.hd_classes.proofs.LinkLemmas.{get-front, get-last, views-push, views-length, layout-length, lookup-facts, Facts, view_facts, row_facts}
use Rattle.hd_classes.proofs.ChainLemmas.{Found, IsFound, whole-up}
use Rattle.hd_classes.proofs.ResolvedLemmas.{position-within, known_under, resolved-cons, resolved-nil, resolved-chain, resolved-some}

-- what is kept by an ID is known by it
case-kept : (o : Option ResolvedClass) (q : Option LinkedClass) → option_map view_facts o ≡ option_map row_facts q → is_some q ≡ true → (k : ResolvedClass)
    × (o ≡ Some k)
case-kept (Some k) q e some = (k, refl)
case-kept None (Some l) e some = absurd (none-some (row_facts l) e)
  where
    none-some : (f : Facts) → ◌≡◌ {A = Option Facts} None (Some f) → ⊥
    none-some f h = cc
case-kept None None e some = absurd (false-true some)
  where
    false-true : false ≡ true → ⊥
    false-true h = cc

pub kept-known : (rows : List Row) (id : ℕ) → is_kept rows id ≡ true → (k : ResolvedClass) × (lookup (λ (x : ℕ). eqb id x) (views rows) ≡ Some k)
kept-known rows id kept = case-kept (lookup (λ (x : ℕ). eqb id x) (views rows)) (lookup (λ (x : ℕ). eqb id x) rows)
    (lookup-facts (λ (x : ℕ). eqb id x) rows) kept

-- what holds of all holds of one that is looked up
case-found : {V : Type 0} (P : ℕ × V → Type 0) (b : Bool) (e : ℕ × V) (o : Option V) (v : V) → P e → (o ≡ Some v → (id : ℕ) × P (id, v))
    → cond b (Some e.1) o ≡ Some v → (id : ℕ) × P (id, v)
case-found {V} P true e o v here there is = let same : e.1 ≡ v = cc in (e.0, subst (λ (x : V). P (e.0, x)) same here)
case-found P false e o v here there is = there is

all-looked : {V : Type 0} (P : ℕ × V → Type 0) (test : ℕ → Bool) (es : List (ℕ × V)) (v : V) → All P es → lookup test es ≡ Some v → (id : ℕ) × P (id, v)
all-looked P test [] v all is = cc
all-looked P test (e ∷ es) v all is = case-found P (test e.0) e (lookup test es) v (All-head P e es all) (all-looked P test es v (All-tail P e es all)) is

-- a look-up behind one entry more
case-last : {V : Type 0} (b : Bool) (w v : V) (o q : Option V) (A : Type 0) → (q ≡ Some v → (o ≡ Some v) ⊎ A) → cond b (Some w) q ≡ Some v
    → (cond b (Some w) o ≡ Some v) ⊎ A
case-last true w v o q A more is = inl is
case-last false w v o q A more is = more is

case-one : {V : Type 0} (b : Bool) (w v : V) → cond b (Some w) None ≡ Some v → (b ≡ true) × (w ≡ v)
case-one true w v is = let same : w ≡ v = cc in (refl, same)
case-one false w v is = cc

pub lookup-last : {V : Type 0} (test : ℕ → Bool) (es : List (ℕ × V)) (e : ℕ × V) (v : V) → lookup test (es ++ e ∷ []) ≡ Some v → (lookup test es ≡ Some v)
    ⊎ ((test e.0 ≡ true) × (e.1 ≡ v))
lookup-last test [] e v is = inr (case-one (test e.0) e.1 v is)
lookup-last test (d ∷ es) e v is = case-last (test d.0) d.1 v (lookup test es) (lookup test (es ++ e ∷ [])) _ (lookup-last test es e v) is

case-more : {V : Type 0} (b : Bool) (w : V) (o q : Option V) → (is_some o ≡ true → is_some q ≡ true) → is_some (cond b (Some w) o) ≡ true
    → is_some (cond b (Some w) q) ≡ true
case-more true w o q more some = refl
case-more false w o q more some = more some

lookup-more : {V : Type 0} (test : ℕ → Bool) (es : List (ℕ × V)) (e : ℕ × V) → is_some (lookup test es) ≡ true → is_some (lookup test (es ++ e ∷ [])) ≡ true
lookup-more test [] e some = cc
lookup-more test (d ∷ es) e some = case-more (test d.0) d.1 (lookup test es) (lookup test (es ++ e ∷ [])) (lookup-more test es e) some

case-here : {V : Type 0} (b : Bool) (w : V) (q : Option V) → is_some q ≡ true → is_some (cond b (Some w) q) ≡ true
case-here true w q some = refl
case-here false w q some = some

lookup-here : {V : Type 0} (test : ℕ → Bool) (es : List (ℕ × V)) (e : ℕ × V) → test e.0 ≡ true → is_some (lookup test (es ++ e ∷ [])) ≡ true
lookup-here {V} test [] e passes = ap (λ (b : Bool). let o : Option V = cond b (Some e.1) None in is_some o) passes
lookup-here test (d ∷ es) e passes = case-here (test d.0) d.1 (lookup test (es ++ e ∷ [])) (lookup-here test es e passes)

-- one row more
module _ (rows : List Row) (row : Row) where
  abbrev more : List Row
  more = rows ++ row ∷ []

  numbered-keep : (number : Option ℕ) → IsBelow (length rows) number → numbered (views more) number ≡ numbered (views rows) number
  numbered-keep None below = refl
  numbered-keep (Some i) below =
      ap (λ (known : List View). numbered known (Some i)) (views-push rows [] row)
      ∙ ap (λ (o : Option View). option_map_or (λ (p : View). p.1) o nothing)
      (get-front (views rows) (view_of (views rows) row) i (omega (arith, below, views-length rows [])))

  none-fields : (o : Option Row) → o ≡ None → 0 < length (option_map_or (λ (r : Row). r.1.fields.items) o []) → ⊥
  none-fields None e lt = omega (arith, lt)
  none-fields (Some r) e lt = cc

  pub declares-below : (number : Option ℕ) → Declares rows number → IsBelow (length rows) number
  declares-below None h = tt
  declares-below (Some i) h = by (slice_get rows i) refl
    where
      by : (o : Option Row) → slice_get rows i ≡ o → i < length rows
      by None e = absurd (none-fields (slice_get rows i) e h)
      by (Some r) e = slice_get_within rows i r e

  declares-keep : (number : Option ℕ) → Declares rows number → Declares more number
  declares-keep None h = tt
  declares-keep (Some i) h =
      let same : slice_get more i ≡ slice_get rows i = get-front rows row i (declares-below (Some i) h) in
      subst (λ (o : Option Row). 0 < length (option_map_or (λ (r : Row). r.1.fields.items) o [])) (sym same) h

  below-le : (n m : ℕ) (number : Option ℕ) → n ≤ m → IsBelow n number → IsBelow m number
  below-le n m None le below = tt
  below-le n m (Some i) le below = omega (arith, le, below)

  row-keep : (i : ℕ) (class : LinkedClass) → i ≤ length rows → IsLinkedRow rows i class → IsLinkedRow more i class
  row-keep i class le h =
      let above : numbered (views more) class.super_number ≡ numbered (views rows) class.super_number =
      numbered-keep class.super_number (below-le i (length rows) class.super_number le h.earlier) in
      record {
        earlier = h.earlier;
        nearer = h.nearer;
        declares = declares-keep class.fields_above h.declares;
        skips =
            ap (λ (k : ResolvedClass). k.layout) (numbered-keep class.fields_above (declares-below class.fields_above h.declares)) ∙ h.skips
            ∙ sym (ap (λ (k : ResolvedClass). k.layout) above);
        counted = ap (λ (k : ResolvedClass). length class.fields.items + length k.layout) above ∙ h.counted;
      }

  linked-push : IsLinked rows → IsLinkedRow rows (length rows) row.1 → IsLinked more
  linked-push linked here i r at = elim (cases_lt i (length rows)) [
    | inl less ↦ row-keep i r.1 (omega (arith, less)) (linked i r (sym (get-front rows row i less) ∙ at))
    | inr most ↦
        let within = slice_get_within more i r at in
        let last : i ≡ length rows = omega (arith, most, within, length_push rows row) in
        let same : row ≡ r = one-row row r (sym (get-last rows row) ∙ ap (slice_get more) (sym last) ∙ at) in
        subst (λ (n : ℕ). IsLinkedRow more n r.1) (sym last)
        (subst (λ (x : Row). IsLinkedRow more (length rows) x.1) same (row-keep (length rows) row.1 (omega arith) here))
  ]
    where
      one-row : (a b : Row) → Some a ≡ Some b → a ≡ b
      one-row a b e = cc

-- what a class takes from above is what is known of a whole chain
module _ (t : ClassTable) (rows : List Row) (kept : AreKept t rows) (id : ℕ) (a : Inherited) (is : IsInherited rows id a) where
  abbrev looked : Option ResolvedClass
  looked = lookup (λ (x : ℕ). eqb id x) (views rows)

  null-unknown : id ≡ 0 → (o : Option ResolvedClass) → looked ≡ o → o ≡ None
  null-unknown null None e = refl
  null-unknown null (Some k) e = absurd (some-null k (kept.known id k e))
    where
      none-some : (k : ResolvedClass) → ◌≡◌ {A = Option ResolvedClass} None (Some k) → ⊥
      none-some k h = cc

      some-null : (k : ResolvedClass) → resolved_class t id ≡ Some k → ⊥
      some-null k h = none-some k (sym (ap (resolved_class t) null) ∙ h)

  pub kept-above : IsFound → IsTop rows id → (chain : List ClassItem) × LeadUp t.classes id chain 0 × (numbered (views rows) a.number ≡ resolved_by t chain)
  kept-above is_found (inl null) =
      ([], null, is.is ∙ ap (λ (o : Option ResolvedClass). unwrap_or o nothing) (null-unknown null looked refl) ∙ sym (resolved-nil t))
  kept-above is_found (inr there) =
      let known = kept-known rows id there in
      let found = resolved-chain t id known.0 (kept.known id known.0 known.1) in
      (found.0, (is_found t.classes id found.0 found.1).whole, is.is ∙ ap (λ (o : Option ResolvedClass). unwrap_or o nothing) known.1 ∙ found.2)

  -- its layout is short, and the referent field is in it
  case-short : (o : Option ResolvedClass) → looked ≡ o → length (unwrap_or o nothing).layout < 2 ^ 29
  case-short None e = omega arith
  case-short (Some k) e = (all-looked (λ (p : View). length p.1.layout < 2 ^ 29) (λ (x : ℕ). eqb id x) (views rows) k kept.short e).1

  pub above-short : a.layout_len < 2 ^ 29
  above-short = omega (arith, case-short looked refl, ap (λ (k : ResolvedClass). length k.layout) is.is, is.counted)

  below-bound : (n : ℕ) (o : Option ℕ) → n < 2 ^ 29 → ((j : ℕ) → o ≡ Some j → j < n) → IsBelow (2 ^ 29) o
  below-bound n None less within = tt
  below-bound n (Some j) less within = omega (arith, less, within j refl)

  case-referent : (o : Option ResolvedClass) → looked ≡ o → IsBelow (2 ^ 29) (unwrap_or o nothing).referent
  case-referent None e = tt
  case-referent (Some k) e =
      let found = resolved-chain t id k (kept.known id k e) in
      below-bound (length k.layout) k.referent (case-short (Some k) e) (λ (j : ℕ) (at : k.referent ≡ Some j). by found.0 found.2 j at)
    where
      by : (chain : List ClassItem) → k ≡ resolved_by t chain → (j : ℕ) → k.referent ≡ Some j → j < length k.layout
      by chain same j at =
          omega (
            arith,
            position-within (is_referent t) (resolved_by t chain).layout j (sym (ap (λ (x : ResolvedClass). x.referent) same) ∙ at),
            ap
                (λ (x : ResolvedClass). length x.layout) same,
          )

  pub above-referent : IsBelow (2 ^ 29) a.referent
  above-referent = subst (IsBelow (2 ^ 29)) (sym (ap (λ (k : ResolvedClass). k.referent) is.is) ∙ is.referent) (case-referent looked refl)

-- one class more
module _ (t : ClassTable) (rows : List Row) (kept : AreKept t rows) (c : ClassItem) (at : class_at t.classes c.id ≡ Some c) (top : IsTop rows c.super)
    (a : Inherited) (is : IsInherited rows c.super a) (l : LinkedClass)
    (under : IsLinkedUnder t c a l) (found : Found) (is_found : IsFound) where
  abbrev row : Row
  row = (c.id, l)

  abbrev above : ResolvedClass
  above = numbered (views rows) l.super_number

  same-above : above ≡ numbered (views rows) a.number
  same-above = ap (numbered (views rows)) under.super_number

  fields-length : length l.fields.items ≡ length (fields_of c)
  fields-length = sym (mapped l.fields.items) ∙ ap (λ (fs : List LayoutField). length fs) under.fields
    where
      mapped : (fs : List declared_field.LayoutField) → length (map field_view fs) ≡ length fs
      mapped [] = refl
      mapped (f ∷ fs) = omega (arith, mapped fs)

  class-known : class_under row above ≡ known_under t c above
  class-known =
      let of : List LayoutField → Option ℕ → EdgeKind → ResolvedClass =
      λ (fs : List LayoutField) (r : Option ℕ) (k : EdgeKind). record { chain = c.id ∷ above.chain; layout = fs ++ above.layout; referent = r; kind = k } in
      let referent : a.referent ≡ above.referent = sym is.referent ∙ ap (λ (k : ResolvedClass). k.referent) (sym same-above) in
      let kind : a.kind ≡ above.kind = sym is.kind ∙ ap (λ (k : ResolvedClass). k.kind) (sym same-above) in
      ap (λ (fs : List LayoutField). of fs l.referent l.kind) under.fields
      ∙ ap (λ (r : Option ℕ). of (fields_of c) r l.kind)
      (under.referent
      ∙ ap (λ (n : ℕ). option_or (referent_in t (fields_of c)) (option_map (λ (i : ℕ). i + n) a.referent)) fields-length
      ∙ ap (λ (r : Option ℕ). option_or (referent_in t (fields_of c)) (option_map (λ (i : ℕ). i + length (fields_of c)) r)) referent)
      ∙ ap (of (fields_of c) (option_or (referent_in t (fields_of c)) (option_map (λ (i : ℕ). i + length (fields_of c)) above.referent)))
      (under.kind ∙ ap (unwrap_or (reference_kind t c.id)) kind)

  class-right : resolved_class t c.id ≡ Some (class_under row above)
  class-right =
      let whole = kept-above t rows kept c.super a is is_found top in
      resolved-some t c.id (c ∷ whole.0) (whole-up t.classes found c.id c whole.0 at whole.1)
      ∙ ap (λ (k : ResolvedClass). Some k) (resolved-cons t c whole.0 ∙ ap (known_under t c) (sym (same-above ∙ whole.2)) ∙ sym class-known)

  here : IsLinkedRow rows (length rows) l
  here = record {
    earlier = subst (IsBelow (length rows)) (sym under.super_number) is.earlier;
    nearer = subst (IsBelow (length rows)) (sym under.fields_above) (declares-below rows row a.fields_above is.declares);
    declares = subst (Declares rows) (sym under.fields_above) is.declares;
    skips = ap (λ (n : Option ℕ). (numbered (views rows) n).layout) under.fields_above ∙ is.skips ∙ ap (λ (k : ResolvedClass). k.layout) (sym same-above);
    counted = omega (arith, ap (λ (k : ResolvedClass). length k.layout) same-above, is.counted, under.counted);
  }

  -- its fields are its own
  owns : OwnsFields row
  owns = kept-owned l.fields.items (subst (All (λ (f : LayoutField). f.owner ≡ c.id)) (sym under.fields) (own-owned c.fields))
    where
      own-owned : (fs : List FieldItem)
          → All (λ (f : LayoutField). f.owner ≡ c.id) (map (λ (f : FieldItem). record { owner = c.id; name = f.name; code = f.code }) fs)
      own-owned [] = All-nil (λ (f : LayoutField). f.owner ≡ c.id)
      own-owned (f ∷ fs) = All-cons (λ (f : LayoutField). f.owner ≡ c.id) (record { owner = c.id; name = f.name; code = f.code }) _ refl (own-owned fs)

      kept-owned : (fs : List declared_field.LayoutField) → All (λ (f : LayoutField). f.owner ≡ c.id) (map field_view fs)
          → All (λ (f : declared_field.LayoutField). f.owner ≡ c.id) fs
      kept-owned [] all = All-nil (λ (f : declared_field.LayoutField). f.owner ≡ c.id)
      kept-owned (f ∷ fs) all =
          let P : LayoutField → Type 0 = λ (g : LayoutField). g.owner ≡ c.id in
          All-cons (λ (g : declared_field.LayoutField). g.owner ≡ c.id) f fs (All-head P (field_view f) (map field_view fs) all)
          (kept-owned fs (All-tail P (field_view f) (map field_view fs) all))

  keys-push : (rs : List Row) → keys_of (rs ++ row ∷ []) ≡ keys_of rs ++ c.id ∷ []
  keys-push [] = refl
  keys-push (r ∷ rs) = ap (λ (ks : List ℕ). r.0 ∷ ks) (keys-push rs)

  pub kept-push : lookup (λ (x : ℕ). eqb c.id x) rows ≡ None → AreKept t (rows ++ row ∷ [])
  kept-push absent =
      let v : View = (c.id, class_under row above) in
      let all : views (rows ++ row ∷ []) ≡ views rows ++ v ∷ [] = views-push rows [] row in
      let P : View → Type 0 = λ (p : View). length p.1.layout < 2 ^ 29 in
      record {
        linked = linked-push rows row kept.linked here;
        owned = All-push OwnsFields rows row kept.owned owns;
        known = λ q k at_q. right q k (lookup-last (λ (x : ℕ). eqb q x) (views rows) v k (ap (lookup (λ (x : ℕ). eqb q x)) (sym all) ∙ at_q));
        short = subst (All P) (sym all)
            (All-push P (views rows) v kept.short (omega (arith, layout-length l.fields.items above.layout, here.counted, under.short)));
        distinct = subst (IsDistinct nat_eq) (sym (keys-push rows))
            (IsDistinct-push nat_eq_equiv (keys_of rows) c.id kept.distinct (sym (is_some-lookup (λ (x : ℕ). eqb c.id x) rows) ∙ ap is_some absent));
      }
    where
      right : (q : ℕ) (k : ResolvedClass) → (lookup (λ (x : ℕ). eqb q x) (views rows) ≡ Some k) ⊎ ((eqb q c.id ≡ true) × (class_under row above ≡ k))
          → resolved_class t q ≡ Some k
      right q k (inl old) = kept.known q k old
      right q k (inr (e, same)) = ap (resolved_class t) (eqb-true q c.id e) ∙ class-right ∙ ap (λ (x : ResolvedClass). Some x) same

  pub keeps-push : (rows' : List Row) → rows' ≡ rows ++ row ∷ [] → lookup (λ (x : ℕ). eqb c.id x) rows ≡ None → KeepsClass t c.id rows rows'
  keeps-push rows' grown absent =
      let P : List Row → Type 0 = λ (rs : List Row). KeepsClass t c.id rows rs in
      subst P (sym grown) (record {
        kept = kept-push absent;
        more = λ id there. lookup-more (λ (x : ℕ). eqb id x) rows row there;
        has = lookup-here (λ (x : ℕ). eqb c.id x) rows row (eq-eqb c.id c.id refl);
      })
