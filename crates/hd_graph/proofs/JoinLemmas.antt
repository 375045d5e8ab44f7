-- Numbering one stretch of sub-records behind another.
use Rattle.std.proofs.Common.{◌≡◌, ◌∙◌, ℕ, ◌+◌, ◌<◌, inl, inr, List, [], ◌∷◌, ◌++◌, map, Bool, true, false, ◌||◌, cond, eqb, refl, sym, ap, subst, arith}
use Rattle.std.proofs.Common.{append_assoc, true≢false}
use Rattle.std.specs.Prelude.{count_by}
use Rattle.std.specs.List.{list_any, filter_map}
use Rattle.std.proofs.lemmas.Bool.{eqb-true, or_cases, or_parts}
use Rattle.std.proofs.lemmas.Cmp.{nat_eq_equiv}
use Rattle.std.proofs.lemmas.List.{append-nil, map-append}
use Rattle.std.proofs.lemmas.List.Elements.{filter_map-append, All-append}
use Rattle.std.proofs.lemmas.List.Folds.{list_any-append, list_any_none}
use Rattle.std.proofs.lemmas.List.Sums.{sum_by-append}
use Rattle.std.proofs.lemmas.Map.Views.{All-from_any}
use Rattle.hd_terms.specs.declared.IdSize.{IdSize}
use Rattle.hd_terms.specs.declared.errors.ReadFault.{ReadFault}
use Rattle.hd_terms.specs.Dump.{Root}
use Rattle.hd_terms.specs.SubRecords.{Sub}
use Rattle.hd_terms.specs.FirstRecords.{object_sub, first_subs, repeats}
use Rattle.hd_terms.specs.HeapFaults.{object_fault}
use Rattle.hd_terms.specs.Classes.{KnownClasses}
use Rattle.hd_terms.specs.Objects.{is_opaque}
use Rattle.hd_ids.specs.Noted.{is_noted}
use Rattle.hd_classes.specs.Firsts.{firsts, firsts_from}
use Rattle.hd_classes.proofs.FirstLemmas.{firsts_from-append, is_known, known-map}
use Rattle.hd_classes.proofs.RepeatLemmas.{repeats-push}
use Rattle.hd_graph.specs.declared.graph.StoredRoot.{StoredRoot}
use Rattle.hd_graph.specs.declared.number.Tally.{Tally}
use Rattle.hd_graph.specs.GraphInside.{root_of_row}
use Rattle.hd_graph.specs.ArrayRows.{object_id, roots_in}
use Rattle.hd_graph.specs.Numbering.{IsNumbered}
use Rattle.hd_graph.proofs.NumberLemmas.{sub_key, object_subs, ids-of-subs, standing-firsts}
use Rattle.hd_graph.proofs.RowLemmas.{same}

-- none of the later elements has the key of one of the earlier
abbrev AreApart : {X : Type 0} → (X → ℕ) → List X → List X → Type 0
AreApart key xs ys = list_any (is_known key xs) ys ≡ false

module _ {X : Type 0} (key : X → ℕ) (xs : List X) where
  -- elements that don't have a key don't make it known
  known-apart : (before : List X) (y : X) → is_known key xs y ≡ false → is_known key (xs ++ before) y ≡ is_known key before y
  known-apart before y new = list_any-append (λ z. eqb (key y) (key z)) xs before ∙ ap (λ (b : Bool). b || is_known key before y) new

  -- the first of each key are the same behind elements of other keys
  firsts-apart : (before ys : List X) → AreApart key xs ys → firsts_from key (xs ++ before) ys ≡ firsts_from key before ys
  firsts-apart before [] apart = refl
  firsts-apart before (y ∷ ys) apart =
      let parts = or_parts (is_known key xs y) (list_any (is_known key xs) ys) apart in
      let rest : firsts_from key ((xs ++ before) ++ y ∷ []) ys ≡ firsts_from key (before ++ y ∷ []) ys =
      ap (λ (b : List X). firsts_from key b ys) (append_assoc xs before (y ∷ [])) ∙ firsts-apart (before ++ y ∷ []) ys parts.1 in
      ap (λ (b : Bool). cond b (firsts_from key ((xs ++ before) ++ y ∷ []) ys) (y ∷ firsts_from key ((xs ++ before) ++ y ∷ []) ys))
      (known-apart before y parts.0)
      ∙ ap (λ (zs : List X). cond (is_known key before y) zs (y ∷ zs)) rest

  -- the first of each key of both are those of the earlier, and then those of the later
  firsts-join : (ys : List X) → AreApart key xs ys → firsts key (xs ++ ys) ≡ firsts key xs ++ firsts key ys
  firsts-join ys apart = firsts_from-append key [] xs ys
      ∙ ap (λ (zs : List X). firsts key xs ++ zs) (ap (λ (b : List X). firsts_from key b ys) (sym (append-nil xs)) ∙ firsts-apart [] ys apart)

  -- where as many are repeated among both as among each with the later up to a place, so they are with all the later
  repeats-on : (before ys : List X) → AreApart key xs ys → repeats key (xs ++ before) ≡ repeats key xs + repeats key before
      → repeats key (xs ++ (before ++ ys)) ≡ repeats key xs + repeats key (before ++ ys)
  repeats-on before [] apart so_far = subst (λ (zs : List X). repeats key (xs ++ zs) ≡ repeats key xs + repeats key zs) (sym (append-nil before)) so_far
  repeats-on before (y ∷ ys) apart so_far =
      let parts = or_parts (is_known key xs y) (list_any (is_known key xs) ys) apart in
      let one : repeats key (xs ++ (before ++ y ∷ [])) ≡ repeats key (xs ++ before) + cond (is_known key before y) 1 0 =
      ap (repeats key) (sym (append_assoc xs before (y ∷ []))) ∙ repeats-push key (xs ++ before) y ∙ ap (λ (b : Bool). repeats key (xs ++ before) + cond b 1 0)
      (known-apart before y parts.0) in
      subst (λ (zs : List X). repeats key (xs ++ zs) ≡ repeats key xs + repeats key zs) (append_assoc before (y ∷ []) ys)
      (repeats-on (before ++ y ∷ []) ys parts.1 (omega (arith, one, so_far, repeats-push key before y)))

  -- as many are repeated among both as among the earlier and among the later
  repeats-join : (ys : List X) → AreApart key xs ys → repeats key (xs ++ ys) ≡ repeats key xs + repeats key ys
  repeats-join ys apart = repeats-on [] ys apart (ap (repeats key) (append-nil xs) ∙ omega arith)

-- an ID among those of which none passes a test doesn't pass it
none-at : (test : ℕ → Bool) (ids : List ℕ) (id : ℕ) → list_any test ids ≡ false → is_noted ids id ≡ true → test id ≡ false
none-at test [] id none there = absurd (true≢false (sym there))
none-at test (k ∷ ids) id none there =
    let parts = or_parts (test k) (list_any test ids) none in
    elim (or_cases (eqb id k) (is_noted ids id) there) [
      | inl same_id ↦ ap test (eqb-true id k same_id) ∙ parts.0
      | inr later ↦ none-at test ids id parts.1 later
    ]

-- sub-records of objects are apart where their IDs are
apart-subs : (xs ys : List (ℕ × Sub)) → list_any (is_known same (map sub_key xs)) (map sub_key ys) ≡ list_any (is_known sub_key xs) ys
apart-subs xs [] = refl
apart-subs xs (y ∷ ys) = ap (λ (b : Bool). b || list_any (is_known same (map sub_key xs)) (map sub_key ys)) (known-map same sub_key xs y)
    ∙ ap (λ (b : Bool). is_known sub_key xs y || b) (apart-subs xs ys)

-- two stretches of sub-records are numbered each by itself, and no ID is in both: so are they numbered one behind the other
module _ (known : KnownClasses) (size : IdSize) (front back : List Sub) (ids : List ℕ) (roots : List StoredRoot) (tally : Tally) (more_ids : List ℕ)
    (more_roots : List StoredRoot) (more : Tally)
    (h : IsNumbered known size front ids roots tally) (k : IsNumbered known size back more_ids more_roots more)
    (new : list_any (is_noted ids) more_ids ≡ false) where
  abbrev front_ids : List ℕ
  front_ids = filter_map object_id front

  abbrev back_ids : List ℕ
  back_ids = filter_map object_id back

  abbrev opaque_one : ℕ × Sub → Bool
  opaque_one p = is_opaque known p.1.item

  -- no object of the back has the ID of one of the front
  ids-apart : AreApart same front_ids back_ids
  ids-apart =
      let other : (id : ℕ) → is_noted back_ids id ≡ true → is_known same front_ids id ≡ false = λ id there. sym (h.known_ids id)
      ∙ none-at (is_noted ids) more_ids id new (k.known_ids id ∙ there) in
      list_any_none (is_known same front_ids) back_ids (All-from_any nat_eq_equiv (λ id. is_known same front_ids id ≡ false) back_ids other)

  -- nor has a sub-record of one
  subs-apart : AreApart sub_key (object_subs front) (object_subs back)
  subs-apart =
      sym (apart-subs (object_subs front) (object_subs back))
      ∙ ap (λ (xs : List ℕ). list_any (is_known same xs) (map sub_key (object_subs back))) (sym (ids-of-subs front))
      ∙ ap (list_any (is_known same front_ids)) (sym (ids-of-subs back))
      ∙ ids-apart

  -- the IDs of the objects of both
  objects : filter_map object_id (front ++ back) ≡ front_ids ++ back_ids
  objects = filter_map-append object_id front back

  -- those that stand in both are those that stand in each
  stand : first_subs (front ++ back) ≡ first_subs front ++ first_subs back
  stand =
      standing-firsts (front ++ back)
      ∙ ap (λ (xs : List (ℕ × Sub)). firsts sub_key xs) (filter_map-append object_sub front back)
      ∙ firsts-join sub_key (object_subs front) (object_subs back) subs-apart
      ∙ ap (λ (xs : List (ℕ × Sub)). xs ++ firsts sub_key (object_subs back)) (sym (standing-firsts front))
      ∙ ap (λ (xs : List (ℕ × Sub)). first_subs front ++ xs) (sym (standing-firsts back))

  pub numbered-join : IsNumbered known size (front ++ back) (ids ++ more_ids) (roots ++ more_roots)
      (record { repeated = tally.repeated + more.repeated; opaque = tally.opaque + more.opaque })
  numbered-join = record {
    ids_are = ap (λ (xs : List ℕ). xs ++ more_ids) h.ids_are
        ∙ ap (λ (xs : List ℕ). firsts same front_ids ++ xs) k.ids_are
        ∙ sym (firsts-join same front_ids back_ids ids-apart)
        ∙ ap (λ (xs : List ℕ). firsts same xs) (sym objects);
    known_ids = λ id. list_any-append (λ x. eqb id x) ids more_ids
        ∙ ap (λ (b : Bool). b || list_any (λ x. eqb id x) more_ids) (h.known_ids id)
        ∙ ap (λ (b : Bool). list_any (λ x. eqb id x) front_ids || b) (k.known_ids id)
        ∙ sym (list_any-append (λ x. eqb id x) front_ids back_ids)
        ∙ ap (list_any (λ x. eqb id x)) (sym objects);
    repeated_is = omega (arith, h.repeated_is, k.repeated_is, repeats-join same front_ids back_ids ids-apart, ap (repeats same) objects);
    opaque_is = omega (
      arith,
      h.opaque_is,
      k.opaque_is,
      sum_by-append (λ (p : ℕ × Sub). cond (opaque_one p) 1 0) (first_subs front) (first_subs back),
      ap
          (λ (xs : List (ℕ × Sub)). count_by opaque_one xs) stand,
    );
    roots_are = map-append root_of_row roots more_roots
        ∙ ap (λ (rs : List Root). rs ++ map root_of_row more_roots) h.roots_are
        ∙ ap (λ (rs : List Root). roots_in front ++ rs) k.roots_are
        ∙ sym (filter_map-append _ front back);
    no_null = All-append (λ id. 0 < id) ids more_ids h.no_null k.no_null;
    no_fault = ap (λ (xs : List (ℕ × Sub)). filter_map (object_fault known size) xs) stand
        ∙ filter_map-append (object_fault known size) (first_subs front) (first_subs back)
        ∙ ap (λ (fs : List ReadFault). fs ++ filter_map (object_fault known size) (first_subs back)) h.no_fault
        ∙ k.no_fault;
  }
