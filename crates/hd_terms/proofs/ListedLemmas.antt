-- Lists of one object, for examples.
use Rattle.std.proofs.Common.{◌≡◌, ◌∙◌, ℕ, ◌<◌, [], ◌∷◌, length, Contains, refl, sym, ap, subst, arith}
use Rattle.std.proofs.lemmas.List.Elements.{All-contains, All-cons, All-nil, Contains-push}
use Rattle.hd_terms.specs.Dump.{Dump, object_at}
use Rattle.hd_terms.specs.Listed.{AreIdsOf, IsIdOf}

module _ (dump : Dump) (IsMeant : ℕ → Type 0) (o : ℕ) (within : o < length dump.objects) (meant : IsMeant o) where
  abbrev id : ℕ
  id = (object_at dump o).id

  -- only that object is meant
  pub only_one : ((p : ℕ) → p < length dump.objects → IsMeant p → p ≡ o) → AreIdsOf dump IsMeant ((object_at dump o).id ∷ [])
  only_one others = record {
    ascending = λ k more. absurd (omega (arith, more));
    meant = λ x. (
      (λ (c : Contains (id ∷ []) x). (o, within, meant, All-contains (λ y. id ≡ y) (id ∷ []) x (All-cons (λ y. id ≡ y) id [] refl (All-nil (λ y. id ≡ y))) c)),
      (λ (i : IsIdOf dump IsMeant x). subst (Contains (id ∷ [])) (ap (λ (p : ℕ). (object_at dump p).id) (sym (others i.0 i.1 i.2)) ∙ i.3)
          (Contains-push [] id)),
    );
  }
