-- The objects that a list is of, gathered one after another.
use Rattle.std.proofs.Common.{◌≡◌, ◌∙◌, ℕ, ◌+◌, ◌/◌, ◌%◌, ◌-◌, ◌<◌, ◌≤◌, Bool, true, false, ◌&&◌, inl, inr, List, [], ◌∷◌, ◌++◌, length, Contains, eqb-true}
use Rattle.std.proofs.Common.{eq-eqb, refl, sym, ap, subst, arith, true≢false}
use Rattle.std.specs.List.Sorted.{IsStrictlyIncreasing}
use Rattle.std.proofs.lemmas.Bool.{cases_lt}
use Rattle.std.proofs.lemmas.List.Elements.{Contains-append_left, Contains-append_right, Contains-append_cases}
use Rattle.hd_terms.specs.declared.Group.{Group}
use Rattle.hd_terms.specs.declared.Group.TheVariants as groups
use Rattle.hd_terms.specs.declared.Strength.{Strength}
use Rattle.hd_terms.specs.declared.Event.{Event}
use Rattle.hd_terms.specs.Paths.{Standing}
use Rattle.hd_terms.specs.Dump.{Dump, object_at}
use Rattle.hd_terms.specs.EditedDump.{standing}
use Rattle.hd_terms.specs.Strengths.{HasStrength}
use Rattle.hd_terms.specs.Settled.{Reached, Settled, reached_at}
use Rattle.hd_terms.specs.Totals.{Decides, IsMember}
use Rattle.hd_terms.specs.Listed.{AreIdsOf}
use Rattle.hd_strength.proofs.Lists.{Contains-nil, Contains-head, Contains-cons_cases}
use Rattle.hd_queries.specs.Listed.{AreIdsBefore}
use Rattle.hd_totals.specs.GroupPages.{PageMarks, IsMarked, IsNoted}
use Rattle.hd_totals.specs.LastChanges.{page_of}
use Rattle.hd_totals.specs.Members.{same_group, has_kept, is_member}
use Rattle.hd_queries.proofs.TotalLemmas.{has-strength, is-kept}

-- groups that are one are equal
pub one-group : (a b : Group) → same_group a b ≡ true → a ≡ b
one-group (groups.Class x) (groups.Class y) e = ap groups.Class (eqb-true x y e)
one-group (groups.Class x) (groups.Prim y) e = absurd cc
one-group (groups.Class x) groups.Classes e = absurd cc
one-group (groups.Prim x) (groups.Class y) e = absurd cc
one-group (groups.Prim x) (groups.Prim y) e = ap groups.Prim (eqb-true x y e)
one-group (groups.Prim x) groups.Classes e = absurd cc
one-group groups.Classes (groups.Class y) e = absurd cc
one-group groups.Classes (groups.Prim y) e = absurd cc
one-group groups.Classes groups.Classes e = refl

pub itself : (a : Group) → same_group a a ≡ true
itself (groups.Class x) = eq-eqb x x refl
itself (groups.Prim x) = eq-eqb x x refl
itself groups.Classes = refl

-- two tests pass
pub both : (a b : Bool) → (a && b) ≡ true → (a ≡ true) × (b ≡ true)
both true true e = (refl, refl)
both true false e = absurd cc
both false b e = absurd cc

pub pass : (a b : Bool) → a ≡ true → b ≡ true → (a && b) ≡ true
pass true true h k = refl
pass true false h k = absurd cc
pass false b h k = absurd cc

-- an object of a page at which a group is not marked is no member
pub unmarked-not-member : (dump : Dump) (ks : List Reached) (pages : PageMarks) (group : Group) (s : Strength) (o : ℕ)
    → IsNoted pages (page_of o) (object_at dump o).group (object_at dump o).id → (IsMarked pages (page_of o) group → ⊥)
    → is_member dump ks group s o ≡ false
unmarked-not-member dump ks pages group s o noted unmarked = by (is_member dump ks group s o) refl
  where
    by : (b : Bool) → is_member dump ks group s o ≡ b → b ≡ false
    by true e =
        let parts = both (has_kept ks s o) (same_group (object_at dump o).group group) e in
        absurd (unmarked (subst (λ (g : Group). IsMarked pages (page_of o) g) (one-group (object_at dump o).group group parts.1) noted.marked))
    by false e = refl

-- what is kept is settled for a dump under a log
module _ (gives : (g : Standing) (ks : List Reached) → Settled g ks → (o : ℕ) → HasStrength g o (reached_at ks o).strength)
    (one : (g : Standing) (o : ℕ) (a b : Strength) → HasStrength g o a → HasStrength g o b → a ≡ b)
    (dump : Dump) (log : List Event) (ks : List Reached) (settled : Settled (standing dump log) ks) where
  -- the test decides which objects are members
  pub decides-member : (group : Group) (s : Strength) → Decides dump (IsMember dump log group s) (is_member dump ks group s)
  decides-member group s o within = (member o, decided o)
    where
      member : (o : ℕ) → is_member dump ks group s o ≡ true → IsMember dump log group s o
      member o e =
          let parts = both (has_kept ks s o) (same_group (object_at dump o).group group) e in
          (one-group (object_at dump o).group group parts.1, has-strength one dump log ks (gives (standing dump log) ks settled) s o parts.0)

      decided : (o : ℕ) → IsMember dump log group s o → is_member dump ks group s o ≡ true
      decided o m =
          let same : same_group (object_at dump o).group group ≡ true = subst (λ (g : Group). same_group (object_at dump o).group g ≡ true) m.0
          (itself (object_at dump o).group) in
          pass (has_kept ks s o) (same_group (object_at dump o).group group) (is-kept one dump log ks (gives (standing dump log) ks settled) s o m.1) same

-- objects up to the end of the page of the first
pub same-page : (first end o : ℕ) → end ≤ first + (1024 - first % 1024) → first ≤ o → o < end → o / 1024 ≡ first / 1024
same-page first end o le after before = omega arith

module _ (dump : Dump) (test : ℕ → Bool) where
  -- no object
  pub no-ids : AreIdsBefore dump test 0 []
  no-ids = record {
    passes = λ id has. absurd (Contains-nil id has);
    all = λ o lt passes. absurd (omega arith);
  }

  -- one more object, which doesn't pass
  pub ids-without : (k : ℕ) (ids : List ℕ) → AreIdsBefore dump test k ids → test k ≡ false → AreIdsBefore dump test (k + 1) ids
  ids-without k ids h fails = record {
    passes = λ id has. let at = h.passes id has in let lt : at.0 < k = at.1 in (at.0, omega arith, at.2, at.3);
    all = λ o lt passes. elim (cases_lt o k) [
      | inl before ↦ h.all o before passes
      | inr after ↦ let last : o ≡ k = omega arith in absurd (true≢false (sym passes ∙ ap test last ∙ fails))
    ];
  }

  -- one more object, which passes
  pub ids-with : (k : ℕ) (ids : List ℕ) → AreIdsBefore dump test k ids → test k ≡ true → AreIdsBefore dump test (k + 1) (ids ++ (object_at dump k).id ∷ [])
  ids-with k ids h is = record {
    passes = λ id has. elim (Contains-append_cases ids ((object_at dump k).id ∷ []) id has) [
      | inl before ↦ let at = h.passes id before in let lt : at.0 < k = at.1 in (at.0, omega arith, at.2, at.3)
      | inr last ↦ elim (Contains-cons_cases (object_at dump k).id [] id last) [
        | inl same ↦ (k, omega arith, is, same)
        | inr none ↦ absurd (Contains-nil id none)
      ]
    ];
    all = λ o lt passes. elim (cases_lt o k) [
      | inl before ↦ Contains-append_left ids ((object_at dump k).id ∷ []) (object_at dump o).id (h.all o before passes)
      | inr after ↦
          let last : o ≡ k = omega arith in
          let here : Contains ((object_at dump k).id ∷ []) (object_at dump o).id =
          subst (λ (id : ℕ). Contains ((object_at dump k).id ∷ []) id) (ap (λ (n : ℕ). (object_at dump n).id) (sym last))
          (Contains-head (object_at dump k).id []) in
          Contains-append_right ids ((object_at dump k).id ∷ []) (object_at dump o).id here
    ];
  }

  -- more objects, none of which passes
  pub ids-quiet : (k m : ℕ) (ids : List ℕ) → AreIdsBefore dump test k ids → k ≤ m → ((o : ℕ) → k ≤ o → o < m → test o ≡ false) → AreIdsBefore dump test m ids
  ids-quiet k m ids h le quiet = record {
    passes = λ id has. let at = h.passes id has in let lt : at.0 < k = at.1 in (at.0, omega arith, at.2, at.3);
    all = λ o lt passes. elim (cases_lt o k) [
      | inl before ↦ h.all o before passes
      | inr after ↦ absurd (true≢false (sym passes ∙ quiet o after lt))
    ];
  }

  -- a list with the same IDs
  pub ids-alike : (k : ℕ) (xs ys : List ℕ) → ((id : ℕ) → Contains xs id → Contains ys id) → ((id : ℕ) → Contains ys id → Contains xs id)
      → AreIdsBefore dump test k xs → AreIdsBefore dump test k ys
  ids-alike k xs ys to from h = record {
    passes = λ id has. h.passes id (from id has);
    all = λ o lt passes. to (object_at dump o).id (h.all o lt passes);
  }

  -- after all objects they are the IDs of those that the test decides
  pub all-ids : (IsMeant : ℕ → Type 0) (ids : List ℕ) → Decides dump IsMeant test → AreIdsBefore dump test (length dump.objects) ids → IsStrictlyIncreasing ids
      → AreIdsOf dump IsMeant ids
  all-ids IsMeant ids decides h rises = record {
    ascending = rises;
    meant = λ id. (
      λ has. let at = h.passes id has in (at.0, at.1, (decides at.0 at.1).0 at.2, at.3),
      λ is. subst (λ (x : ℕ). Contains ids x) is.3
          (h.all is.0 is.1 ((decides is.0 is.1).1 is.2)),
    );
  }
