-- What is counted over all objects, counted over the changes.
use Rattle.std.proofs.Common.{◌≡◌, ◌∙◌, ℕ, zero, suc, ◌<◌, Bool, true, false, true≢false, inl, inr, List, [], ◌∷◌, length, Contains, refl, sym, ap, arith}
use Rattle.std.specs.Prelude.{count_by}
use Rattle.std.specs.List.{range_with_len}
use Rattle.std.proofs.lemmas.Bool.{cases_lt}
use Rattle.std.proofs.lemmas.List.{get_or_past}
use Rattle.hd_terms.specs.declared.Strength.{Strength}
use Rattle.hd_terms.specs.declared.Strength.TheVariants as strengths
use Rattle.hd_terms.specs.Regions.{StrengthChange, AreChanges, changed_objects}
use Rattle.hd_terms.specs.Settled.{Reached, reached_at, unreached}
use Rattle.hd_totals.specs.Fallen.{falls_to, falls_from}
use Rattle.hd_totals.proofs.SumLemmas.{one_if, count_cons, count-listed, cons-cases, no-element}

first-change : (d : StrengthChange) (ds : List StrengthChange) → Contains (d ∷ ds) d
first-change d ds = (zero, omega arith, refl)

later-change : (d : StrengthChange) (ds : List StrengthChange) (x : StrengthChange) → Contains ds x → Contains (d ∷ ds) x
later-change d ds x (k, lt, is) = (suc k, omega arith, is)

-- the change of an object
pub change-of : (ds : List StrengthChange) (o : ℕ) → Contains (changed_objects ds) o → (d : StrengthChange) × Contains ds d × (d.object ≡ o)
change-of [] o c = absurd (no-element o c)
change-of (d ∷ ds) o c = elim (cons-cases d.object (changed_objects ds) o c) [
  | inl same ↦ (d, first-change d ds, same)
  | inr later ↦ let r : (x : StrengthChange) × Contains ds x × (x.object ≡ o) = change-of ds o later in (r.0, later-change d ds r.0 r.1, r.2)
]

-- a test of the objects of changes, and one of the changes
counted-changes : (p : ℕ → Bool) (q : StrengthChange → Bool) (ds : List StrengthChange) → ((d : StrengthChange) → Contains ds d → p d.object ≡ q d)
    → count_by p (changed_objects ds) ≡ count_by q ds
counted-changes p q [] same = refl
counted-changes p q (d ∷ ds) same =
    let here : one_if (p d.object) ≡ one_if (q d) = ap one_if (same d (first-change d ds)) in
    let later : count_by p (changed_objects ds) ≡ count_by q ds = counted-changes p q ds (λ x c. same x (later-change d ds x c)) in
    omega (arith, count_cons p d.object (changed_objects ds), count_cons q d ds)

module _ (before after : List Reached) (changes : List StrengthChange) (h : AreChanges before after changes) (n : ℕ) (before_count : length before ≡ n)
    (after_count : length after ≡ n) where
  -- past the last object nothing changes
  pub within : (o : ℕ) → Contains (changed_objects changes) o → o < n
  within o c = elim (cases_lt o n) [
    | inl lt ↦ lt
    | inr past ↦
        let found = change-of changes o c in
        let d = found.0 in
        let was : reached_at before d.object ≡ unreached = get_or_past before d.object unreached (let e : d.object ≡ o = found.2 in omega arith) in
        let is : reached_at after d.object ≡ unreached = get_or_past after d.object unreached (let e : d.object ≡ o = found.2 in omega arith) in
        let each = h.each d found.1 in
        absurd (each.2 (sym each.0 ∙ ap (λ (k : Reached). k.strength) (was ∙ sym is) ∙ each.1))
  ]

  -- a test that no object passes whose strength stays
  pub count-changes : (f : Strength → Strength → Bool) → ((s : Strength) → f s s ≡ false)
      → count_by (λ (o : ℕ). f (reached_at before o).strength (reached_at after o).strength) (range_with_len 0 n) ≡ count_by
      (λ (d : StrengthChange). f d.before d.after) changes
  count-changes f stays = count-listed p n (changed_objects changes) h.once within listed
      ∙ counted-changes p (λ (d : StrengthChange). f d.before d.after) changes same
    where
      p : ℕ → Bool
      p o = f (reached_at before o).strength (reached_at after o).strength

      listed : (o : ℕ) → o < n → p o ≡ true → Contains (changed_objects changes) o
      listed o lt e = h.all o (λ s. true≢false (sym e ∙ ap (f (reached_at before o).strength) (sym s) ∙ stays (reached_at before o).strength))

      same : (d : StrengthChange) → Contains changes d → p d.object ≡ f d.before d.after
      same d c =
          let each = h.each d c in
          ap (λ (s : Strength). f s (reached_at after d.object).strength) each.0 ∙ ap (f d.before) each.1

-- no strength falls to itself
pub falls-not : (s : Strength) → falls_to s s ≡ false
falls-not strengths.Unreachable = refl
falls-not strengths.Phantom = refl
falls-not strengths.Final = refl
falls-not strengths.Weak = refl
falls-not strengths.Soft = refl
falls-not strengths.Strong = refl

pub fallen-counted : (before after : List Reached) (changes : List StrengthChange) → AreChanges before after changes → length before ≡ length after
    → count_by (falls_from before after) (range_with_len 0 (length after)) ≡ count_by (λ (d : StrengthChange). falls_to d.before d.after) changes
fallen-counted before after changes h same = count-changes before after changes h (length after) same refl falls_to falls-not

pub back-counted : (before after : List Reached) (changes : List StrengthChange) → AreChanges before after changes → length before ≡ length after
    → count_by (falls_from after before) (range_with_len 0 (length after)) ≡ count_by (λ (d : StrengthChange). falls_to d.after d.before) changes
back-counted before after changes h same = count-changes before after changes h (length after) same refl (λ (s t : Strength). falls_to t s) falls-not
