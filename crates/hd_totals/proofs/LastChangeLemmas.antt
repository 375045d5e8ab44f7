-- When the strengths of the objects of a page last changed, from one event to the next.
use Rattle.std.proofs.Common.{◌≡◌, ◌≢◌, ◌∙◌, ℕ, ◌+◌, ◌<◌, ◌≤◌, false, inl, inr, List, [], ◌∷◌, ◌++◌, length, get_or, set, take, eq-eqb, refl, sym, ap, subst}
use Rattle.std.proofs.Common.{arith}
use Rattle.std.proofs.lemmas.Bool.{cases_eq, cases_lt}
use Rattle.std.proofs.lemmas.List.{get_or_default, get_or-set_same, get_or-set_other, length-set, length_push, take_all, take-append-le}
use Rattle.hd_terms.specs.declared.Event.{Event}
use Rattle.hd_terms.specs.declared.Strength.{Strength}
use Rattle.hd_terms.specs.Dump.{Dump}
use Rattle.hd_terms.specs.EditedDump.{standing}
use Rattle.hd_terms.specs.Paths.{Standing}
use Rattle.hd_terms.specs.Ranks.{rank}
use Rattle.hd_terms.specs.Regions.{StrengthChange, AreChanges}
use Rattle.hd_terms.specs.Settled.{Reached, Settled, reached_at}
use Rattle.hd_terms.specs.Strengths.{HasStrength}
use Rattle.hd_totals.specs.Fallen.{falls_to, falls_from}
use Rattle.hd_totals.specs.LastChanges.{page_of, HasChangeOn, IsUnchanged, AreChangedBy, AreLastChanges}
use Rattle.hd_totals.proofs.ChangeLemmas.{change-there}
use Rattle.hd_totals.proofs.FallenLemmas.{change-of, falls-not}
use Rattle.hd_totals.proofs.TotalLemmas.{one-rank}

-- after the first changes
pub record IsChangedUpTo (before : List ℕ) (changes : List StrengthChange) (n i : ℕ) (after : List ℕ) : Type 0 where
  pub count : length after ≡ length before
  pub changed : (j : ℕ) (d : StrengthChange) → j < i → j < length changes → page_of (get_or changes j d).object < length before
      → get_or after (page_of (get_or changes j d).object) 0 ≡ n
  pub others : (page : ℕ) → (HasChangeOn page changes → ⊥) → get_or after page 0 ≡ get_or before page 0

module _ (before : List ℕ) (changes : List StrengthChange) (n : ℕ) where
  pub none-changed : IsChangedUpTo before changes n 0 before
  none-changed = record {
    count = refl;
    changed = λ j d less lt within. absurd (omega arith);
    others = λ page none. refl;
  }

  pub one-changed : (i : ℕ) (d0 : StrengthChange) (lt : i < length changes) (mid : List ℕ) → IsChangedUpTo before changes n i mid → (page : ℕ)
      → page ≡ page_of (get_or changes i d0).object → IsChangedUpTo before changes n (i + 1) (set mid page n)
  one-changed i d0 lt mid h page page_is = record {
    count = length-set mid page n ∙ h.count;
    changed = changed;
    others = λ p none. get_or-set_other mid page p n 0 (λ same. none (get_or changes i d0, change-there changes i d0 lt, sym page_is ∙ sym same))
        ∙ h.others p none;
  }
    where
      changed : (j : ℕ) (d : StrengthChange) → j < i + 1 → j < length changes → page_of (get_or changes j d).object < length before
          → get_or (set mid page n) (page_of (get_or changes j d).object) 0 ≡ n
      changed j d less within inside = elim (cases_eq (page_of (get_or changes j d).object) page) [
        | inl same ↦
            let there : page < length mid = omega (arith, h.count, same, inside) in
            ap (λ (p : ℕ). get_or (set mid page n) p 0) same ∙ get_or-set_same mid page n 0 there
        | inr other ↦
            let earlier : j < i = elim (cases_eq j i) [
              | inl last ↦ absurd (other (ap (λ (k : ℕ). page_of (get_or changes k d).object) last
                  ∙ ap (λ (x : StrengthChange). page_of x.object) (get_or_default changes i d d0 lt) ∙ sym page_is))
              | inr before ↦ omega arith
            ] in
            get_or-set_other mid page (page_of (get_or changes j d).object) n 0 other ∙ h.changed j d earlier within inside
      ]

  pub all-changed : (i : ℕ) (after : List ℕ) → length changes ≤ i → IsChangedUpTo before changes n i after → AreChangedBy before changes n after
  all-changed i after all h = record {
    count = h.count;
    changed = λ page within has.
        let d = has.0 in
        let j = has.1.0 in
        let lt : j < length changes = has.1.1 in
        let is : page_of (get_or changes j d).object ≡ page = ap (λ (x : StrengthChange). page_of x.object) has.1.2 ∙ has.2 in
        ap (λ (p : ℕ). get_or after p 0) (sym is) ∙ h.changed j d (omega arith) lt (subst (λ (p : ℕ). p < length before) (sym is) within);
    others = h.others;
  }

-- a strength that is of no change stays
same-strength : (s t : Strength) → (s ≢ t → ⊥) → s ≡ t
same-strength s t none = elim (cases_eq (rank s) (rank t)) [
  | inl same ↦ one-rank s t (eq-eqb (rank s) (rank t) same)
  | inr other ↦ absurd (none (λ e. other (ap rank e)))
]

module _ (gives : (g : Standing) (ks : List Reached) → Settled g ks → (o : ℕ) → HasStrength g o (reached_at ks o).strength) (dump : Dump) where
  -- before the first event
  pub opened : (ks : List Reached) (last : List ℕ) → Settled (standing dump []) ks → AreLastChanges dump [] ks last
  opened ks last settled o n unchanged le =
      let none : take {A = Event} n [] ≡ [] = take_all {A = Event} n [] (omega arith) in
      rw none (gives (standing dump []) ks settled o)

  -- after one more event
  pub stepped : (log : List Event) (event : Event) (old new : List Reached) (changes : List StrengthChange) (before after : List ℕ)
      → AreLastChanges dump log old before → AreChanges old new changes → AreChangedBy before changes (length log + 1) after
      → Settled (standing dump (log ++ event ∷ [])) new
      → AreLastChanges dump (log ++ event ∷ []) new after
  stepped log event old new changes before after h moved by settled o n unchanged le = elim (cases_lt (length log) n) [
    | inl last ↦
        let whole : take n (log ++ event ∷ []) ≡ log ++ event ∷ [] = take_all n (log ++ event ∷ []) (omega (arith, length_push log event)) in
        rw whole (gives (standing dump (log ++ event ∷ [])) new settled o)
    | inr earlier ↦
        let page = page_of o in
        let inside : page < length before = omega (arith, by.count, unchanged.0) in
        let none : HasChangeOn page changes → ⊥ =
        λ has. (let late : get_or after page 0 ≡ length log + 1 = by.changed page inside has in omega (arith, late, unchanged.1)) in
        let stays : (reached_at old o).strength ≡ (reached_at new o).strength = same-strength (reached_at old o).strength (reached_at new o).strength
        (λ differs. (
        let found = change-of changes o (moved.all o differs) in
        none (found.0, found.1, ap page_of found.2))) in
        let was : IsUnchanged before page n = (inside, subst (λ (k : ℕ). k ≤ n) (by.others page none) unchanged.1) in
        let begins : take n (log ++ event ∷ []) ≡ take n log = take-append-le n log (event ∷ []) (omega arith) in
        rw begins (subst (λ (s : Strength). HasStrength (standing dump (take n log)) o s) stays (h o n was (omega arith)))
  ]

-- an object of a page that neither of two logs has changed since a beginning of both has one strength under both
pub same-since : (one : (g : Standing) (o : ℕ) (a b : Strength) → HasStrength g o a → HasStrength g o b → a ≡ b) (dump : Dump)
    (earlier later : List Event) (ks ls : List Reached) (was is : List ℕ) (n : ℕ)
    → AreLastChanges dump earlier ks was → AreLastChanges dump later ls is → n ≤ length earlier → n ≤ length later → take n earlier ≡ take n later
    → (o : ℕ) → IsUnchanged was (page_of o) n → IsUnchanged is (page_of o) n → (reached_at ks o).strength ≡ (reached_at ls o).strength
same-since one dump earlier later ks ls was is n h k le le' same o still still' =
    let now : HasStrength (standing dump (take n later)) o (reached_at ks o).strength =
    subst (λ (log : List Event). HasStrength (standing dump log) o (reached_at ks o).strength) same (h o n still le) in
    one (standing dump (take n later)) o (reached_at ks o).strength (reached_at ls o).strength now (k o n still' le')

-- an object that has one strength before and after doesn't fall
pub same-not-falls : (ks ls : List Reached) (o : ℕ) → (reached_at ks o).strength ≡ (reached_at ls o).strength → falls_from ks ls o ≡ false
same-not-falls ks ls o same = ap (λ (s : Strength). falls_to s (reached_at ls o).strength) same ∙ falls-not (reached_at ls o).strength
