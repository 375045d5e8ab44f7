-- The rows of the groups that have objects of a strength.
use Rattle.std.proofs.Common.{◌≡◌, ◌∙◌, ℕ, zero, suc, ◌+◌, ◌<◌, ◌≤◌, Bool, true, ◌&&◌, inl, inr, List, [], ◌∷◌, ◌++◌, length, map, get_or, Contains, Some}
use Rattle.std.proofs.Common.{slice_get, eq-eqb, refl, sym, ap, subst, arith, true≢false}
use Rattle.std.specs.Cmp.{nat_eq_equiv}
use Rattle.std.specs.Prelude.{All, nat_eq}
use Rattle.std.specs.List.{IsDistinct, list_any}
use Rattle.std.specs.List.Sorted.{IsNonDecreasing, IsNonDecreasingBy, IsPermutation}
use Rattle.std.proofs.lemmas.Bool.{cases_lt}
use Rattle.std.proofs.lemmas.List.{get_or-map, get_or_past, length-map, map-append}
use Rattle.std.proofs.lemmas.List.Elements.{All-contains, All-push, All-weaker, Contains-append_left, Contains-push, Contains-push_cases}
use Rattle.std.proofs.lemmas.List.Sorted.{All-permutation, Contains-permutation, IsPermutation-map}
use Rattle.std.proofs.lemmas.Option.{get_or_from_slice_get}
use Rattle.std.proofs.lemmas.Map.Keys.{IsDistinct-IsPermutation, IsDistinct-push, IsStrictlyIncreasing-from_distinct}
use Rattle.hd_terms.specs.declared.ClassRow.{ClassRow}
use Rattle.hd_terms.specs.declared.Group.{Group}
use Rattle.hd_terms.specs.declared.Group.TheVariants as groups
use Rattle.hd_terms.specs.declared.Strength.{Strength}
use Rattle.hd_terms.specs.Dump.{Dump, object_at}
use Rattle.hd_terms.specs.Listed.{group_key}
use Rattle.hd_terms.specs.Settled.{Reached}
use Rattle.hd_totals.specs.declared.total.StrengthTotals.{StrengthTotals}
use Rattle.hd_totals.specs.Members.{has_kept, is_member, InRange}
use Rattle.hd_totals.specs.Rows.{row_key, row_group, IsRowOf, AreRowsBefore, AreRowsOf, IsMemberRow, AreMemberRows}
use Rattle.hd_totals.specs.Totals.{Totals, no_totals, total_for, total_in, row_at, place_of, AreTotals}
use Rattle.hd_totals.proofs.GroupLemmas.{one-key, itself}
use Rattle.hd_totals.proofs.RowLemmas.{at-place, any-to, eqb-flips, before-key, row-of-key}
use Rattle.hd_totals.proofs.SumLemmas.{no-element, cons-cases, not-true, and-true, count-term, some-passes}
use Rattle.hd_totals.proofs.TotalLemmas.{total-none}

contains-map : {X Y : Type 0} (f : X → Y) (xs : List X) (x : X) → Contains xs x → Contains (map f xs) (f x)
contains-map f xs x c =
    let lt : c.0 < length xs = c.1 in
    (c.0, omega (arith, length-map xs f), get_or-map f xs c.0 x (f x) lt ∙ ap f c.2)

-- the row of a key
row-of : (rows : List ClassRow) (key : ℕ) → Contains (map row_key rows) key → (row : ClassRow) × Contains rows row × (row_key row ≡ key)
row-of [] key c = absurd (no-element key c)
row-of (row ∷ rows) key c = elim (cons-cases (row_key row) (map row_key rows) key c) [
  | inl same ↦ (row, (zero, omega arith, refl), same)
  | inr later ↦
      let r : (x : ClassRow) × Contains rows x × (row_key x ≡ key) = row-of rows key later in
      let at = r.1 in
      (r.0, (suc at.0, (let lt : at.0 < length rows = at.1 in omega arith), at.2), r.2)
]

pub no-rows : (t : Totals) (s : Strength) → AreRowsBefore t s 0 []
unfolding IsDistinct
no-rows t s = record {
  distinct = tt;
  each = λ j d lt. absurd (omega arith);
  found = λ key c. absurd (no-element key c);
  all = λ i lt some. absurd (omega arith);
}

-- one more key at the end
distinct-push : (xs : List ℕ) (y : ℕ) → IsDistinct nat_eq xs → (Contains xs y → ⊥) → IsDistinct nat_eq (xs ++ y ∷ [])
distinct-push xs y d new = IsDistinct-push nat_eq_equiv xs y d (not-true (list_any (nat_eq y) xs) (λ e. new (any-to y xs e)))

module _ (t : Totals) (s : Strength) (i : ℕ) (distinct : IsDistinct nat_eq t.keys) (whole : length t.rows ≡ length t.keys) (lt : i < length t.rows) where
  abbrev key : ℕ
  key = get_or t.keys i 0

  abbrev totals : StrengthTotals
  totals = get_or t.rows i no_totals

  totals-are : row_at t key ≡ totals
  totals-are = row-of-key t i distinct whole lt

  module _ (rows : List ClassRow) (h : AreRowsBefore t s i rows) where
    further : (k : ℕ) → (j : ℕ) × (j < i) × (get_or t.keys j 0 ≡ k) → (j : ℕ) × (j < i + 1) × (get_or t.keys j 0 ≡ k)
    further k at = let less : at.0 < i = at.1 in (at.0, omega arith, at.2)

    -- a group with no object of the strength
    pub row-without : (total_for totals s).count ≡ 0 → AreRowsBefore t s (i + 1) rows
    row-without none = record {
      distinct = h.distinct;
      each = h.each;
      found = λ k c. further k (h.found k c);
      all = λ j less some. elim (cases_lt j i) [
        | inl before ↦ h.all j before some
        | inr after ↦ let same : j ≡ i = omega arith in
            absurd (let zero_is = ap (λ (x : ℕ). (total_for (get_or t.rows x no_totals) s).count) same in omega (arith, zero_is, none, some))
      ];
    }

    -- a group with some
    pub row-with : (row : ClassRow) → InRange row.group → group_key row.group ≡ key → row.count ≡ (total_for totals s).count
        → row.bytes ≡ (total_for totals s).bytes → 1 ≤ row.count → AreRowsBefore t s (i + 1) (rows ++ row ∷ [])
    row-with row range key_is count_is bytes_is some = record {
      distinct = subst (IsDistinct nat_eq) (sym pushed) (distinct-push (map row_key rows) (row_key row) h.distinct new);
      each = All-push (IsRowOf t s) rows row h.each
          (record {
            range = range;
            count_is = count_is ∙ sym (ap (λ (x : StrengthTotals). (total_for x s).count) at);
            bytes_is = bytes_is
                ∙ sym (ap (λ (x : StrengthTotals). (total_for x s).bytes) at);
            some = some;
          });
      found = λ k c. elim (Contains-push_cases (map row_key rows) (row_key row) k (subst (λ (ks : List ℕ). Contains ks k) pushed c)) [
        | inl old ↦ further k (h.found k old)
        | inr same ↦ (i, omega arith, sym key_is ∙ same)
      ];
      all = λ j less more. elim (cases_lt j i) [
        | inl before ↦ subst (λ (ks : List ℕ). Contains ks (get_or t.keys j 0)) (sym pushed)
            (Contains-append_left (map row_key rows) (row_key row ∷ []) (get_or t.keys j 0) (h.all j before more))
        | inr after ↦
            let same : i ≡ j = omega arith in
            subst (λ (x : ℕ). Contains (map row_key (rows ++ row ∷ [])) (get_or t.keys x 0)) same
            (subst (λ (k : ℕ). Contains (map row_key (rows ++ row ∷ [])) k) key_is
            (subst (λ (ks : List ℕ). Contains ks (row_key row)) (sym pushed) (Contains-push (map row_key rows) (row_key row))))
      ];
    }
      where
        pushed : map row_key (rows ++ row ∷ []) ≡ map row_key rows ++ row_key row ∷ []
        pushed = map-append row_key rows (row ∷ [])

        at : row_at t (group_key row.group) ≡ totals
        at = ap (row_at t) key_is ∙ totals-are

        new : Contains (map row_key rows) (row_key row) → ⊥
        new c =
            let old = h.found (row_key row) c in
            true≢false (sym (eq-eqb key (get_or t.keys old.0 0) (sym (old.2 ∙ key_is))) ∙ before-key t i distinct whole lt old.0 old.1)

-- one more group, as it is read
pub gather-step : (u t : Totals) → u ≡ t → (s : Strength) (i : ℕ) (keys : List ℕ) → keys ≡ u.keys → IsDistinct nat_eq keys → length u.rows ≡ length u.keys
    → i < length u.rows
    → (rows : List ClassRow) → AreRowsBefore t s i rows → (totals : StrengthTotals) → slice_get u.rows i ≡ Some totals → (key : ℕ) → slice_get keys i ≡ Some key
    → ((total_for totals s).count ≡ 0 → AreRowsBefore t s (i + 1) rows)
    × ((row : ClassRow) → InRange row.group → group_key row.group ≡ key → row.count ≡ (total_for totals s).count → row.bytes ≡ (total_for totals s).bytes
    → 1 ≤ row.count → AreRowsBefore t s (i + 1) (rows ++ row ∷ []))
gather-step u t is s i keys keys_are distinct whole lt rows h totals read key read_key = subst
    (λ (x : Totals). AreRowsBefore x s i rows → ((total_for totals s).count ≡ 0 → AreRowsBefore x s (i + 1) rows)
    × ((row : ClassRow) → InRange row.group → group_key row.group ≡ key → row.count ≡ (total_for totals s).count → row.bytes ≡ (total_for totals s).bytes
    → 1 ≤ row.count → AreRowsBefore x s (i + 1) (rows ++ row ∷ []))) is
    (λ g. (
      λ none. row-without u s i distinct' whole lt rows g (ap (λ (x : StrengthTotals). (total_for x s).count) here ∙ none),
      λ row range key_is count_is bytes_is some.
          row-with u s i distinct' whole lt rows g row range (key_is ∙ sym here_key) (count_is ∙ ap (λ (x : StrengthTotals). (total_for x s).count) (sym here))
          (bytes_is ∙ ap (λ (x : StrengthTotals). (total_for x s).bytes) (sym here)) some,
    )) h
  where
    distinct' : IsDistinct nat_eq u.keys
    distinct' = subst (IsDistinct nat_eq) keys_are distinct

    here : get_or u.rows i no_totals ≡ totals
    here = get_or_from_slice_get u.rows i totals no_totals read

    here_key : get_or u.keys i 0 ≡ key
    here_key = ap (λ (ks : List ℕ). get_or ks i 0) (sym keys_are) ∙ get_or_from_slice_get keys i key 0 read_key

-- the rows in order
module _ (t : Totals) (s : Strength) (whole : length t.rows ≡ length t.keys) (rows sorted : List ClassRow) (h : AreRowsBefore t s (length t.rows) rows)
    (moved : IsPermutation rows sorted) where
  each : All (IsRowOf t s) sorted
  each = All-permutation (IsRowOf t s) rows sorted moved h.each

  rises : IsNonDecreasingBy row_key sorted → IsNonDecreasing (map row_key sorted)
  rises up = λ i j d le lt.
      let none : ClassRow = record { group = groups.Classes; count = 0; bytes = 0 } in
      let within : j < length sorted = omega (arith, lt, length-map sorted row_key) in
      omega (arith, up i j none le within, get_or-map row_key sorted i none d (omega arith), get_or-map row_key sorted j none d within)

  is-there : (group : Group) → InRange group → place_of t (group_key group) < length t.rows → 1 ≤ (total_in t group s).count
      → Contains (map row_group sorted) group
  is-there group range lt some =
      let c = h.all (place_of t (group_key group)) lt some in
      let c' : Contains (map row_key rows) (group_key group) = subst (λ (k : ℕ). Contains (map row_key rows) k)
      (at-place (group_key group) t.keys (omega arith)) c in
      let found = row-of sorted (group_key group)
      (Contains-permutation (map row_key rows) (map row_key sorted) (group_key group) (IsPermutation-map row_key rows sorted moved) c') in
      let row = found.0 in
      let is : row.group ≡ group = one-key row.group group (All-contains (IsRowOf t s) sorted row each found.1).range range found.2 in
      subst (λ (g : Group). Contains (map row_group sorted) g) is (contains-map row_group sorted row found.1)

  pub rows-of : IsNonDecreasingBy row_key sorted → AreRowsOf t s sorted
  rows-of up = record {
    in_order = IsStrictlyIncreasing-from_distinct (map row_key sorted) (rises up)
        (IsDistinct-IsPermutation nat_eq eqb-flips (map row_key rows) (map row_key sorted) (IsPermutation-map row_key rows sorted moved) h.distinct);
    each = each;
    all = λ group range some. elim (cases_lt (place_of t (group_key group)) (length t.rows)) [
      | inl lt ↦ is-there group range lt some
      | inr past ↦
          let none : (total_in t group s).count ≡ 0 = ap (λ (x : StrengthTotals). (total_for x s).count)
          (get_or_past t.rows (place_of t (group_key group)) no_totals past) ∙ ap (λ total. total.count) (total-none s) in
          absurd (omega arith)
    ];
  }

-- the rows by what is kept of the objects
pub member-rows : (t : Totals) (s : Strength) (rows : List ClassRow) → AreRowsOf t s rows → (dump : Dump) (ks : List Reached) → AreTotals dump ks t
    → AreMemberRows dump ks s rows
member-rows t s rows h dump ks totals = record {
  in_order = h.in_order;
  each = All-weaker (IsRowOf t s) (IsMemberRow dump ks s) member rows h.each;
  all = all;
}
  where
    member : (row : ClassRow) → IsRowOf t s row → IsMemberRow dump ks s row
    member row r =
        let count_is = r.count_is ∙ totals.counts row.group s r.range in
        record {
          range = r.range;
          count_is = count_is;
          bytes_is = r.bytes_is ∙ totals.bytes row.group s r.range;
          some = some-passes (is_member dump ks row.group s) (length dump.objects) (subst (λ (n : ℕ). 1 ≤ n) count_is r.some);
        }

    all : (o : ℕ) → o < length dump.objects → has_kept ks s o ≡ true → Contains (map row_group rows) (object_at dump o).group
    all o lt kept =
        let g = (object_at dump o).group in
        let passes : is_member dump ks g s o ≡ true = ap (λ (b : Bool). has_kept ks s o && b) (itself g) ∙ and-true (has_kept ks s o) ∙ kept in
        h.all g (totals.in_range o lt)
        (subst (λ (n : ℕ). 1 ≤ n) (sym (totals.counts g s (totals.in_range o lt))) (count-term (is_member dump ks g s) o (length dump.objects) lt passes))
