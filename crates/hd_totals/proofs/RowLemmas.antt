-- The totals of groups in their places: a place is added, or its totals are put.
use Rattle.std.proofs.Common.{◌≡◌, ◌≢◌, ◌∙◌, ℕ, zero, suc, ◌+◌, ◌-◌, ◌<◌, ◌≤◌, Bool, true, false, ◌||◌, true≢false, inl, inr, List, [], ◌∷◌, ◌++◌, length}
use Rattle.std.proofs.Common.{get_or, Contains, Some, slice_get, cond, eqb-true, eq-eqb, refl, sym, ap, subst, arith}
use Rattle.std.proofs.Math.ListN.{set}
use Rattle.std.specs.Prelude.{nat_eq, not}
use Rattle.std.specs.List.{IsDistinct, list_any, position_or_len}
use Rattle.std.proofs.lemmas.Bool.{cases_eq, cases_lt, ne_eqb}
use Rattle.std.proofs.lemmas.List.{get_or-set_same, get_or-set_other, length-set, length-append, get_or_append_left, get_or-append_right, get_or_past}
use Rattle.std.proofs.lemmas.List.{get_or_default}
use Rattle.std.proofs.lemmas.List.Elements.{Contains-append_left, Contains-append_right}
use Rattle.std.proofs.lemmas.Option.{get_or_from_slice_get}
use Rattle.std.proofs.lemmas.List.Folds.{position_or_len_push}
use Rattle.std.proofs.lemmas.List.Sums.{passes_at_first, fails_before_first, position_or_len_is, prefix_len-le-length}
use Rattle.std.proofs.lemmas.Map.Keys.{apart_from_distinct}
use Rattle.hd_terms.proofs.Lower.{Contains-first}
use Rattle.hd_totals.specs.declared.total.StrengthTotals.{StrengthTotals}
use Rattle.hd_totals.specs.Keys.{with_key}
use Rattle.hd_totals.specs.Running.{IsPlaced, IsRowPut}
use Rattle.hd_totals.specs.Totals.{Totals, no_totals, place_of, row_at}
use Rattle.hd_totals.proofs.SumLemmas.{cons-cases, no-element}

-- the place of a key among keys
abbrev place : ℕ → List ℕ → ℕ
place k keys = position_or_len (nat_eq k) keys

place-le : (k : ℕ) (keys : List ℕ) → place k keys ≤ length keys
place-le k keys = prefix_len-le-length (λ x. not (nat_eq k x)) keys

pub at-place : (k : ℕ) (keys : List ℕ) → place k keys < length keys → get_or keys (place k keys) 0 ≡ k
at-place k keys lt = sym (eqb-true k (get_or keys (place k keys) 0) (passes_at_first (nat_eq k) keys 0 lt))

pub in-place : (k : ℕ) (keys : List ℕ) → place k keys < length keys → Contains keys k
in-place k keys lt = (place k keys, lt, sym (eqb-true k (get_or keys (place k keys) k) (passes_at_first (nat_eq k) keys k lt)))

pub placed : (k : ℕ) (keys : List ℕ) → Contains keys k → place k keys < length keys
placed k keys c = elim (cases_lt c.0 (place k keys)) [
  | inl early ↦ absurd (true≢false (sym (eq-eqb k (get_or keys c.0 k) (sym c.2)) ∙ fails_before_first (nat_eq k) keys c.0 k early))
  | inr after ↦ let lt : c.0 < length keys = c.1 in omega arith
]

first-or : (a b : Bool) → a ≡ true → (a || b) ≡ true
first-or true b e = refl
first-or false b e = absurd cc

or-later : (a b : Bool) → b ≡ true → (a || b) ≡ true
or-later true b e = refl
or-later false b e = e

either : (a b : Bool) → (a || b) ≡ true → (a ≡ false) → b ≡ true
either true b e other = absurd (true≢false other)
either false b e other = e

any-from : (k : ℕ) (keys : List ℕ) → Contains keys k → list_any (nat_eq k) keys ≡ true
any-from k [] c = absurd (no-element k c)
any-from k (x ∷ keys) c = elim (cons-cases x keys k c) [
  | inl same ↦ first-or (nat_eq k x) (list_any (nat_eq k) keys) (eq-eqb k x (sym same))
  | inr later ↦ or-later (nat_eq k x) (list_any (nat_eq k) keys) (any-from k keys later)
]

pub any-to : (k : ℕ) (keys : List ℕ) → list_any (nat_eq k) keys ≡ true → Contains keys k
any-to k [] e = absurd cc
any-to k (x ∷ keys) e = elim (cases_eq k x) [
  | inl same ↦ subst (λ (y : ℕ). Contains (x ∷ keys) y) (sym same) (Contains-first x keys)
  | inr other ↦ let (j, lt, is) = any-to k keys (either (nat_eq k x) (list_any (nat_eq k) keys) e (ne_eqb k x other)) in (suc j, omega arith, is)
]

pub eqb-flips : (x y : ℕ) → nat_eq x y ≡ nat_eq y x
eqb-flips x y = elim (cases_eq x y) [
  | inl same ↦ eq-eqb x y same ∙ sym (eq-eqb y x (sym same))
  | inr differ ↦ ne_eqb x y differ ∙ sym (ne_eqb y x (λ e. differ (sym e)))
]

-- the key at an index has its place there
module _ (t : Totals) (i : ℕ) (distinct : IsDistinct nat_eq t.keys) (whole : length t.rows ≡ length t.keys) (lt : i < length t.rows) where
  abbrev key_at : ℕ
  key_at = get_or t.keys i 0

  pub before-key : (j : ℕ) → j < i → nat_eq key_at (get_or t.keys j 0) ≡ false
  before-key j less = eqb-flips key_at (get_or t.keys j 0) ∙ apart_from_distinct nat_eq t.keys j i 0 distinct less (omega arith)

  pub place-of-key : place_of t key_at ≡ i
  place-of-key = position_or_len_is (nat_eq key_at) t.keys i 0 (omega arith) before-key (λ within. eq-eqb key_at key_at refl)

  pub row-of-key : row_at t key_at ≡ get_or t.rows i no_totals
  row-of-key = ap (λ (j : ℕ). get_or t.rows j no_totals) place-of-key

-- the totals of a group are put in its place
module _ (keys : List ℕ) (rows : List StrengthTotals) (whole : length rows ≡ length keys) (key : ℕ) (lt : place key keys < length rows)
    (row : StrengthTotals) where
  abbrev old : Totals
  old = record { keys = keys; rows = rows }

  abbrev new : Totals
  new = record { keys = keys; rows = set rows (place key keys) row }

  apart : (g : ℕ) → g ≢ key → place g keys ≢ place key keys
  apart g other e =
      let within : place key keys < length keys = omega arith in
      let within' : place g keys < length keys = omega arith in
      other (sym (at-place g keys within') ∙ ap (λ (i : ℕ). get_or keys i 0) e ∙ at-place key keys within)

  pub row-put : IsRowPut old new key row
  row-put = record {
    here = get_or-set_same rows (place key keys) row no_totals lt;
    others = λ g other. get_or-set_other rows (place key keys) (place g keys) row no_totals (apart g other);
    kept = λ k c. c;
    there = in-place key keys (omega arith);
    whole = length-set rows (place key keys) row ∙ whole;
    few = omega arith;
  }

-- a place for a group is added, if it has none
module _ (keys : List ℕ) (rows : List StrengthTotals) (whole : length rows ≡ length keys) (k : ℕ) where
  abbrev t : Totals
  t = record { keys = keys; rows = rows }

  abbrev grown : Totals
  grown = record { keys = keys ++ k ∷ []; rows = rows ++ no_totals ∷ [] }

  grown-row : (g : ℕ) → row_at grown g ≡ row_at t g
  grown-row g = elim (cases_lt (place g keys) (length keys)) [
    | inl old ↦
        let e : place g (keys ++ k ∷ []) ≡ place g keys =
        position_or_len_push (nat_eq g) keys k ∙ ap (λ (b : Bool). cond b (length keys + cond (nat_eq g k) 0 1) (place g keys))
        (ne_eqb (place g keys) (length keys) (omega arith)) in
        ap (λ (i : ℕ). get_or (rows ++ no_totals ∷ []) i no_totals) e ∙ get_or_append_left rows (no_totals ∷ []) no_totals (place g keys) (omega arith)
    | inr none ↦
        let past : length rows ≤ place g (keys ++ k ∷ []) = later g none in
        none-at (place g (keys ++ k ∷ [])) past ∙ sym (get_or_past rows (place g keys) no_totals (omega arith))
  ]
    where
      later : (g : ℕ) → length keys ≤ place g keys → length rows ≤ place g (keys ++ k ∷ [])
      later g none =
          let end : place g keys ≡ length keys = omega (arith, place-le g keys) in
          let e : place g (keys ++ k ∷ []) ≡ length keys + cond (nat_eq g k) 0 1 =
          position_or_len_push (nat_eq g) keys k ∙ ap (λ (b : Bool). cond b (length keys + cond (nat_eq g k) 0 1) (place g keys))
          (eq-eqb (place g keys) (length keys) end) in
          omega arith

      none-at : (i : ℕ) → length rows ≤ i → get_or (rows ++ no_totals ∷ []) i no_totals ≡ no_totals
      none-at i past = get_or-append_right rows (no_totals ∷ []) (length rows) i no_totals refl past ∙ none-in (i - length rows)
        where
          none-in : (j : ℕ) → get_or (no_totals ∷ []) j no_totals ≡ no_totals
          none-in zero = refl
          none-in (suc j) = refl

  pub place-grown : IsRowPut t grown k (row_at t k)
  place-grown = record {
    here = grown-row k;
    others = λ g other. grown-row g;
    kept = λ x c. Contains-append_left keys (k ∷ []) x c;
    there = Contains-append_right keys (k ∷ []) k (Contains-first k []);
    whole = omega (arith, length-append rows (no_totals ∷ []), length-append keys (k ∷ []));
    few = omega (arith, length-append keys (k ∷ []));
  }

  pub place-kept : place k keys < length keys → IsRowPut t t k (row_at t k)
  place-kept lt = record {
    here = refl;
    others = λ g other. refl;
    kept = λ x c. c;
    there = in-place k keys lt;
    whole = whole;
    few = omega arith;
  }

  -- the keys with the group's, and the totals with a place for it
  pub with-place : (keys' : List ℕ) (rows' : List StrengthTotals) → keys' ≡ with_key keys k → (place k keys ≡ length rows → rows' ≡ rows ++ no_totals ∷ [])
      → (place k keys ≢ length rows → rows' ≡ rows)
      → IsRowPut t (record { keys = keys'; rows = rows' }) k (row_at t k) × (place k keys' ≡ place k keys)
  with-place keys' rows' is new old = go (list_any (nat_eq k) keys) refl
    where
      go : (b : Bool) → list_any (nat_eq k) keys ≡ b → IsRowPut t (record { keys = keys'; rows = rows' }) k (row_at t k) × (place k keys' ≡ place k keys)
      go true e =
          let lt : place k keys < length keys = placed k keys (any-to k keys e) in
          let keys_are : keys' ≡ keys = is ∙ ap (λ (b : Bool). cond b keys (keys ++ k ∷ [])) e in
          let rows_are : rows' ≡ rows = old (λ (end : place k keys ≡ length rows). omega arith) in
          (rw (keys_are, rows_are) (place-kept lt), ap (place k) keys_are)
      go false e =
          let end : place k keys ≡ length keys = ends e in
          let keys_are : keys' ≡ keys ++ k ∷ [] = is ∙ ap (λ (b : Bool). cond b keys (keys ++ k ∷ [])) e in
          let rows_are : rows' ≡ rows ++ no_totals ∷ [] = new (end ∙ sym whole) in
          let pushed : place k (keys ++ k ∷ []) ≡ length keys + 0 =
          position_or_len_push (nat_eq k) keys k ∙ ap (λ (b : Bool). cond b (length keys + cond (nat_eq k k) 0 1) (place k keys))
          (eq-eqb (place k keys) (length keys) end) ∙ ap (λ (b : Bool). length keys + cond b 0 1) (eq-eqb k k refl) in
          (rw (keys_are, rows_are) place-grown, ap (place k) keys_are ∙ (omega arith))
        where
          ends : list_any (nat_eq k) keys ≡ false → place k keys ≡ length keys
          ends e = elim (cases_lt (place k keys) (length keys)) [
            | inl lt ↦ absurd (true≢false (sym (any-from k keys (in-place k keys lt)) ∙ e))
            | inr past ↦ omega (arith, place-le k keys)
          ]

-- the place of a key that was added, or was there
pub is-placed : (keys : List ℕ) (rows : List StrengthTotals) (whole : length rows ≡ length keys) (key : ℕ) (keys' : List ℕ) (rows' : List StrengthTotals)
    (i : ℕ)
    → keys' ≡ with_key keys key → i ≡ place key keys → (i ≡ length rows → rows' ≡ rows ++ no_totals ∷ []) → (i ≢ length rows → rows' ≡ rows)
    → IsPlaced (record { keys = keys; rows = rows }) (record { keys = keys'; rows = rows' }) key i
is-placed keys rows whole key keys' rows' i keys_are is new old =
    let p = with-place keys rows whole key keys' rows' keys_are (λ e. new (is ∙ e)) (λ ne. old (λ e. ne (sym is ∙ e))) in
    let at : place key keys' ≡ place key keys = p.1 in
    let lt : place key keys' < length keys' = placed key keys' p.0.there in
    let wide : length rows' ≡ length keys' = p.0.whole in
    record { put = p.0; place_is = is ∙ sym at; within = omega arith }

-- the place of a key that stands there
pub is-placed-at : (keys : List ℕ) (rows : List StrengthTotals) → length rows ≡ length keys → IsDistinct nat_eq keys → (key i : ℕ) → i < length keys
    → get_or keys i 0 ≡ key
    → IsPlaced (record { keys = keys; rows = rows }) (record { keys = keys; rows = rows }) key i
is-placed-at keys rows whole distinct key i lt is =
    let within : i < length rows = omega (arith, lt, whole) in
    let at : place key keys ≡ i = ap (λ (k : ℕ). place k keys) (sym is) ∙ place-of-key (record { keys = keys; rows = rows }) i distinct whole within in
    record { put = place-kept keys rows whole key (omega (arith, at, lt)); place_is = sym at; within = within }

-- the totals of a key are put in a place that was added
pub put-after : (t t' : Totals) (key : ℕ) (row row' : StrengthTotals) → IsRowPut t t' key row
    → IsRowPut t (record { keys = t'.keys; rows = set t'.rows (place_of t' key) row' }) key row'
put-after t t' key row row' p =
    let lt : place key t'.keys < length t'.keys = placed key t'.keys p.there in
    let q : IsRowPut t' (record { keys = t'.keys; rows = set t'.rows (place_of t' key) row' }) key row' =
    row-put t'.keys t'.rows p.whole key (let w : length t'.rows ≡ length t'.keys = p.whole in omega arith) row' in
    record {
      here = q.here;
      others = λ k other. q.others k other ∙ p.others k other;
      kept = λ k c. p.kept k c;
      there = p.there;
      whole = q.whole;
      few = p.few;
    }

-- totals that are read and put in the place of a key
pub put-placed : (t t' : Totals) (key i : ℕ) (row row' : StrengthTotals) → IsPlaced t t' key i → row ≡ get_or t'.rows i row
    → (row ≡ row_at t key) × IsRowPut t (record { keys = t'.keys; rows = set t'.rows i row' }) key row'
put-placed t t' key i row row' p read = (
  read ∙ get_or_default t'.rows i row no_totals p.within ∙ ap (λ (j : ℕ). get_or t'.rows j no_totals) p.place_is ∙ p.put.here,
  subst (λ (j : ℕ). IsRowPut t (record { keys = t'.keys; rows = set t'.rows j row' }) key row') (sym p.place_is) (put-after t t' key (row_at t key) row' p.put),
)

-- totals that are read in their place
pub read-row : (u t : Totals) (key i : ℕ) (row : StrengthTotals) → u ≡ t → i ≡ place_of t key → slice_get u.rows i ≡ Some row → row ≡ row_at t key
read-row u t key i row is at read =
    sym (get_or_from_slice_get u.rows i row no_totals read) ∙ ap (λ (x : Totals). get_or x.rows i no_totals) is ∙ ap (λ (j : ℕ). get_or t.rows j no_totals) at

-- and put there
pub put-at : (u t : Totals) (key i : ℕ) (row : StrengthTotals) (rows : List StrengthTotals) → u ≡ t → i ≡ place_of t key → i < length t.rows
    → length t.rows ≡ length t.keys → rows ≡ set u.rows i row → IsRowPut t (record { keys = u.keys; rows = rows }) key row
put-at u t key i row rows is at lt whole put =
    subst (λ (x : Totals). rows ≡ set x.rows i row → IsRowPut t (record { keys = x.keys; rows = rows }) key row) (sym is)
    (λ put'. subst (λ (rs : List StrengthTotals). IsRowPut t (record { keys = t.keys; rows = rs }) key row) (sym (put' ∙ ap (λ (j : ℕ). set t.rows j row) at))
    (row-put t.keys t.rows whole key (omega arith) row))
    put
