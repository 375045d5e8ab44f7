-- Lemmas on references as numbers of four bytes.
use Rattle.std.proofs.Common.{◌≡◌, ◌≢◌, ◌∙◌, ℕ, zero, suc, ◌+◌, ◌-◌, ◌<◌, ◌≤◌, ◌^◌, inl, inr, Bool, true, false, List, [], ◌∷◌, ◌++◌, length, map, get_or, Some}
use Rattle.std.proofs.Common.{None, refl, sym, ap, arith, All, cond, ltb, eqb, eqb-true, ne_eqb, length-append}
use Rattle.std.specs.List.{position, prefix_len}
use Rattle.std.specs.Prelude.{not, is_some}
use Rattle.std.proofs.lemmas.Bool.{cases_eq, cases_lt, lt-ltb, le-ltb}
use Rattle.std.proofs.lemmas.List.{get_or_append_left, get_or-append_right}
use Rattle.std.proofs.lemmas.List.Elements.{All-head, All-tail, All-weaker}
use Rattle.std.proofs.lemmas.List.Quantifiers.{position-Some}
use Rattle.hd_slots.specs.Table.{null_code, is_known}
use Rattle.hd_slots.specs.Codes.{id_of_code, IsCode}

-- no object has the ID 0
all_pass : (ids : List ℕ) → All (λ id. 0 < id) ids → prefix_len (λ x. not (eqb 0 x)) ids ≡ length ids
all_pass [] h = refl
all_pass (zero ∷ ids) h = let pos : 0 < 0 = All-head (λ id. 0 < id) zero ids h in absurd (omega arith)
all_pass (suc n ∷ ids) h = let rest : prefix_len (λ x. not (eqb 0 x)) ids ≡ length ids = all_pass ids (All-tail (λ id. 0 < id) (suc n) ids h) in
    rw (ne_eqb 0 (suc n) (omega arith)) (omega (arith, rest))

pub null-nowhere : (ids : List ℕ) → All (λ id. 0 < id) ids → position (λ x. eqb 0 x) ids ≡ None
null-nowhere ids h = rw (all_pass ids h, le-ltb (length ids) (length ids) (omega arith)) refl

module _ (ids absent : List ℕ) where
  -- what null stands for
  pub id-null : id_of_code ids absent null_code ≡ 0
  id-null = refl

  -- what the number of an object stands for
  pub id-object : (code : ℕ) → length ids < 2 ^ 32 - 1 → code < length ids → id_of_code ids absent code ≡ get_or ids code 0
  id-object code few lt = rw (ne_eqb code null_code (omega arith), lt-ltb code (length ids) lt) refl

  -- what any other number stands for
  pub id-absent : (code : ℕ) → code ≢ null_code → length ids ≤ code → id_of_code ids absent code ≡ get_or absent (code - length ids) 0
  id-absent code other le = rw (ne_eqb code null_code other, le-ltb code (length ids) le) refl

-- null is a number of no object
pub null-code : (ids absent : List ℕ) → length ids < 2 ^ 32 - 1 → All (λ id. 0 < id) ids → IsCode ids absent null_code
null-code ids absent few h = record {
  target = rw (id-null ids absent, null-nowhere ids h, le-ltb null_code (length ids) (omega arith)) refl;
  known = inl refl;
}

-- where an ID is found
pub object-code : (ids absent : List ℕ) (id code : ℕ) → length ids < 2 ^ 32 - 1 → position (λ x. eqb id x) ids ≡ Some code → IsCode ids absent code
    × (id_of_code ids absent code ≡ id)
object-code ids absent id code few found =
    let at = position-Some (λ x. eqb id x) ids code 0 found in
    let is : id_of_code ids absent code ≡ id = id-object ids absent code few at.0 ∙ sym (eqb-true id (get_or ids code 0) at.1) in
    (record { target = rw (is, found, lt-ltb code (length ids) at.0) refl; known = inr (omega (arith, at.0)) }, is)

-- an ID that is found nowhere gets the next index
pub absent-code : (ids absent : List ℕ) (id : ℕ) → length ids + length absent < 2 ^ 32 - 1 → position (λ x. eqb id x) ids ≡ None
    → IsCode ids (absent ++ id ∷ []) (length ids + length absent) × (id_of_code ids (absent ++ id ∷ []) (length ids + length absent) ≡ id)
absent-code ids absent id room none =
    let code = length ids + length absent in
    let zero_index : code - length ids - length absent ≡ 0 = omega arith in
    let index : code - length ids ≡ length absent = omega arith in
    let here : get_or (absent ++ id ∷ []) (code - length ids) 0 ≡ id = get_or-append_right absent (id ∷ []) (length absent) (code - length ids) 0 refl
    (omega arith) ∙ ap (λ n. get_or (id ∷ []) n 0) zero_index in
    let is : id_of_code ids (absent ++ id ∷ []) code ≡ id = id-absent ids (absent ++ id ∷ []) code (omega arith) (omega arith) ∙ here in
    (record { target = rw (is, none, le-ltb code (length ids) (omega arith)) refl; known = inr (omega (arith, length-append absent (id ∷ []))) }, is)

-- more absent IDs change nothing of a number that is there
pub id-longer : (ids absent more : List ℕ) (code : ℕ) → IsCode ids absent code → id_of_code ids (absent ++ more) code ≡ id_of_code ids absent code
id-longer ids absent more code h = elim (cases_eq code null_code) [
  | inl null ↦ rw null (id-null ids (absent ++ more) ∙ sym (id-null ids absent))
  | inr other ↦ elim (cases_lt code (length ids)) [
    | inl lt ↦ rw (ne_eqb code null_code other, lt-ltb code (length ids) lt) refl
    | inr le ↦
        let within : code - length ids < length absent = elim h.known [ inl null ↦ absurd (other null) | inr lt ↦ omega arith ] in
        id-absent ids (absent ++ more) code other le ∙ get_or_append_left absent more 0 (code - length ids) within ∙ sym (id-absent ids absent code other le)
  ]
]

pub code-longer : (ids absent more : List ℕ) (code : ℕ) → IsCode ids absent code → IsCode ids (absent ++ more) code
code-longer ids absent more code h = record {
  target = rw (id-longer ids absent more code h) h.target;
  known = elim h.known [ inl null ↦ inl null | inr lt ↦ inr (omega (arith, length-append absent more)) ];
}

pub codes-longer : (ids absent more codes : List ℕ) → All (IsCode ids absent) codes → All (IsCode ids (absent ++ more)) codes
codes-longer ids absent more codes h = All-weaker (IsCode ids absent) (IsCode ids (absent ++ more)) (λ code is. code-longer ids absent more code is) codes h

pub ids-longer : (ids absent more codes : List ℕ) → All (IsCode ids absent) codes → map (id_of_code ids (absent ++ more)) codes ≡ map
    (id_of_code ids absent) codes
ids-longer ids absent more [] h = refl
ids-longer ids absent more (code ∷ codes) h =
    ap (λ id. id ∷ map (id_of_code ids (absent ++ more)) codes) (id-longer ids absent more code (All-head (IsCode ids absent) code codes h))
    ∙ ap (λ rest. id_of_code ids absent code ∷ rest) (ids-longer ids absent more codes (All-tail (IsCode ids absent) code codes h))

-- an ID is an object's where the number is one
pub known-code : (ids absent : List ℕ) (code : ℕ) → IsCode ids absent code → is_known ids (id_of_code ids absent code) ≡ ltb code (length ids)
known-code ids absent code h = ap is_some h.target ∙ some (ltb code (length ids))
  where
    some : (b : Bool) → is_some (cond b (Some code) None) ≡ b
    some true = refl
    some false = refl
