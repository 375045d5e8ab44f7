-- Lemmas on how many of these numbers are objects', null and absent.
use Rattle.std.proofs.Common.{◌≡◌, ◌∙◌, ℕ, ◌+◌, ◌-◌, ◌<◌, ◌^◌, inl, inr, Bool, true, false, ◌&&◌, List, [], ◌∷◌, length, map, get_or, Option, Some, None, refl}
use Rattle.std.proofs.Common.{ap, arith, All, cond, ltb, eqb, ne_eqb}
use Rattle.std.specs.List.{position}
use Rattle.std.specs.Prelude.{not, is_some, is_none, count_by}
use Rattle.std.proofs.lemmas.Bool.{cases_eq, cases_lt, lt-ltb, le-ltb}
use Rattle.std.proofs.lemmas.List.Elements.{All-head, All-tail, All-get_or}
use Rattle.std.proofs.lemmas.List.Sums.{sum_by-cons}
use Rattle.hd_slots.specs.Table.{null_code, is_known, is_absent}
use Rattle.hd_slots.specs.Codes.{id_of_code, IsCode}
use Rattle.hd_slots.proofs.CodeLemmas.{id-absent, known-code}

-- an ID is absent where it is neither null nor known
none-some : (o : Option ℕ) → is_none o ≡ not (is_some o)
none-some None = refl
none-some (Some x) = refl

absent-is : (ids : List ℕ) (id : ℕ) → is_absent ids id ≡ (not (eqb id 0) && not (is_known ids id))
absent-is ids id = ap (λ b. not (eqb id 0) && b) (none-some (position (λ x. eqb id x) ids))

and-false : (b : Bool) → (b && false) ≡ false
and-false true = refl
and-false false = refl

module _ (ids absent : List ℕ) (few : length ids < 2 ^ 31) (no_null : All (λ id. 0 < id) absent) where
  -- a number is absent, an object's or null, and only one of them
  one-of_three : (code : ℕ) → IsCode ids absent code
      → cond (is_absent ids (id_of_code ids absent code)) 1 0 + cond (ltb code (length ids)) 1 0 + cond (eqb code null_code) 1 0 ≡ 1
  one-of_three code h = elim (cases_eq code null_code) [
    | inl null ↦ rw (null, le-ltb null_code (length ids) (omega arith)) refl
    | inr other ↦ elim (cases_lt code (length ids)) [
      | inl lt ↦
          let known : is_known ids (id_of_code ids absent code) ≡ true = known-code ids absent code h ∙ lt-ltb code (length ids) lt in
          let no : is_absent ids (id_of_code ids absent code) ≡ false =
          absent-is ids (id_of_code ids absent code) ∙ ap (λ b. not (eqb (id_of_code ids absent code) 0) && not b) known
          ∙ and-false (not (eqb (id_of_code ids absent code) 0)) in
          rw (no, lt-ltb code (length ids) lt, ne_eqb code null_code other) refl
      | inr le ↦
          let within : code - length ids < length absent = elim h.known [ inl null ↦ absurd (other null) | inr lt ↦ omega arith ] in
          let pos : 0 < get_or absent (code - length ids) 0 = All-get_or (λ id. 0 < id) absent (code - length ids) 0 within no_null in
          let is : id_of_code ids absent code ≡ get_or absent (code - length ids) 0 = id-absent ids absent code other le in
          let unknown : is_known ids (id_of_code ids absent code) ≡ false = known-code ids absent code h ∙ le-ltb code (length ids) le in
          let not_null : eqb (id_of_code ids absent code) 0 ≡ false = ne_eqb (id_of_code ids absent code) 0 (λ z. omega (arith, pos, is, z)) in
          let yes : is_absent ids (id_of_code ids absent code) ≡ true =
          absent-is ids (id_of_code ids absent code) ∙ ap (λ b. not (eqb (id_of_code ids absent code) 0) && not b) unknown ∙ ap (λ b. not b && true) not_null in
          rw (yes, le-ltb code (length ids) le, ne_eqb code null_code other) refl
    ]
  ]

  -- each number is counted once
  pub count-all : (codes : List ℕ) → All (IsCode ids absent) codes
      → count_by (is_absent ids) (map (id_of_code ids absent) codes) + count_by (λ code. ltb code (length ids)) codes + count_by
      (λ code. eqb code null_code) codes ≡ length codes
  count-all [] h = refl
  count-all (code ∷ codes) h =
      let here = one-of_three code (All-head (IsCode ids absent) code codes h) in
      let rest = count-all codes (All-tail (IsCode ids absent) code codes h) in
      let others = sum_by-cons (λ id. cond (is_absent ids id) 1 0) (id_of_code ids absent code) (map (id_of_code ids absent) codes) in
      let known = sum_by-cons (λ (x : ℕ). cond (ltb x (length ids)) 1 0) code codes in
      let nulls = sum_by-cons (λ (x : ℕ). cond (eqb x null_code) 1 0) code codes in
      omega (arith, here, rest, others, known, nulls)

-- what is an object's is a number below theirs
pub count-known : (ids absent codes : List ℕ) → All (IsCode ids absent) codes
    → count_by (is_known ids) (map (id_of_code ids absent) codes) ≡ count_by (λ code. ltb code (length ids)) codes
count-known ids absent [] h = refl
count-known ids absent (code ∷ codes) h =
    let one_if : Bool → ℕ = λ b. cond b 1 0 in
    let here : one_if (is_known ids (id_of_code ids absent code)) ≡ one_if (ltb code (length ids)) =
    ap one_if (known-code ids absent code (All-head (IsCode ids absent) code codes h)) in
    let rest = count-known ids absent codes (All-tail (IsCode ids absent) code codes h) in
    let old = sum_by-cons (λ id. cond (is_known ids id) 1 0) (id_of_code ids absent code) (map (id_of_code ids absent) codes) in
    let new = sum_by-cons (λ (x : ℕ). cond (ltb x (length ids)) 1 0) code codes in
    omega (arith, here, rest, old, new)
