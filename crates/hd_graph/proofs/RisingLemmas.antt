-- The names of a class's slots rise, and there is one for each ID of its row.
use Rattle.std.proofs.Common.{◌≡◌, ◌∙◌, ℕ, suc, ◌+◌, ◌<◌, inl, inr, List, [], ◌∷◌, ◌++◌, length, drop, Bool, true, false, cond, refl, sym, ap, arith}
use Rattle.std.proofs.Common.{length-append}
use Rattle.std.specs.List.{AllByRecursion}
use Rattle.byteorder.specs.Endian.{big_number}
use Rattle.hd_terms.specs.declared.IdSize.{IdSize}
use Rattle.hd_terms.specs.Records.{id_len}
use Rattle.hd_terms.specs.declared.Span.{Span}
use Rattle.hd_terms.specs.declared.Slot.{Slot}
use Rattle.hd_terms.specs.declared.Slot.TheVariants as slots
use Rattle.hd_terms.specs.EditedDump.{slot_code}
use Rattle.hd_terms.specs.Types.{is_id_type}
use Rattle.hd_terms.specs.SubRecords.{ClassItem}
use Rattle.hd_graph.specs.Shapes.{ComesBefore, IsRising}
use Rattle.hd_graph.specs.ArrayRows.{values_of_statics, values_of_constants, value_ids, value_names, class_row, class_names}

-- as many names as IDs among values
pub as-many-names : (bytes : List ℕ) (size : IdSize) (slot : ℕ → Slot) (i : ℕ) (vs : List (ℕ × Span))
    → length (value_names slot i vs) ≡ length (value_ids bytes size vs)
as-many-names bytes size slot i [] = refl
as-many-names bytes size slot i (v ∷ vs) = by_type (is_id_type v.0) (as-many-names bytes size slot (i + 1) vs)
  where
    by_type : (b : Bool) → length (value_names slot (i + 1) vs) ≡ length (value_ids bytes size vs)
        → length (cond b (slot i ∷ value_names slot (i + 1) vs) (value_names slot (i + 1) vs)) ≡ length
        (cond b (big_number (id_len size) (drop v.1.start bytes) ∷ value_ids bytes size vs) (value_ids bytes size vs))
    by_type true e = ap suc e
    by_type false e = e

-- so the names of a class are as many as the IDs of its row
pub class-names-many : (bytes : List ℕ) (size : IdSize) (c : ClassItem) → length (class_names c) ≡ length (class_row bytes size c)
class-names-many bytes size c =
    let ss = values_of_statics c.statics in
    let ks = values_of_constants c.constants in
    omega (
      arith,
      as-many-names bytes size (λ i. slots.Static i) 0 ss,
      as-many-names bytes size (λ i. slots.Const i) 0 ks,
      length-append (value_names (λ i. slots.Static i) 0 ss ++ value_names (λ i. slots.Const i) 0 ks)
          (slots.Super ∷ slots.Loader ∷ slots.Signers ∷ slots.Domain ∷ []),
      length-append (value_names (λ i. slots.Static i) 0 ss) (value_names (λ i. slots.Const i) 0 ks),
      length-append (value_ids bytes size ss ++ value_ids bytes size ks) (c.super ∷ c.loader ∷ c.signers ∷ c.domain ∷ []),
      length-append (value_ids bytes size ss) (value_ids bytes size ks),
    )

all-append : {X : Type 0} (P : X → Type 0) (xs ys : List X) → AllByRecursion P xs → AllByRecursion P ys → AllByRecursion P (xs ++ ys)
all-append P [] ys hx hy = hy
all-append P (x ∷ xs) ys hx hy = (hx.0, all-append P xs ys hx.1 hy)

-- rising names before rising names
rising-append : (xs ys : List Slot) → IsRising xs → IsRising ys → AllByRecursion (λ (x : Slot). AllByRecursion (ComesBefore x) ys) xs → IsRising (xs ++ ys)
rising-append [] ys hx hy before = hy
rising-append (x ∷ xs) ys hx hy before = (all-append (ComesBefore x) xs ys hx.0 before.0, rising-append xs ys hx.1 hy before.1)

-- names of one kind, numbered
module _ (slot : ℕ → Slot) (k : ℕ) (kind : (i : ℕ) → (slot_code (slot i)).0 ≡ k) (number : (i : ℕ) → (slot_code (slot i)).1 ≡ i) where
  -- they come after one of the kind with a lesser number
  after-one : (i j : ℕ) (vs : List (ℕ × Span)) → i < j → AllByRecursion (ComesBefore (slot i)) (value_names slot j vs)
  after-one i j [] lt = tt
  after-one i j (v ∷ vs) lt = by_type (is_id_type v.0) (after-one i (j + 1) vs (omega arith))
    where
      by_type : (b : Bool) → AllByRecursion (ComesBefore (slot i)) (value_names slot (j + 1) vs)
          → AllByRecursion (ComesBefore (slot i)) (cond b (slot j ∷ value_names slot (j + 1) vs) (value_names slot (j + 1) vs))
      by_type true all = (inr (kind i ∙ sym (kind j), omega (arith, number i, number j)), all)
      by_type false all = all

  rising-values : (i : ℕ) (vs : List (ℕ × Span)) → IsRising (value_names slot i vs)
  rising-values i [] = tt
  rising-values i (v ∷ vs) = by_type (is_id_type v.0) (rising-values (i + 1) vs)
    where
      by_type : (b : Bool) → IsRising (value_names slot (i + 1) vs) → IsRising (cond b (slot i ∷ value_names slot (i + 1) vs) (value_names slot (i + 1) vs))
      by_type true rising = (after-one i (i + 1) vs (omega arith), rising)
      by_type false rising = rising

  -- what holds of each of the kind holds of them
  all-values : (P : Slot → Type 0) → ((i : ℕ) → P (slot i)) → (i : ℕ) (vs : List (ℕ × Span)) → AllByRecursion P (value_names slot i vs)
  all-values P each i [] = tt
  all-values P each i (v ∷ vs) = by_type (is_id_type v.0) (all-values P each (i + 1) vs)
    where
      by_type : (b : Bool) → AllByRecursion P (value_names slot (i + 1) vs)
          → AllByRecursion P (cond b (slot i ∷ value_names slot (i + 1) vs) (value_names slot (i + 1) vs))
      by_type true all = (each i, all)
      by_type false all = all

abbrev links : List Slot
links = slots.Super ∷ slots.Loader ∷ slots.Signers ∷ slots.Domain ∷ []

rising-links : IsRising links
rising-links = (
  (inl (omega arith), (inl (omega arith), (inl (omega arith), tt))),
  ((inl (omega arith), (inl (omega arith), tt)), ((inl (omega arith), tt), (tt, tt))),
)

static-before-links : (i : ℕ) → AllByRecursion (ComesBefore (slots.Static i)) links
static-before-links i = (inl (omega arith), (inl (omega arith), (inl (omega arith), (inl (omega arith), tt))))

const-before-links : (i : ℕ) → AllByRecursion (ComesBefore (slots.Const i)) links
const-before-links i = (inl (omega arith), (inl (omega arith), (inl (omega arith), (inl (omega arith), tt))))

-- the names of a class rise
pub class-names-rise : (c : ClassItem) → IsRising (class_names c)
class-names-rise c =
    let ss = values_of_statics c.statics in
    let ks = values_of_constants c.constants in
    let A = value_names (λ i. slots.Static i) 0 ss in
    let B = value_names (λ i. slots.Const i) 0 ks in
    let static_kind : (i : ℕ) → (slot_code (slots.Static i)).0 ≡ 2 = λ i. refl in
    let const_kind : (i : ℕ) → (slot_code (slots.Const i)).0 ≡ 3 = λ i. refl in
    let across : AllByRecursion (λ (x : Slot). AllByRecursion (ComesBefore x) B) A =
    all-values (λ i. slots.Static i) 2 static_kind (λ i. refl) (λ (x : Slot). AllByRecursion (ComesBefore x) B)
    (λ i. all-values (λ j. slots.Const j) 3 const_kind (λ j. refl) (ComesBefore (slots.Static i)) (λ j. inl (omega arith)) 0 ks) 0 ss in
    let to_links : AllByRecursion (λ (x : Slot). AllByRecursion (ComesBefore x) links) (A ++ B) =
    all-append (λ (x : Slot). AllByRecursion (ComesBefore x) links) A B
    (all-values (λ i. slots.Static i) 2 static_kind (λ i. refl) (λ (x : Slot). AllByRecursion (ComesBefore x) links) static-before-links 0 ss)
    (all-values (λ i. slots.Const i) 3 const_kind (λ i. refl) (λ (x : Slot). AllByRecursion (ComesBefore x) links) const-before-links 0 ks) in
    rising-append (A ++ B) links
    (rising-append A B (rising-values (λ i. slots.Static i) 2 static_kind (λ i. refl) 0 ss)
    (rising-values (λ i. slots.Const i) 3 const_kind (λ i. refl) 0 ks) across)
    rising-links to_links
