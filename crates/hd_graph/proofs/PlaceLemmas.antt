-- The IDs at the places of a class's references.
use Rattle.std.proofs.Common.{◌≡◌, ◌∙◌, ℕ, ◌+◌, ◌≤◌, List, [], ◌∷◌, ◌++◌, length, map, Option, Some, None, Bool, true, false, cond, refl, sym, ap, arith, All}
use Rattle.std.specs.Option.{option_map_or}
use Rattle.std.proofs.lemmas.List.{length-map}
use Rattle.std.proofs.lemmas.List.Elements.{All-cons, All-nil}
use Rattle.hd_terms.specs.declared.IdSize.{IdSize}
use Rattle.hd_terms.specs.Records.{id_len}
use Rattle.hd_terms.specs.Types.{is_id_type, element_len, value_len}
use Rattle.hd_terms.specs.Classes.{LayoutField, ResolvedClass, layout_len}
use Rattle.hd_classes.specs.Fits.{FitsClass, SizedClasses, length_by_number}
use Rattle.hd_classes.specs.Known.{Known, known_at, known_by_number}
use Rattle.hd_classes.specs.Places.{reference_places, places_by_number}
use Rattle.hd_classes.proofs.FieldLemmas.{layout_len-cons}
use Rattle.hd_slots.specs.Table.{Table, id_at, IsIdWithin}
use Rattle.hd_graph.specs.ArrayRows.{fitting, layout_by_number, placed_fields, value_ids}
use Rattle.hd_graph.specs.Building.{GrowsBy}
use Rattle.hd_graph.proofs.InstanceLemmas.{fits-numbered}
use Rattle.hd_graph.proofs.LayoutLemmas.{placed-few}

-- the IDs at places behind an offset
abbrev ids_at : List ℕ → IdSize → ℕ → List ℕ → List ℕ
ids_at bytes size start places = map (λ (place : ℕ). id_at bytes size (start + place)) places

-- a place behind an offset has an ID that lies in a file of `n` bytes
abbrev IsPlaceWithin : IdSize → ℕ → ℕ → ℕ → Type 0
IsPlaceWithin size n start place = IsIdWithin size n (start + place)

-- the IDs in fields lie at the places of the references
pub ids-at-places : (bytes : List ℕ) (size : IdSize) (start at : ℕ) (fs : List LayoutField)
    → value_ids bytes size (placed_fields size (start + at) fs) ≡ map (λ (place : ℕ). id_at bytes size (start + place)) (reference_places size at fs)
ids-at-places bytes size start at [] = refl
ids-at-places bytes size start at (f ∷ fs) =
    let next : start + at + value_len size f.code ≡ start + (at + value_len size f.code) = omega arith in
    by_type (value_ids bytes size (placed_fields size (start + at + value_len size f.code) fs)) (reference_places size (at + value_len size f.code) fs)
    (is_id_type f.code) (ap (λ (n : ℕ). value_ids bytes size (placed_fields size n fs)) next
    ∙ ids-at-places bytes size start (at + value_len size f.code) fs)
  where
    by_type : (rest places : List ℕ) (b : Bool) → rest ≡ ids_at bytes size start places
        → cond b (id_at bytes size (start + at) ∷ rest) rest ≡ ids_at bytes size start (cond b (at ∷ places) places)
    by_type rest places true e = ap (λ (xs : List ℕ). id_at bytes size (start + at) ∷ xs) e
    by_type rest places false e = e

-- by the number of a class
pub places-numbered : (size : IdSize) (classes : Known) (i : ℕ) → places_by_number size classes i ≡ reference_places size 0 (layout_by_number classes i)
places-numbered size classes i = by_class (known_by_number classes i)
  where
    by_class : (o : Option ResolvedClass) → option_map_or (λ (k : ResolvedClass). reference_places size 0 k.layout) o [] ≡ reference_places size 0
        (option_map_or (λ (k : ResolvedClass). k.layout) o [])
    by_class None = refl
    by_class (Some k) = refl

pub length-numbered : (size : IdSize) (classes : Known) (i : ℕ) → length_by_number size classes i ≡ layout_len size (layout_by_number classes i)
length-numbered size classes i = by_class (known_by_number classes i)
  where
    by_class : (o : Option ResolvedClass) → option_map_or (λ (k : ResolvedClass). layout_len size k.layout) o 0 ≡ layout_len size
        (option_map_or (λ (k : ResolvedClass). k.layout) o [])
    by_class None = refl
    by_class (Some k) = refl

-- there are no more places than fields
pub places-few : (bytes : List ℕ) (size : IdSize) (fs : List LayoutField) → length (reference_places size 0 fs) ≤ length fs
places-few bytes size fs =
    omega (
      arith,
      placed-few bytes size 0 fs,
      ap (λ (xs : List ℕ). length xs) (ids-at-places bytes size 0 0 fs),
      length-map (reference_places size 0 fs) (λ (place : ℕ). id_at bytes size (0 + place)),
    )

-- the IDs at the places were added
pub places-added : (start i : ℕ) (classes : Known) (old new : Table) (places : List ℕ) → places ≡ places_by_number old.size classes i
    → new ≡ record old { filling = old.filling ++ map (λ (place : ℕ). id_at old.bytes old.size (start + place)) places; count = old.count + length places }
    → GrowsBy (value_ids old.bytes old.size (placed_fields old.size start (layout_by_number classes i))) old new
places-added start i classes old new places are added =
    let layout = layout_by_number classes i in
    let ids = ids_at old.bytes old.size start in
    let here : start ≡ start + 0 = omega arith in
    let whole : ids places ≡ value_ids old.bytes old.size (placed_fields old.size start layout) =
    ap ids (are ∙ places-numbered old.size classes i) ∙ sym (ids-at-places old.bytes old.size start 0 layout)
    ∙ ap (λ (n : ℕ). value_ids old.bytes old.size (placed_fields old.size n layout)) (sym here) in
    added
    ∙ ap (λ (n : ℕ). record old { filling = old.filling ++ ids places; count = old.count + n })
    (sym (length-map places (λ (place : ℕ). id_at old.bytes old.size (start + place))))
    ∙ ap (λ (xs : List ℕ). record old { filling = old.filling ++ xs; count = old.count + length xs }) whole

-- and they lie in the file
pub places-within : (size : IdSize) (n start at : ℕ) (fs : List LayoutField) → start + at + layout_len size fs ≤ n
    → All (λ (place : ℕ). IsIdWithin size n (start + place)) (reference_places size at fs)
places-within size n start at [] within = All-nil (λ (place : ℕ). IsIdWithin size n (start + place))
places-within size n start at (f ∷ fs) within =
    let cons = layout_len-cons size f fs in
    by_type (reference_places size (at + value_len size f.code) fs) (is_id_type f.code) refl (omega (arith, cons, within))
    (places-within size n start (at + value_len size f.code) fs (omega (arith, cons, within)))
  where
    id-here : is_id_type f.code ≡ true → start + at + value_len size f.code ≤ n → start + at + id_len size ≤ n
    id-here is here = omega (arith, here, ap (λ (b : Bool). cond b (id_len size) (element_len f.code)) is)

    by_type : (rest : List ℕ) (b : Bool) → is_id_type f.code ≡ b → start + at + value_len size f.code ≤ n → All (IsPlaceWithin size n start) rest
        → All (IsPlaceWithin size n start) (cond b (at ∷ rest) rest)
    by_type rest true is here all = All-cons (IsPlaceWithin size n start) at rest (id-here is here) all
    by_type rest false is here all = all

-- the class by whose layout values are read has that layout by its number
pub fits-layout : (size : IdSize) (len number class : ℕ) (before after : SizedClasses) → before.size ≡ size → after ≡ before
    → FitsClass before.size len (known_at before.classes class) (known_by_number before.classes number)
    → (k : ResolvedClass) × (fitting size len (known_at before.classes class) ≡ Some k) × (layout_by_number after.classes number ≡ k.layout)
fits-layout size len number class before after sizes same fits = (
  fits.k,
  fits-numbered size len number class before before fits.k sizes refl fits fits.numbered,
  ap (λ (l : SizedClasses). layout_by_number l.classes number) same
      ∙ ap (λ (o : Option ResolvedClass). option_map_or (λ (x : ResolvedClass). x.layout) o []) fits.numbered,
)
