-- Where the classes among sub-records end.
use Rattle.std.specs.Prelude.{is_some}
use Rattle.std.proofs.Common.{◌≡◌, ◌∙◌, ℕ, zero, suc, ◌+◌, ◌-◌, ◌<◌, ◌≤◌, ◌==◌, nat_lt, if◌then◌else◌, arith, get_or, List, [], ◌∷◌, ◌++◌, length, map, take}
use Rattle.std.proofs.Common.{drop, Option, Some, None, Bool, true, false, refl, sym, ap, All, slice_get, length-append, drop-cons}
use Rattle.std.specs.List.{filter_map, cons_option, slice_index_or}
use Rattle.std.proofs.lemmas.Bool.{true≢false}
use Rattle.std.proofs.lemmas.List.{take-append-drop, drop-append-le}
use Rattle.std.proofs.lemmas.List.Concat.{flat_map-append}
use Rattle.std.proofs.lemmas.List.Elements.{All-head, All-tail, filter_map-append}
use Rattle.std.proofs.lemmas.Option.{slice_get-get_or}
use Rattle.std.proofs.Math.Seq.{drop-append-add}
use Rattle.hd_terms.specs.declared.IdSize.{IdSize}
use Rattle.hd_terms.specs.SubRecords.{ClassItem, Item, Sub}
use Rattle.hd_terms.specs.Classes.{class_of_item}
use Rattle.hd_subs.specs.declared.class.ClassDump.{ClassDump}
use Rattle.hd_subs.specs.declared.row.Kind.{Kind}
use Rattle.hd_subs.specs.declared.row.Kind.TheVariants as kinds
use Rattle.hd_subs.specs.declared.row.Row.{Row}
use Rattle.hd_subs.specs.Rows.{item_of, row_view, HasClass, IsRowOver}
use Rattle.hd_subs.specs.Packed.{first_row, no_sub, packed_instance, packed_array, packed_primitive_array, packed_item, sub_of_entry}
use Rattle.hd_subs.specs.ClassSubs.{class_of_sub, IsClassAt}
use Rattle.hd_subs.specs.Joined.{joined}
use Rattle.hd_subs.proofs.JoinedLemmas.{in-front, behind, more}

-- a list without any class has none at its front and none behind it
none-parts : {A : Type 0} (o : Option A) (xs : List A) → cons_option o xs ≡ [] → (o ≡ None) × (xs ≡ [])
none-parts None xs e = (refl, e)
none-parts (Some a) xs e = cc

-- and a list that has none at both is without any
none-whole : {A : Type 0} (o : Option A) (xs : List A) → o ≡ None → xs ≡ [] → cons_option o xs ≡ []
none-whole o xs front rest = ap (λ p. cons_option p xs) front ∙ rest

-- a row is a class only where there is one to which it leads
item-none : (n : ℕ) (cs : List ClassDump) (k : Kind) (offset id class count : ℕ) → n ≡ 0 → HasClass n k class
    → class_of_item (item_of cs k offset id class count) ≡ None
item-none n cs (kinds.Root kind) offset id class count none has = refl
item-none n cs kinds.Class offset id class count none has = absurd (omega (arith, none, has))
item-none n cs kinds.InstanceOfFour offset id class count none has = refl
item-none n cs kinds.InstanceOfEight offset id class count none has = refl
item-none n cs kinds.ArrayOfFour offset id class count none has = refl
item-none n cs kinds.ArrayOfEight offset id class count none has = refl
item-none n cs (kinds.PrimArray element) offset id class count none has = refl

-- so none of the rows is one where there is none at the side
pub rows-none : (n : ℕ) (cs : List ClassDump) → n ≡ 0 → (rs : List Row) → All (IsRowOver n) rs → filter_map class_of_sub (map (row_view cs) rs) ≡ []
rows-none n cs none [] all = refl
rows-none n cs none (r ∷ rs) all =
    none-whole (class_of_sub (row_view cs r)) (filter_map class_of_sub (map (row_view cs) rs))
    (item-none n cs r.kind r.offset r.id r.class r.count none (All-head (IsRowOver n) r rs all))
    (rows-none n cs none rs (All-tail (IsRowOver n) r rs all))

-- nor is a row that is looked up, or what stands past the last one
looked-none : (rows : List Sub) (i : ℕ) → filter_map class_of_sub rows ≡ [] → class_of_sub (slice_index_or rows i no_sub) ≡ None
looked-none [] i none = refl
looked-none (s ∷ rows) zero none = (none-parts (class_of_sub s) (filter_map class_of_sub rows) none).0
looked-none (s ∷ rows) (suc i) none = looked-none rows i (none-parts (class_of_sub s) (filter_map class_of_sub rows) none).1

-- nothing that is read again from the bytes is a class
chosen-none : (a b : Bool) (x y z : Item) → class_of_item x ≡ None → class_of_item y ≡ None → class_of_item z ≡ None
    → class_of_item (if a then x else if b then y else z) ≡ None
chosen-none true b x y z first second third = first
chosen-none false true x y z first second third = second
chosen-none false false x y z first second third = third

module _ (size : IdSize) (bytes : List ℕ) where
  -- what is read at an offset
  packed-none : (at : ℕ) → class_of_item (packed_item size bytes at) ≡ None
  packed-none at =
      chosen-none (get_or bytes at 0 == 0x21) (get_or bytes at 0 == 0x22) (packed_instance size bytes at) (packed_array size bytes at)
      (packed_primitive_array size bytes at) refl refl refl

  -- one of two that are none
  chosen-sub-none : (a : Bool) (x y : Sub) → class_of_sub x ≡ None → class_of_sub y ≡ None → class_of_sub (if a then x else y) ≡ None
  chosen-sub-none true x y first second = first
  chosen-sub-none false x y first second = second

  -- so where no row is a class, no sub-record is one
  pub entries-none : (rows : List Sub) → filter_map class_of_sub rows ≡ [] → (entries : List ℕ)
      → filter_map class_of_sub (map (sub_of_entry size bytes rows) entries) ≡ []
  entries-none rows none [] = refl
  entries-none rows none (e ∷ es) =
      none-whole (class_of_sub (sub_of_entry size bytes rows e)) (filter_map class_of_sub (map (sub_of_entry size bytes rows) es))
      (chosen-sub-none (nat_lt e first_row) (record { offset = e; item = packed_item size bytes e }) (slice_index_or rows (e - first_row) no_sub)
      (packed-none e) (looked-none rows (e - first_row) none))
      (entries-none rows none es)

-- what isn't told as a class is none
no-class : (o : Option ClassItem) → is_some o ≡ false → o ≡ None
no-class None none = refl
no-class (Some c) some = absurd (true≢false some)

-- one place further to the front
pub none-from-here : (list : List Sub) (end : ℕ) (found : Bool) → 0 < end → end ≤ length list
    → ((s : Sub) → slice_get list (end - 1) ≡ Some s → found ≡ is_some (class_of_item s.item)) → found ≡ false
    → filter_map class_of_sub (drop end list) ≡ [] → filter_map class_of_sub (drop (end - 1) list) ≡ []
none-from-here list end found some within tells none rest =
    let s = get_or list (end - 1) no_sub in
    let is : slice_get list (end - 1) ≡ Some s = slice_get-get_or list (end - 1) no_sub (omega arith) in
    let same : suc (end - 1) ≡ end = omega arith in
    ap (filter_map class_of_sub) (drop-cons list (end - 1) no_sub (omega arith))
    ∙ none-whole (class_of_sub s) (filter_map class_of_sub (drop (suc (end - 1)) list)) (no-class (class_of_sub s) (sym (tells s is) ∙ none))
    (ap (λ (n : ℕ). filter_map class_of_sub (drop n list)) same ∙ rest)

-- the parts of a dump, those in front of k and those from k on
module _ (parts : List (List Sub)) (k : ℕ) where
  whole : joined parts ≡ joined (take k parts) ++ joined (drop k parts)
  whole = ap joined (sym (take-append-drop k parts)) ∙ flat_map-append (λ (part : List Sub). part) (take k parts) (drop k parts)

  -- how long they are
  lengths : length (joined parts) ≡ length (joined (take k parts)) + length (joined (drop k parts))
  lengths = ap (λ (xs : List Sub). length xs) whole ∙ length-append (joined (take k parts)) (joined (drop k parts))

  -- those from k on begin at `start`
  module _ (start : ℕ) (place : start + length (joined (drop k parts)) ≡ length (joined parts)) where
    before : start ≡ length (joined (take k parts))
    before = omega (arith, place, lengths)

    -- the dump from a place in them on
    from-start : (end : ℕ) → drop (start + end) (joined parts) ≡ drop end (joined (drop k parts))
    from-start end =
        ap (λ (n : ℕ). drop (n + end) (joined parts)) before
        ∙ ap (drop (length (joined (take k parts)) + end)) whole
        ∙ drop-append-add (joined (take k parts)) (joined (drop k parts)) end

    -- one of their sub-records
    found-from-start : (n : ℕ) → slice_get (joined parts) (start + n) ≡ slice_get (joined (drop k parts)) n
    found-from-start n =
        let rest : start + n - length (joined (take k parts)) ≡ n = omega (arith, before) in
        ap (λ (xs : List Sub). slice_get xs (start + n)) whole
        ∙ behind (joined (take k parts)) (joined (drop k parts)) (start + n) (omega (arith, before))
        ∙ ap (slice_get (joined (drop k parts))) rest

-- the last part in front of those from `left` on, which begin at `start`
module _ (parts : List (List Sub)) (left start : ℕ) (some : 0 < left) (within : left ≤ length parts)
    (place : start + length (joined (drop left parts)) ≡ length (joined parts)) (part : List Sub) (is : part ≡ get_or parts (left - 1) part) where
  part-first : joined (drop (left - 1) parts) ≡ part ++ joined (drop left parts)
  part-first =
      let next : left - 1 + 1 ≡ left = omega arith in
      more parts (left - 1) part (omega arith)
      ∙ ap (λ (n : ℕ). get_or parts (left - 1) part ++ joined (drop n parts)) next
      ∙ ap (λ (xs : List Sub). xs ++ joined (drop left parts)) (sym is)

  part-lengths : length (joined (drop (left - 1) parts)) ≡ length part + length (joined (drop left parts))
  part-lengths = ap (λ (xs : List Sub). length xs) part-first ∙ length-append part (joined (drop left parts))

  -- the part begins where the others did, less its length
  pub part-fits : length part ≤ start
  part-fits = omega (arith, place, part-lengths, lengths parts (left - 1))

  pub part-place : start - length part + length (joined (drop (left - 1) parts)) ≡ length (joined parts)
  part-place = omega (arith, place, part-lengths, part-fits)

  module _ (end : ℕ) (fits : end ≤ length part) where
    -- no class behind a place in the part
    none-behind : filter_map class_of_sub (joined (drop left parts)) ≡ [] → filter_map class_of_sub (drop end part) ≡ []
        → filter_map class_of_sub (drop end (joined (drop (left - 1) parts))) ≡ []
    none-behind none here =
        ap (λ (xs : List Sub). filter_map class_of_sub (drop end xs)) part-first
        ∙ ap (filter_map class_of_sub) (drop-append-le end part (joined (drop left parts)) fits)
        ∙ filter_map-append class_of_sub (drop end part) (joined (drop left parts))
        ∙ ap (λ (xs : List ClassItem). xs ++ filter_map class_of_sub (joined (drop left parts))) here
        ∙ none

    -- a part without any class
    pub none-in-part : filter_map class_of_sub (joined (drop left parts)) ≡ [] → filter_map class_of_sub (drop end part) ≡ [] → end ≡ 0
        → filter_map class_of_sub (joined (drop (left - 1) parts)) ≡ []
    none-in-part none here zero-end = ap (λ (n : ℕ). filter_map class_of_sub (drop n (joined (drop (left - 1) parts)))) (sym zero-end) ∙ none-behind none here

    -- where the classes of the part end, those of the dump do
    pub end-within : start - length part + end ≤ length (joined parts)
    end-within = omega (arith, fits, part-place, part-lengths)

    pub none-after : filter_map class_of_sub (joined (drop left parts)) ≡ [] → filter_map class_of_sub (drop end part) ≡ []
        → filter_map class_of_sub (drop (start - length part + end) (joined parts)) ≡ []
    none-after none here = ap (filter_map class_of_sub) (from-start parts (left - 1) (start - length part) part-place end) ∙ none-behind none here

    -- and the class before it is the dump's last too
    pub class-before : 0 < end → IsClassAt part (end - 1) → IsClassAt (joined parts) (start - length part + end - 1)
    class-before positive class s at =
        let same : start - length part + end - 1 ≡ start - length part + (end - 1) = omega arith in
        let found : slice_get (joined parts) (start - length part + end - 1) ≡ slice_get part (end - 1) =
        ap (slice_get (joined parts)) same
        ∙ found-from-start parts (left - 1) (start - length part) part-place (end - 1)
        ∙ ap (λ (xs : List Sub). slice_get xs (end - 1)) part-first
        ∙ in-front part (joined (drop left parts)) (end - 1) (omega arith) in
        class s (sym found ∙ at)
