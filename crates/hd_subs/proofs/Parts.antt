-- Lists under way: their items are read one after another, and what is missing is completed with default items.
use Rattle.std.proofs.Common.{◌≡◌, ℕ, zero, suc, ◌+◌, ◌-◌, ◌<◌, List, [], ◌∷◌, ◌++◌, length, replicate, refl, sym, ap, ◌∙◌, append_assoc, add-zero, arith}
use Rattle.std.specs.List.{flat_map, AllByRecursion}
use Rattle.std.proofs.lemmas.List.{append-nil, length-append, length-replicate, nil_from_length}
use Rattle.std.proofs.lemmas.List.Concat.{flat_map-append}
use Rattle.byteorder.specs.Endian.{big_number}
use Rattle.hd_terms.specs.SubRecords.{IsCounted, counted_text}
use Rattle.hd_subs.specs.declared.class_reading.Stop.{Stop}
use Rattle.hd_subs.specs.declared.class_reading.Stop.TheVariants as stops
use Rattle.hd_subs.specs.Parts.{BeginsWith, EndsInside, HasCount, HasOtherType, HasOtherTypeIn, IsItemStop, IsListStop, items_at, list_at}
use Rattle.hd_subs.proofs.Padding.{zero_bytes, length-zero_bytes}

-- what was read of a list, and what is left
pub record IsListSoFar {A B : Type 0} (Is : A → Type 0) (text : A → List ℕ) (item : ℕ → A → B) (at : ℕ) (body : List ℕ) (many : ℕ) (list : List B)
    (rest : List ℕ) (end : ℕ) : Type 0 where
  pub done : List A
  pub whole : body ≡ flat_map text done ++ rest
  pub each : AllByRecursion Is done
  pub many_is : length done ≡ many
  pub list_is : list ≡ items_at item text at done
  pub end_is : end ≡ at + length (flat_map text done)

pub begin_list : {A B : Type 0} (Is : A → Type 0) (text : A → List ℕ) (item : ℕ → A → B) (at : ℕ) (body : List ℕ) (list : List B) → list ≡ []
    → IsListSoFar Is text item at body 0 list body at
begin_list Is text item at body list empty = record { done = []; whole = refl; each = tt; many_is = refl; list_is = empty; end_is = sym (add-zero at) }

all_append : {A : Type 0} (Is : A → Type 0) (xs ys : List A) → AllByRecursion Is xs → AllByRecursion Is ys → AllByRecursion Is (xs ++ ys)
all_append Is [] ys all more = more
all_append Is (x ∷ xs) ys all more = (all.0, all_append Is xs ys all.1 more)

all_replicate : {A : Type 0} (Is : A → Type 0) (k : ℕ) (x : A) → Is x → AllByRecursion Is (replicate k x)
all_replicate Is zero x is = tt
all_replicate Is (suc k) x is = (is, all_replicate Is k x is)

items_at-push : {A B : Type 0} (item : ℕ → A → B) (text : A → List ℕ) (at : ℕ) (xs : List A) (x : A)
    → items_at item text at (xs ++ x ∷ []) ≡ items_at item text at xs ++ item (at + length (flat_map text xs)) x ∷ []
items_at-push {B = B} item text at [] x = ap (λ (k : ℕ). item k x ∷ []) (sym (add-zero at))
items_at-push {B = B} item text at (y ∷ xs) x =
    let after : ℕ = at + length (text y) in
    let here : after + length (flat_map text xs) ≡ at + length (text y ++ flat_map text xs) = omega (arith, length-append (text y) (flat_map text xs)) in
    ap (λ (bs : List B). item at y ∷ bs) (items_at-push item text after xs x ∙ ap (λ (k : ℕ). items_at item text after xs ++ item k x ∷ []) here)

flat_map-push : {A : Type 0} (text : A → List ℕ) (xs : List A) (x : A) (after : List ℕ) → flat_map text (xs ++ x ∷ []) ++ after ≡ flat_map text xs
    ++ (text x ++ after)
flat_map-push text xs x after =
    ap (λ (bs : List ℕ). bs ++ after) (flat_map-append text xs (x ∷ []) ∙ ap (λ (bs : List ℕ). flat_map text xs ++ bs) (append-nil (text x)))
    ∙ append_assoc (flat_map text xs) (text x) after

-- one item more was read
pub step_list : {A B : Type 0} (Is : A → Type 0) (text : A → List ℕ) (item : ℕ → A → B) (at : ℕ) (body : List ℕ) (many : ℕ) (list : List B) (rest : List ℕ)
    (here : ℕ) (b : B) (after : List ℕ) (end : ℕ) (new : List B)
    → IsListSoFar Is text item at body many list rest here → BeginsWith Is text item here rest b after end → new ≡ list ++ b ∷ []
    → IsListSoFar Is text item at body (many + 1) new after end
step_list {B = B} Is text item at body many list rest here b after end new h f new_is = record {
  done = h.done ++ f.a ∷ [];
  whole = h.whole ∙ ap (λ (bs : List ℕ). flat_map text h.done ++ bs) f.whole ∙ sym (flat_map-push text h.done f.a after);
  each = all_append Is h.done (f.a ∷ []) h.each (f.is, tt);
  many_is = omega (arith, length-append h.done (f.a ∷ []), h.many_is);
  list_is = new_is ∙ ap (λ (bs : List B). bs ++ b ∷ []) h.list_is
      ∙ ap (λ (x : B). items_at item text at h.done ++ x ∷ []) (f.item_is ∙ ap (λ (k : ℕ). item k f.a) h.end_is)
      ∙ sym (items_at-push item text at h.done f.a);
  end_is = omega (
    arith,
    f.end_is,
    h.end_is,
    ap length (flat_map-push text h.done f.a []),
    length-append (flat_map text (h.done ++ f.a ∷ [])) [],
    length-append
        (flat_map text h.done) (text f.a ++ []),
    length-append (text f.a) [],
  );
}

-- the list is whole
pub whole_list : {A B : Type 0} (Is : A → Type 0) (text : A → List ℕ) (item : ℕ → A → B) (at : ℕ) (fields : List ℕ) (many : ℕ) (body : List ℕ) (place : ℕ)
    (list : List B) (rest : List ℕ) (end here : ℕ)
    → HasCount at fields many body place → IsListSoFar Is text item place body here list rest end → here ≡ many
    → BeginsWith (IsCounted Is) (counted_text text) (list_at item text) at fields list rest end
whole_list {B = B} Is text item at fields many body place list rest end here n h all =
    record {
      a = record { count = n.count; items = h.done };
      is = record { count = n.long; many = h.many_is ∙ all ∙ n.many_is; each = h.each };
      whole = n.whole ∙ ap (λ (bs : List ℕ). n.count ++ bs) h.whole ∙ sym (append_assoc n.count (flat_map text h.done) rest);
      item_is = h.list_is ∙ ap (λ (k : ℕ). items_at item text k h.done) n.end_is;
      end_is = omega (arith, h.end_is, n.end_is, n.long, length-append n.count (flat_map text h.done));
    }

-- the bytes end before the count does
pub short_count : {A : Type 0} (Is : A → Type 0) (text : A → List ℕ) (x : A) (fields : List ℕ) → Is x → length fields < 2
    → EndsInside (IsCounted Is) (counted_text text) fields
short_count Is text x fields is lacks =
    let k : ℕ = 2 - length fields in
    let count : List ℕ = fields ++ zero_bytes k in
    let items : List _ = replicate (big_number 2 count) x in
    record {
      a = record { count = count; items = items };
      is = record {
        count = omega (arith, length-append fields (zero_bytes k), length-zero_bytes k);
        many = length-replicate (big_number 2 count) x;
        each =
            all_replicate Is (big_number 2 count) x is;
      };
      missing = zero_bytes k ++ flat_map text items;
      lacks = λ e. omega (arith, ap length e, length-append (zero_bytes k) (flat_map text items), length-zero_bytes k);
      whole = sym (append_assoc fields (zero_bytes k) (flat_map text items));
    }

pub nil_front : (xs ys : List ℕ) → xs ++ ys ≡ [] → xs ≡ []
nil_front xs ys e = nil_from_length xs (omega (arith, ap length e, length-append xs ys))

-- the bytes end inside an item
pub short_item : {A B : Type 0} (Is : A → Type 0) (text : A → List ℕ) (item : ℕ → A → B) (x : A) (at : ℕ) (fields : List ℕ) (count : ℕ) (body : List ℕ)
    (place many : ℕ) (list : List B) (rest : List ℕ) (end : ℕ)
    → Is x → HasCount at fields count body place → IsListSoFar Is text item place body many list rest end → many < count → EndsInside Is text rest
    → EndsInside (IsCounted Is) (counted_text text) fields
short_item Is text item x at fields count body place many list rest end is n h more e =
    let k : ℕ = count - many - 1 in
    let others : List _ = replicate k x in
    let items : List _ = h.done ++ (e.a ∷ others) in
    let behind : List ℕ = flat_map text others in
    let len : length items ≡ count = omega (arith, h.many_is, length-append h.done (e.a ∷ others), length-replicate k x) in
    let text_is : flat_map text items ≡ flat_map text h.done ++ (text e.a ++ behind) = flat_map-append text h.done (e.a ∷ others) in
    record {
      a = record { count = n.count; items = items };
      is = record { count = n.long; many = len ∙ n.many_is; each = all_append Is h.done (e.a ∷ others) h.each (e.is, all_replicate Is k x is) };
      missing = e.missing ++ behind;
      lacks = λ none. e.lacks (nil_front e.missing behind none);
      whole = ap (λ (bs : List ℕ). bs ++ (e.missing ++ behind)) (n.whole ∙ ap (λ (bs : List ℕ). n.count ++ bs) h.whole)
          ∙ append_assoc n.count (flat_map text h.done ++ rest) (e.missing ++ behind)
          ∙ ap (λ (bs : List ℕ). n.count ++ bs) (
          append_assoc (flat_map text h.done) rest (e.missing ++ behind)
          ∙ ap (λ (bs : List ℕ). flat_map text h.done ++ bs) (sym (append_assoc rest e.missing behind) ∙ ap (λ (bs : List ℕ). bs ++ behind) e.whole)
          ∙ sym text_is
          );
    }

-- an item has an unknown type
pub other_item : {A B : Type 0} (Is : A → Type 0) (text : A → List ℕ) (item : ℕ → A → B) (len at : ℕ) (fields : List ℕ) (count : ℕ) (body : List ℕ)
    (place many : ℕ) (list : List B) (rest : List ℕ) (end : ℕ)
    → HasCount at fields count body place → IsListSoFar Is text item place body many list rest end → many < count → HasOtherType len rest
    → HasOtherTypeIn Is text len fields
other_item Is text item len at fields count body place many list rest end n h more other = record {
  begun = record { count = n.count; items = h.done };
  is = record { count = n.long; more = omega (arith, h.many_is, n.many_is); each = h.each };
  behind = rest;
  whole = n.whole ∙ ap (λ (bs : List ℕ). n.count ++ bs) h.whole ∙ sym (append_assoc n.count (flat_map text h.done) rest);
  other = other;
}

-- no item can be read
pub item_stop : {A B : Type 0} (Is : A → Type 0) (text : A → List ℕ) (item : ℕ → A → B) (x : A) (len at : ℕ) (fields : List ℕ) (count : ℕ) (body : List ℕ)
    (place many : ℕ) (list : List B) (rest : List ℕ) (end : ℕ) (stop : Stop)
    → Is x → HasCount at fields count body place → IsListSoFar Is text item place body many list rest end → many < count → IsItemStop Is text len rest stop
    → IsListStop Is text len fields stop
item_stop Is text item x len at fields count body place many list rest end stops.Short is n h more e =
    short_item Is text item x at fields count body place many list rest end is n h more e
item_stop Is text item x len at fields count body place many list rest end stops.UnknownType is n h more other =
    other_item Is text item len at fields count body place many list rest end n h more other
item_stop Is text item x len at fields count body place many list rest end stops.NoMemory is n h more none = tt
