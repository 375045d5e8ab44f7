-- Constants, statics and fields of a class, from the bytes of their types on.
use Rattle.std.proofs.Common.{◌≡◌, ◌≢◌, ℕ, ◌+◌, ◌-◌, ◌≤◌, ◌<◌, false, List, [], ◌∷◌, ◌++◌, length, get_or, take, drop, refl, sym, ap, ◌∙◌, append_assoc, arith}
use Rattle.std.proofs.lemmas.List.{length-append, length-take-le, drop_more, take-append-drop}
use Rattle.byteorder.specs.Endian.{big_number}
use Rattle.byteorder.specs.Numbers.{big_from-append}
use Rattle.hd_terms.specs.declared.IdSize.{IdSize}
use Rattle.hd_terms.specs.Records.{id_len}
use Rattle.hd_terms.specs.SubRecords.{ClassValue, ClassField, IsClassValue, IsClassField, value_text, field_text, ConstantItem, StaticItem, FieldItem}
use Rattle.hd_terms.specs.Types.{is_type, value_len}
use Rattle.hd_subs.specs.declared.class_reading.Stop.{Stop}
use Rattle.hd_subs.specs.declared.class_reading.Stop.TheVariants as stops
use Rattle.hd_subs.specs.Parts.{BeginsWith, EndsInside, HasOtherType, BeginsWithType, IsTypeStop, IsItemStop, typed_item, static_item, field_at}
use Rattle.hd_subs.proofs.Padding.{zero_bytes, length-zero_bytes}

-- an item whose bytes are not there: type 4, and zeros
pub no_value : ℕ → ClassValue
no_value n = record { key = zero_bytes n; code = 4; value = 0 ∷ [] }

pub is_no_value : (size : IdSize) (n : ℕ) → IsClassValue size n (no_value n)
unfolding no_value
is_no_value size n = record { key = length-zero_bytes n; known = refl; value = refl }

pub no_field : IdSize → ClassField
no_field size = record { name = zero_bytes (id_len size); code = 4 }

pub is_no_field : (size : IdSize) → IsClassField size (no_field size)
unfolding no_field
is_no_field size = record { name = length-zero_bytes (id_len size); known = refl }

-- a key that is not all there, or has no type behind it
cut_key : (n : ℕ) (rest : List ℕ) → length rest < n + 1 → length (rest ++ zero_bytes (n - length rest)) ≡ n
cut_key n rest lacks = omega (arith, length-append rest (zero_bytes (n - length rest)), length-zero_bytes (n - length rest))

not_nil : (xs : List ℕ) → 0 < length xs → xs ≢ []
not_nil xs some e = omega (arith, ap length e)

-- an unknown type behind the key
pub other_type_in : (n : ℕ) (rest : List ℕ) → n + 1 ≤ length rest → is_type (get_or rest n 0) ≡ false → HasOtherType n rest
other_type_in n rest long other = record {
  key = take n rest;
  code = get_or rest n 0;
  more = drop (n + 1) rest;
  long = length-take-le n rest (omega arith);
  whole = sym (ap (λ (xs : List ℕ). take n rest ++ xs) (sym (drop_more rest n 0 (omega arith))) ∙ take-append-drop n rest);
  other = other;
}

-- ---- constants and statics

pub typed_stop : (size : IdSize) (n : ℕ) (rest : List ℕ) (stop : Stop) → IsTypeStop n rest stop → IsItemStop (IsClassValue size n) value_text n rest stop
typed_stop size n rest stops.Short lacks =
    let zeros : List ℕ = zero_bytes (n - length rest) in
    record {
      a = record { key = rest ++ zeros; code = 4; value = 0 ∷ [] };
      is = record { key = cut_key n rest lacks; known = refl; value = refl };
      missing = zeros ++ 4 ∷ 0 ∷ [];
      lacks = not_nil (zeros ++ 4 ∷ 0 ∷ []) (omega (arith, length-append zeros (4 ∷ 0 ∷ [])));
      whole = sym (append_assoc rest zeros (4 ∷ 0 ∷ []));
    }
typed_stop size n rest stops.UnknownType other = other
typed_stop size n rest stops.NoMemory none = tt

pub short_typed : (size : IdSize) (n at : ℕ) (rest : List ℕ) (code bytes : ℕ) (behind : List ℕ) (place : ℕ)
    → BeginsWithType size n at rest code bytes behind place → length behind < bytes
    → EndsInside (IsClassValue size n) value_text rest
short_typed size n at rest code bytes behind place t lacks =
    let zeros : List ℕ = zero_bytes (bytes - length behind) in
    record {
      a = record { key = t.key; code = code; value = behind ++ zeros };
      is = record { key = t.long; known = t.known; value = omega (arith, t.bytes_is, length-append behind zeros, length-zero_bytes (bytes - length behind)) };
      missing = zeros;
      lacks = not_nil zeros (omega (arith, length-zero_bytes (bytes - length behind)));
      whole = ap (λ (xs : List ℕ). xs ++ zeros) t.whole ∙ append_assoc t.key (code ∷ behind) zeros;
    }

pub begins_typed : (size : IdSize) (n at : ℕ) (rest : List ℕ) (code bytes : ℕ) (behind : List ℕ) (place : ℕ)
    → BeginsWithType size n at rest code bytes behind place → bytes ≤ length behind
    → BeginsWith (IsClassValue size n) value_text (typed_item size n) at rest (record { code = code; value = record { start = place; len = bytes } })
    (drop bytes behind) (place + bytes)
begins_typed size n at rest code bytes behind place t long =
    let value : List ℕ = take bytes behind in
    let len : length value ≡ bytes = length-take-le bytes behind long in
    let start : place ≡ at + n + 1 = omega (arith, t.end_is) in
    record {
      a = record { key = t.key; code = code; value = value };
      is = record { key = t.long; known = t.known; value = len ∙ t.bytes_is };
      whole = t.whole ∙ ap (λ (xs : List ℕ). t.key ++ code ∷ xs) (sym (take-append-drop bytes behind))
          ∙ sym (append_assoc t.key (code ∷ value) (drop bytes behind));
      item_is = ap (λ (k : ℕ). let c : ConstantItem = record { code = code; value = record { start = k; len = bytes } } in c) start
          ∙ ap (λ (k : ℕ). let c : ConstantItem = record { code = code; value = record { start = at + n + 1; len = k } } in c) t.bytes_is;
      end_is = omega (arith, t.end_is, t.long, len, length-append t.key (code ∷ value));
    }

-- a static has an ID as its key
pub begins_static : (size : IdSize) (at : ℕ) (rest : List ℕ) (typed : ConstantItem) (after : List ℕ) (end name : ℕ)
    → BeginsWith (IsClassValue size (id_len size)) value_text (typed_item size (id_len size)) at rest typed after end → name ≡ big_number (id_len size) rest
    → BeginsWith (IsClassValue size (id_len size)) value_text (static_item size) at rest
    (record { name = name; code = typed.code; value = typed.value }) after end
begins_static size at rest typed after end name t name_is =
    let n : ℕ = id_len size in
    let v : ClassValue = t.a in
    let long : n ≤ length v.key = omega (arith, t.is.key) in
    let key : name ≡ big_number n v.key = name_is ∙ ap (λ (xs : List ℕ). big_number n xs) (t.whole ∙ append_assoc v.key (v.code ∷ v.value) after)
    ∙ big_from-append n v.key ((v.code ∷ v.value) ++ after) long in
    record {
      a = v;
      is = t.is;
      whole = t.whole;
      item_is = ap (λ (c : ConstantItem). let s : StaticItem = record { name = name; code = c.code; value = c.value } in s) t.item_is
          ∙ ap (λ (k : ℕ). let s : StaticItem = record { name = k; code = v.code; value = record { start = at + n + 1; len = value_len size v.code } } in
          s) key;
      end_is = t.end_is;
    }

-- ---- fields

pub field_stop : (size : IdSize) (rest : List ℕ) (stop : Stop) → IsTypeStop (id_len size) rest stop
    → IsItemStop (IsClassField size) field_text (id_len size) rest stop
field_stop size rest stops.Short lacks =
    let zeros : List ℕ = zero_bytes (id_len size - length rest) in
    record {
      a = record { name = rest ++ zeros; code = 4 };
      is = record { name = cut_key (id_len size) rest lacks; known = refl };
      missing = zeros ++ 4 ∷ [];
      lacks = not_nil (zeros ++ 4 ∷ []) (omega (arith, length-append zeros (4 ∷ [])));
      whole = sym (append_assoc rest zeros (4 ∷ []));
    }
field_stop size rest stops.UnknownType other = other
field_stop size rest stops.NoMemory none = tt

pub begins_field : (size : IdSize) (at : ℕ) (rest : List ℕ) (code bytes : ℕ) (behind : List ℕ) (place name : ℕ)
    → BeginsWithType size (id_len size) at rest code bytes behind place
    → name ≡ big_number (id_len size) rest → BeginsWith (IsClassField size) field_text (field_at size) at rest
    (record { name = name; code = code }) behind place
begins_field size at rest code bytes behind place name t name_is =
    let n : ℕ = id_len size in
    let long : n ≤ length t.key = omega (arith, t.long) in
    let key : name ≡ big_number n t.key = name_is ∙ ap (λ (xs : List ℕ). big_number n xs) t.whole ∙ big_from-append n t.key (code ∷ behind) long in
    record {
      a = record { name = t.key; code = code };
      is = record { name = t.long; known = t.known };
      whole = t.whole ∙ sym (append_assoc t.key (code ∷ []) behind);
      item_is = ap (λ (k : ℕ). let f : FieldItem = record { name = k; code = code } in f) key;
      end_is = omega (arith, t.end_is, t.long, length-append t.key (code ∷ []));
    }
