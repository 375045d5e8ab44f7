-- The head of a class.
use Rattle.std.proofs.Common.{◌≡◌, ℕ, ◌+◌, ◌-◌, ◌*◌, ◌≤◌, ◌<◌, List, ◌++◌, length, take, drop, refl, sym, ap, ◌∙◌, arith}
use Rattle.std.proofs.lemmas.List.{length-append, length-take, length-take-le, length-drop, take-append-drop}
use Rattle.byteorder.specs.Endian.{big_number}
use Rattle.byteorder.specs.Numbers.{big_from-take}
use Rattle.hd_terms.specs.declared.IdSize.{IdSize}
use Rattle.hd_terms.specs.Records.{id_len}
use Rattle.hd_terms.specs.SubRecords.{ClassHead, IsClassHead, class_head_text}
use Rattle.hd_subs.specs.Parts.{BeginsWith, EndsInside, head_item}
use Rattle.hd_subs.proofs.Padding.{zero_bytes, length-zero_bytes, big_number-take, take-more}

-- the head of these bytes
head_in : ℕ → List ℕ → ClassHead
head_in n fields = record {
  id = take n fields;
  serial = take 4 (drop n fields);
  super = take n (drop (n + 4) fields);
  loader = take n (drop (2 * n + 4) fields);
  signers = take n (drop (3 * n + 4) fields);
  domain = take n (drop (4 * n + 4) fields);
  reserved = take (2 * n) (drop (5 * n + 4) fields);
  instance = drop (7 * n + 4) fields;
}

is_head : (size : IdSize) (fields : List ℕ) → length fields ≡ 7 * id_len size + 8 → IsClassHead size (head_in (id_len size) fields)
unfolding head_in
is_head size fields len =
    let n : ℕ = id_len size in
    record {
      id = omega (arith, length-take n fields);
      serial = omega (arith, length-take 4 (drop n fields), length-drop n fields);
      super = omega (arith, length-take n (drop (n + 4) fields), length-drop (n + 4) fields);
      loader = omega (arith, length-take n (drop (2 * n + 4) fields), length-drop (2 * n + 4) fields);
      signers = omega (arith, length-take n (drop (3 * n + 4) fields), length-drop (3 * n + 4) fields);
      domain = omega (arith, length-take n (drop (4 * n + 4) fields), length-drop (4 * n + 4) fields);
      reserved = omega (arith, length-take (2 * n) (drop (5 * n + 4) fields), length-drop (5 * n + 4) fields);
      instance = omega (arith, length-drop (7 * n + 4) fields);
    }

-- the first bytes, and those that come next
next : (m k n : ℕ) (front fields : List ℕ) → front ≡ take m fields → m + k ≡ n → front ++ take k (drop m fields) ≡ take n fields
next m k n front fields is sum = ap (λ (xs : List ℕ). xs ++ take k (drop m fields)) is ∙ take-more m k fields ∙ ap (λ (j : ℕ). take j fields) sum

head_text : (n : ℕ) (fields : List ℕ) → class_head_text (head_in n fields) ≡ fields
unfolding head_in
head_text n fields =
    let serial : take n fields ++ take 4 (drop n fields) ≡ take (n + 4) fields = take-more n 4 fields in
    let super : _ ≡ take (2 * n + 4) fields = next (n + 4) n (2 * n + 4) (take n fields ++ take 4 (drop n fields)) fields serial (omega arith) in
    let loader : _ ≡ take (3 * n + 4) fields = next (2 * n + 4) n (3 * n + 4) _ fields super (omega arith) in
    let signers : _ ≡ take (4 * n + 4) fields = next (3 * n + 4) n (4 * n + 4) _ fields loader (omega arith) in
    let domain : _ ≡ take (5 * n + 4) fields = next (4 * n + 4) n (5 * n + 4) _ fields signers (omega arith) in
    let reserved : _ ≡ take (7 * n + 4) fields = next (5 * n + 4) (2 * n) (7 * n + 4) _ fields domain (omega arith) in
    ap (λ (xs : List ℕ). xs ++ drop (7 * n + 4) fields) reserved ∙ take-append-drop (7 * n + 4) fields

pub short_head : (size : IdSize) (fields : List ℕ) → length fields < 7 * id_len size + 8 → EndsInside (IsClassHead size) class_head_text fields
short_head size fields lacks =
    let n : ℕ = id_len size in
    let k : ℕ = 7 * n + 8 - length fields in
    let text : List ℕ = fields ++ zero_bytes k in
    let len : length text ≡ 7 * n + 8 = omega (arith, length-append fields (zero_bytes k), length-zero_bytes k) in
    record {
      a = head_in n text;
      is = is_head size text len;
      missing = zero_bytes k;
      lacks = λ e. omega (arith, ap length e, length-zero_bytes k);
      whole = sym (head_text n text);
    }

-- an ID of the head
id_in : (n k m : ℕ) (fields : List ℕ) → k + n ≤ m → big_number n (drop k fields) ≡ big_number n (take n (drop k (take m fields)))
id_in n k m fields le = sym (big_from-take 0 n n (drop k (take m fields)) (omega arith) ∙ big_number-take n k m fields le)

pub begins_head : (size : IdSize) (at : ℕ) (fields : List ℕ) (id super loader signers domain : ℕ) → 7 * id_len size + 8 ≤ length fields
    → id ≡ big_number (id_len size) fields
    → super ≡ big_number (id_len size) (drop (id_len size + 4) fields)
    → loader ≡ big_number (id_len size) (drop (2 * id_len size + 4) fields)
    → signers ≡ big_number (id_len size) (drop (3 * id_len size + 4) fields)
    → domain ≡ big_number (id_len size) (drop (4 * id_len size + 4) fields)
    → BeginsWith (IsClassHead size) class_head_text (head_item size) at fields
    (record { id = id; super_id = super; loader = loader; signers = signers; domain = domain })
    (drop (7 * id_len size + 8) fields) (at + (7 * id_len size + 8))
unfolding head_in
begins_head size at fields id super loader signers domain long id_is super_is loader_is signers_is domain_is =
    let n : ℕ = id_len size in
    let m : ℕ = 7 * n + 8 in
    let text : List ℕ = take m fields in
    let len : length text ≡ m = length-take-le m fields long in
    let a : id ≡ big_number n (take n text) = id_is ∙ id_in n 0 m fields (omega arith) in
    let b : super ≡ big_number n (take n (drop (n + 4) text)) = super_is ∙ id_in n (n + 4) m fields (omega arith) in
    let c : loader ≡ big_number n (take n (drop (2 * n + 4) text)) = loader_is ∙ id_in n (2 * n + 4) m fields (omega arith) in
    let d : signers ≡ big_number n (take n (drop (3 * n + 4) text)) = signers_is ∙ id_in n (3 * n + 4) m fields (omega arith) in
    let e : domain ≡ big_number n (take n (drop (4 * n + 4) text)) = domain_is ∙ id_in n (4 * n + 4) m fields (omega arith) in
    record {
      a = head_in n text;
      is = is_head size text len;
      whole = sym (ap (λ (xs : List ℕ). xs ++ drop m fields) (head_text n text) ∙ take-append-drop m fields);
      item_is = rw (a, b, c, d, e) refl;
      end_is = ap (λ (k : ℕ). at + k) (sym (ap length (head_text n text) ∙ len));
    }
