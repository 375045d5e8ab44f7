-- Bytes of the length that their head gives are the spelling of a record.
use Rattle.std.proofs.Common.{◌≡◌, ◌≢◌, ℕ, ◌+◌, ◌-◌, ◌≤◌, ◌<◌, List, [], ◌∷◌, ◌++◌, length, get_or, take, drop, sym, ap, ◌∙◌, arith}
use Rattle.std.proofs.lemmas.List.{length-take, length-drop, length-append, length-take-le, get_or-take, take-append-drop, drop-take}
use Rattle.byteorder.specs.Endian.{big_number}
use Rattle.byteorder.specs.Numbers.{big_from-take}
use Rattle.hd_terms.specs.Records.{Record, IsFramed, record_text}
use Rattle.hd_records.specs.ParsedRecords.{BeginsWithFramed, IsCutOffRecord}
use Rattle.hd_records.proofs.Padding.{zero_bytes, length-zero_bytes, big_number-padded, big_number-take, three_parts}

-- the length that the head of these bytes gives
abbrev pub body_len_in : List ℕ → ℕ
body_len_in text = big_number 4 (drop 5 text)

-- the record whose spelling these bytes are
abbrev record_in : List ℕ → Record
record_in text = record { tag = get_or text 0 0; time = take 4 (drop 1 text); size = take 4 (drop 5 text); body = drop 9 text }

record_in-text : (text : List ℕ) → 0 < length text → record_text (record_in text) ≡ text
record_in-text [] some = absurd (omega arith)
record_in-text (tag ∷ more) some = ap (λ (xs : List ℕ). tag ∷ xs) (three_parts 4 4 more)

record_in-is : (text : List ℕ) → length text ≡ 9 + body_len_in text → IsFramed (record_in text)
record_in-is text len = record {
  time = omega (arith, length-take 4 (drop 1 text), length-drop 1 text);
  size = omega (arith, length-take 4 (drop 5 text), length-drop 5 text);
  body = let same : big_number 4 (take 4 (drop 5 text)) ≡ body_len_in text = big_from-take 0 4 4 (drop 5 text) (omega arith) in
      let short : length (drop 9 text) ≡ body_len_in text = omega (arith, length-drop 9 text) in
      short ∙ sym same;
}

-- bytes that are long enough begin with a framed record
pub begins : (rest : List ℕ) (n : ℕ) → body_len_in rest ≡ n → 9 + n ≤ length rest → BeginsWithFramed rest (get_or rest 0 0) (take n (drop 9 rest))
    (drop (9 + n) rest)
begins rest n is_n long =
    let text : List ℕ = take (9 + n) rest in
    let len : length text ≡ 9 + n = length-take-le (9 + n) rest long in
    let same : body_len_in text ≡ n = big_number-take 4 5 (9 + n) rest (omega arith) ∙ is_n in
    record {
      r = record_in text;
      framed = record_in-is text (len ∙ ap (λ (k : ℕ). 9 + k) (sym same));
      tag_is = get_or-take (9 + n) rest 0 0 (omega arith);
      body_is = drop-take 9 n rest;
      whole = sym (take-append-drop (9 + n) rest) ∙ ap (λ (xs : List ℕ). xs ++ drop (9 + n) rest) (sym (record_in-text text (omega arith)));
    }

nil_is_empty : (xs : List ℕ) → xs ≡ [] → length xs ≡ 0
nil_is_empty xs e = ap length e

-- and those that are not end inside one
pub cut_off : (rest : List ℕ) → rest ≢ [] → length rest < 9 + body_len_in rest → IsCutOffRecord rest
cut_off rest some short =
    let n : ℕ = body_len_in rest in
    let k : ℕ = 9 + n - length rest in
    let text : List ℕ = rest ++ zero_bytes k in
    let len : length text ≡ 9 + n = omega (arith, length-append rest (zero_bytes k), length-zero_bytes k) in
    let same : body_len_in text ≡ n = big_number-padded 4 5 k rest in
    record {
      r = record_in text;
      framed = record_in-is text (len ∙ ap (λ (j : ℕ). 9 + j) (sym same));
      cut = record {
        some = some;
        missing = zero_bytes k;
        lacks = λ e. omega (arith, nil_is_empty (zero_bytes k) e, length-zero_bytes k);
        whole = sym (record_in-text text (omega arith));
      };
    }
