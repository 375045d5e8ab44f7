-- The texts among the records of a file lie in it.
use Rattle.std.proofs.Common.{◌≡◌, ℕ, ◌+◌, ◌-◌, ◌≤◌, List, [], ◌∷◌, length, drop, Bool, true, false, cond, refl, ap, subst, arith, All}
use Rattle.std.specs.Prelude.{Some, None, ◌==◌, ◌*◌}
use Rattle.std.specs.List.{AllByRecursion, flat_map, filter_map, cons_option}
use Rattle.std.proofs.lemmas.List.Elements.{All-nil, All-cons}
use Rattle.hd_terms.specs.declared.IdSize.{IdSize}
use Rattle.byteorder.specs.Endian.{big_number}
use Rattle.hd_terms.specs.declared.Text.{Text}
use Rattle.hd_terms.specs.Records.{id_len, placed, text_of, Record, IsRecord, record_text, largest_file}
use Rattle.hd_classes.specs.Known.{IsTextWithin}
use Rattle.hd_decode.proofs.SpanLemmas.{after_body, ends}

module _ (bytes : List ℕ) where
  -- the texts among the records lie in the file
  case-text : (b : Bool) (x : Text) (xs : List Text) → IsTextWithin (length bytes) x → All (IsTextWithin (length bytes)) xs
      → All (IsTextWithin (length bytes)) (cons_option (cond b (Some x) None) xs)
  case-text true x xs here rest = All-cons (IsTextWithin (length bytes)) x xs here rest
  case-text false x xs here rest = rest

  pub texts-in-file : (size : IdSize) → length bytes ≤ largest_file → (at : ℕ) (rs : List Record) → drop at bytes ≡ flat_map record_text rs
      → AllByRecursion (IsRecord size) rs
      → All (IsTextWithin (length bytes)) (filter_map (text_of size) (placed at rs))
  texts-in-file size fits at [] whole each = All-nil (IsTextWithin (length bytes))
  texts-in-file size fits at (r ∷ rs) whole each =
      let rest = flat_map record_text rs in
      let more = texts-in-file size fits (at + 9 + length r.body) rs (after_body bytes at r rest each.0.framed whole) each.1 in
      by_tag (r.tag == 0x01) refl more
    where
      by_tag : (b : Bool) → (r.tag == 0x01) ≡ b → All (IsTextWithin (length bytes)) (filter_map (text_of size) (placed (at + 9 + length r.body) rs))
          → All (IsTextWithin (length bytes))
          (cons_option (cond b (Some
          (record { id = big_number (id_len size) r.body; text = record { start = at + 9 + id_len size; len = length r.body - id_len size } })) None)
          (filter_map (text_of size) (placed (at + 9 + length r.body) rs)))
      by_tag false is rest_within = rest_within
      by_tag true is rest_within =
          let least : id_len size ≤ length r.body =
          subst (λ (n : ℕ). n ≤ length r.body) (ap (λ (b : Bool). cond b (id_len size) (cond (r.tag == 0x02) (8 + 2 * id_len size) 0)) is) each.0.fields in
          case-text true _ _ (omega (arith, ends bytes at r (flat_map record_text rs) each.0.framed whole, least)) rest_within
