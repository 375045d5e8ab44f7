-- Numbers of sub-records, of which there come more.
use Rattle.std.proofs.Common.{◌≡◌, ◌∙◌, inl, inr, ℕ, ◌+◌, ◌-◌, ◌≤◌, List, [], ◌∷◌, ◌++◌, length, map, refl, sym, ap, arith, All}
use Rattle.std.specs.List.{slice_index_or}
use Rattle.std.proofs.Math.Seq.{get_or-append_seam}
use Rattle.std.proofs.lemmas.Bool.{lt-ltb, le-ltb}
use Rattle.std.proofs.lemmas.List.{map-append, get_or_append_left}
use Rattle.std.proofs.lemmas.List.Elements.{All-head, All-tail}
use Rattle.hd_terms.specs.declared.IdSize.{IdSize}
use Rattle.hd_terms.specs.SubRecords.{Sub}
use Rattle.hd_subs.specs.Packed.{first_row, no_sub, sub_of_entry, IsEntry}

module _ (size : IdSize) (bytes : List ℕ) where
  -- the row of a number
  row-is : (rows : List Sub) (entry : ℕ) → first_row ≤ entry → sub_of_entry size bytes rows entry ≡ slice_index_or rows (entry - first_row) no_sub
  row-is rows entry high = rw (le-ltb entry first_row high) refl

  module _ (rows : List Sub) (x : Sub) where
    -- a number says the same where a row is added
    entry-kept : (entry : ℕ) → IsEntry (length bytes) (length rows) entry → sub_of_entry size bytes (rows ++ x ∷ []) entry ≡ sub_of_entry size bytes rows entry
    entry-kept entry (inl packed) = rw (lt-ltb entry first_row packed.0) refl
    entry-kept entry (inr row) =
        row-is (rows ++ x ∷ []) entry row.0
        ∙ get_or_append_left rows (x ∷ []) no_sub (entry - first_row) (omega (arith, row.0, row.1))
        ∙ sym (row-is rows entry row.0)

    entries-kept : (entries : List ℕ) → All (IsEntry (length bytes) (length rows)) entries → map (sub_of_entry size bytes (rows ++ x ∷ [])) entries ≡ map
        (sub_of_entry size bytes rows) entries
    entries-kept [] all = refl
    entries-kept (e ∷ es) all =
        ap (λ (s : Sub). s ∷ map (sub_of_entry size bytes (rows ++ x ∷ [])) es) (entry-kept e (All-head (IsEntry (length bytes) (length rows)) e es all))
        ∙ ap (λ (ss : List Sub). sub_of_entry size bytes rows e ∷ ss) (entries-kept es (All-tail (IsEntry (length bytes) (length rows)) e es all))

    -- the number of the row that was added
    new-row : (entry : ℕ) → entry ≡ first_row + length rows → sub_of_entry size bytes (rows ++ x ∷ []) entry ≡ x
    new-row entry is =
        let index : entry - first_row ≡ length rows = omega arith in
        row-is (rows ++ x ∷ []) entry (omega arith)
        ∙ ap (λ (n : ℕ). slice_index_or (rows ++ x ∷ []) n no_sub) index
        ∙ get_or-append_seam rows x [] no_sub

    -- one more sub-record that is a row
    pub push-row : (entries : List ℕ) (entry : ℕ) → All (IsEntry (length bytes) (length rows)) entries → entry ≡ first_row + length rows
        → map (sub_of_entry size bytes (rows ++ x ∷ [])) (entries ++ entry ∷ []) ≡ map (sub_of_entry size bytes rows) entries ++ x ∷ []
    push-row entries entry all is =
        map-append (sub_of_entry size bytes (rows ++ x ∷ [])) entries (entry ∷ [])
        ∙ ap (λ (ss : List Sub). ss ++ sub_of_entry size bytes (rows ++ x ∷ []) entry ∷ []) (entries-kept entries all)
        ∙ ap (λ (s : Sub). map (sub_of_entry size bytes rows) entries ++ s ∷ []) (new-row entry is)
