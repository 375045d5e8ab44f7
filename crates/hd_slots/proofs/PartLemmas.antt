-- Lemmas on parts, one behind the other: the row of an object is that of its part, what is counted of all is the sum of what is
-- counted of each, and what is done to each part is done to all.
use Rattle.std.proofs.Common.{◌≡◌, ◌∙◌, ℕ, ◌+◌, ◌-◌, ◌<◌, ◌≤◌, ◌^◌, Bool, List, [], ◌∷◌, length, map, take, get_or, Ok, refl, sym, ap, subst, arith, All}
use Rattle.std.specs.Prelude.{count_by, Result, IfOk}
use Rattle.std.specs.List.{flat_map, sum_by, sum}
use Rattle.std.proofs.lemmas.List.{length-map, get_or-map, take-map, ext_get_or}
use Rattle.std.proofs.lemmas.List.Concat.{length-flat_map, get_or-flat_map}
use Rattle.std.proofs.lemmas.List.Elements.{All-head, All-tail, All-map}
use Rattle.std.proofs.lemmas.List.Folds.{flat_map-map}
use Rattle.std.proofs.lemmas.List.Sums.{sum_by-append, sum_by-cons, sum-map}
use Rattle.hd_slots.specs.Table.{Rows, Table, row_at}
use Rattle.hd_slots.specs.JoinedInside.{joined_table, joined_rows, first_table, rows_made, rows_in, IsOfFile, AreOfOneFile, AreOfOneDump}

-- the same rows, over these IDs
abbrev pub over : List ℕ → Table → Table
over ids t = record t { ids = ids }

abbrev count_of : Table → ℕ
count_of t = t.count

abbrev pub rows_of_part : Rows → List (List ℕ)
rows_of_part t = t.rows

abbrev pub len_of_part : Rows → ℕ
len_of_part t = length t.rows

-- all parts have as many rows as each of them has
pub total : (parts : List Rows) → sum (map len_of_part parts) ≡ length (flat_map rows_of_part parts)
total parts = sum-map len_of_part parts ∙ sym (length-flat_map rows_of_part parts)

-- where the rows of a part begin
pub begins : (parts : List Rows) (k : ℕ) → sum (take k (map len_of_part parts)) ≡ length (flat_map rows_of_part (take k parts))
begins parts k = ap sum (take-map len_of_part k parts) ∙ total (take k parts)

-- the row of an object, by the part that has it and where the part begins
pub row-of_part : (ids : List ℕ) (parts : List Rows) (k o first : ℕ) (part : Rows)
    → k < length parts → part ≡ get_or parts k part → first ≡ sum (take k (map len_of_part parts)) → first ≤ o
    → o < first + get_or (map len_of_part parts) k 0 → (o - first < length part.rows) × (row_at part (o - first) ≡ row_at (joined_rows ids parts) o)
row-of_part ids parts k o first part lt is begin from to =
    let len : get_or (map len_of_part parts) k 0 ≡ length part.rows = get_or-map len_of_part parts k part 0 lt ∙ ap len_of_part (sym is) in
    let within : o - first < length part.rows = omega (arith, len, to, from) in
    let at : length (flat_map rows_of_part (take k parts)) + (o - first) ≡ o = omega (arith, begins parts k, begin, from) in
    let there : o - first < length (get_or parts k part).rows = subst (λ (t : Rows). o - first < length t.rows) is within in (
      within,
      ap (λ (t : Rows). get_or t.rows (o - first) []) is
          ∙ sym (get_or-flat_map rows_of_part parts k (o - first) part [] lt there)
          ∙ ap (λ (n : ℕ). get_or (flat_map rows_of_part parts) n []) at,
    )

-- what is counted of the IDs of all parts
pub counted : (f : List ℕ → ℕ → Bool) (ids : List ℕ) (parts : List Rows) → All (λ (t : Rows). t.ids ≡ ids) parts
    → sum_by (count_by (f ids)) (flat_map rows_of_part parts) ≡ sum_by (λ (t : Rows). sum_by (count_by (f t.ids)) t.rows) parts
counted f ids [] same = refl
counted f ids (t ∷ parts) same =
    let same_ids : t.ids ≡ ids = All-head (λ (t : Rows). t.ids ≡ ids) t parts same in
    sum_by-append (count_by (f ids)) t.rows (flat_map rows_of_part parts)
    ∙ ap (λ (xs : List ℕ). sum_by (count_by (f xs)) t.rows + sum_by (count_by (f ids)) (flat_map rows_of_part parts)) (sym same_ids)
    ∙ ap (λ (n : ℕ). sum_by (count_by (f t.ids)) t.rows + n) (counted f ids parts (All-tail (λ (t : Rows). t.ids ≡ ids) t parts same))
    ∙ sym (sum_by-cons (λ (t : Rows). sum_by (count_by (f t.ids)) t.rows) t parts)

-- parts over other IDs
module _ (ids : List ℕ) (parts : List Table) (h : AreOfOneFile parts) where
  first-over : first_table (map (over ids) parts) ≡ over ids (first_table parts)
  first-over = get_or-map (over ids) parts 0 _ _ h.some

  counts-over : (ts : List Table) → sum_by count_of (map (over ids) ts) ≡ sum_by count_of ts
  counts-over [] = refl
  counts-over (t ∷ ts) = sum_by-cons count_of (over ids t) (map (over ids) ts) ∙ ap (λ (n : ℕ). t.count + n) (counts-over ts) ∙ sym (sum_by-cons count_of t ts)

  rows-over : rows_made (map (over ids) parts) ≡ rows_made parts
  rows-over = flat_map-map (λ (t : Table). t.rows) (over ids) parts

  pub joined-over : joined_table (map (over ids) parts) ≡ over ids (joined_table parts)
  joined-over = rw (first-over, rows-over, counts-over parts) refl

  pub file-over : AreOfOneFile (map (over ids) parts)
  file-over = record {
    some = omega (arith, h.some, length-map parts (over ids));
    few_parts = omega (arith, h.few_parts, length-map parts (over ids));
    few_rows = omega (arith, h.few_rows, ap (λ (rows : List (List ℕ)). length rows) rows-over);
    file = All-map (IsOfFile (first_table (map (over ids) parts))) (over ids) parts
        (λ i d lt. rw first-over (let t = h.file i d lt in record { bytes_are = t.bytes_are; size_is = t.size_is; ids_are = refl; filled = t.filled }));
  }

-- parts whose references are found: what was found of a part is its rows
module _ {E : Type 0} (parts : List Table) (results : List (Result Rows E)) (found : List Rows) where
  abbrev none : Rows
  none = rows_in (first_table parts)

  abbrev whole : Rows → Result Rows E
  whole t = Ok t

  -- what was found of the part of a number
  abbrev pub IsFoundAt : ℕ → Table → Type 0
  IsFoundAt i part = (get_or parts i (first_table parts) ≡ part) × IfOk (get_or results i (Ok none)) (λ (t : Rows). t ≡ rows_in part)

  pub all-resolved : results ≡ map whole found → length results ≡ length parts
      → ((i : ℕ) → i < length parts → (part : Table) × IsFoundAt i part) → map rows_in parts ≡ found
  all-resolved is as_many each =
      let long : length found ≡ length parts = omega (arith, as_many, ap (λ (rs : List (Result Rows E)). length rs) is, length-map found whole) in
      ext_get_or none (map rows_in parts) found (length-map parts rows_in ∙ sym long)
      (λ i lt.
      let within : i < length parts = omega (arith, lt, length-map parts rows_in) in
      let at = each i within in
      let same = ap (λ (rs : List (Result Rows E)). get_or rs i (Ok none)) is in
      let one : get_or results i (Ok none) ≡ Ok (get_or found i none) = same ∙ get_or-map whole found i none (Ok none) (omega (arith, long, within)) in
      let rows = subst (λ (r : Result Rows E). IfOk r (λ (t : Rows). t ≡ rows_in at.0)) one at.1.1 in
      get_or-map rows_in parts i (first_table parts) none within ∙ ap rows_in at.1.0 ∙ sym rows)

module _ (ids : List ℕ) (parts : List Table) (h : AreOfOneFile parts) (is : (first_table parts).ids ≡ ids) where
  rows-same : flat_map rows_of_part (map rows_in parts) ≡ rows_made parts
  rows-same = flat_map-map rows_of_part rows_in parts

  pub rows-resolved : joined_rows ids (map rows_in parts) ≡ rows_in (joined_table parts)
  rows-resolved = rw (rows-same, is) refl

  pub dump-resolved : length ids < 2 ^ 31 → AreOfOneDump ids (map rows_in parts)
  dump-resolved few = record {
    few = few;
    some = omega (arith, h.some, length-map parts rows_in);
    few_parts = omega (arith, h.few_parts, length-map parts rows_in);
    few_rows = omega (arith, h.few_rows, ap (λ (rows : List (List ℕ)). length rows) rows-same);
    each = All-map (λ (t : Rows). t.ids ≡ ids) rows_in parts (λ i d lt. (h.file i d lt).ids_are ∙ is);
  }
