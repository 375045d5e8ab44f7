-- Going through the fields of a layout, one after another.
use Rattle.std.proofs.Common.{◌≡◌, ◌∙◌, ℕ, suc, ◌+◌, ◌<◌, ◌≤◌, List, [], ◌∷◌, ◌++◌, length, get_or, map, Bool, true, false, cond, refl, sym, ap, subst, arith}
use Rattle.std.proofs.Common.{append_assoc, length-append, add-zero}
use Rattle.std.proofs.lemmas.List.{append-nil}
use Rattle.hd_terms.specs.declared.IdSize.{IdSize}
use Rattle.hd_terms.specs.declared.Span.{Span}
use Rattle.hd_terms.specs.declared.Slot.{Slot}
use Rattle.hd_terms.specs.declared.Slot.TheVariants as slots
use Rattle.hd_terms.specs.Types.{is_id_type, value_len}
use Rattle.hd_terms.specs.Classes as classes_of
use Rattle.hd_terms.specs.Classes.{layout_len}
use Rattle.hd_classes.specs.declared.known.LayoutField.{LayoutField}
use Rattle.hd_classes.specs.Known.{field_view}
use Rattle.hd_slots.specs.Table.{Table}
use Rattle.hd_graph.specs.ArrayRows.{IsValueWithin, placed_fields, value_ids, field_names}
use Rattle.hd_graph.specs.Building.{GrowsBy}
use Rattle.hd_graph.proofs.GrownLemmas.{IsOver, grown-over, over-same, over-new, value-over}
use Rattle.hd_graph.proofs.ValueLemmas.{ids-append, ids-le}
use Rattle.hd_classes.proofs.FieldLemmas.{first_fields, one-more, length-first, len-append, len-one, bytes-more, bytes-within, layout_len-cons}

-- the names of fields and of those behind them
pub names-append : (k : ℕ) (xs ys : List classes_of.LayoutField) → field_names k (xs ++ ys) ≡ field_names k xs ++ field_names (k + length xs) ys
names-append k [] ys = ap (λ (n : ℕ). field_names n ys) (sym (add-zero k))
names-append k (x ∷ xs) ys =
    let number : k + 1 + length xs ≡ k + suc (length xs) = omega arith in
    by_type (is_id_type x.code) (names-append (k + 1) xs ys ∙ ap (λ (n : ℕ). field_names (k + 1) xs ++ field_names n ys) number)
  where
    by_type : (b : Bool) → field_names (k + 1) (xs ++ ys) ≡ field_names (k + 1) xs ++ field_names (k + suc (length xs)) ys
        → cond b (slots.Field k ∷ field_names (k + 1) (xs ++ ys)) (field_names (k + 1) (xs ++ ys)) ≡ cond b (slots.Field k ∷ field_names (k + 1) xs)
        (field_names (k + 1) xs) ++ field_names (k + suc (length xs)) ys
    by_type true e = ap (λ (ns : List Slot). slots.Field k ∷ ns) e
    by_type false e = e

-- one more name, or none
pub names-more : (k : ℕ) (xs : List LayoutField) (i : ℕ) (d : LayoutField) → i < length xs → (b : Bool) → is_id_type (get_or xs i d).code ≡ b
    → field_names k (first_fields xs (i + 1)) ≡ field_names k (first_fields xs i) ++ cond b (slots.Field (k + i) ∷ []) []
names-more k xs i d lt b is =
    ap (field_names k) (one-more xs i d lt)
    ∙ names-append k (first_fields xs i) (field_view (get_or xs i d) ∷ [])
    ∙ ap (λ (n : ℕ). field_names k (first_fields xs i) ++ field_names (k + n) (field_view (get_or xs i d) ∷ [])) (length-first xs i lt)
    ∙ ap (λ (c : Bool). field_names k (first_fields xs i) ++ cond c (slots.Field (k + i) ∷ []) []) is

module _ (bytes : List ℕ) (size : IdSize) where
  placed-append : (at : ℕ) (xs ys : List classes_of.LayoutField) → placed_fields size at (xs ++ ys) ≡ placed_fields size at xs
      ++ placed_fields size (at + layout_len size xs) ys
  placed-append at [] ys = ap (λ (n : ℕ). placed_fields size n ys) (sym (add-zero at))
  placed-append at (x ∷ xs) ys =
      let offset : at + value_len size x.code + layout_len size xs ≡ at + layout_len size (x ∷ xs) = omega (arith, layout_len-cons size x xs) in
      let here : ℕ × Span = (x.code, record { start = at; len = value_len size x.code }) in
      ap (λ (ps : List (ℕ × Span)). here ∷ ps) (placed-append (at + value_len size x.code) xs ys)
      ∙ ap (λ (n : ℕ). here ∷ (placed_fields size (at + value_len size x.code) xs ++ placed_fields size n ys)) offset

  -- the IDs in fields
  abbrev pub ids_of_fields : ℕ → List classes_of.LayoutField → List ℕ
  ids_of_fields start fs = value_ids bytes size (placed_fields size start fs)

  pub placed-few : (at : ℕ) (fs : List classes_of.LayoutField) → length (value_ids bytes size (placed_fields size at fs)) ≤ length fs
  placed-few at fs = omega (arith, ids-le bytes size (placed_fields size at fs), length-placed at fs)
    where
      length-placed : (at : ℕ) (fs : List classes_of.LayoutField) → length (placed_fields size at fs) ≡ length fs
      length-placed at [] = refl
      length-placed at (f ∷ fs) = ap suc (length-placed (at + value_len size f.code) fs)

-- the IDs in the first fields were added
pub record ArePushed (start : ℕ) (front : List classes_of.LayoutField) (first now : Table) (at : ℕ) : Type 0 where
  pub table : GrowsBy (ids_of_fields first.bytes first.size start front) first now
  pub at_is : at ≡ start + layout_len first.size front

pub none-pushed : (start : ℕ) (first : Table) → ArePushed start [] first first start
none-pushed start first = record {
  table = ap (λ (f : List ℕ). record first { filling = f; count = first.count }) (sym (append-nil first.filling))
      ∙ ap (λ (n : ℕ). record first { filling = first.filling ++ []; count = n }) (sym (add-zero first.count));
  at_is = sym (add-zero start);
}

-- they are over the same file
over-so-far : (start : ℕ) (front : List classes_of.LayoutField) (first now : Table) (at : ℕ) → ArePushed start front first now at → IsOver first now
over-so-far start front first now at h = grown-over (ids_of_fields first.bytes first.size start front) first now h.table

-- some more fields
pub pushed-more : (start : ℕ) (front more : List classes_of.LayoutField) (first now new : Table) (at at' : ℕ) → ArePushed start front first now at
    → GrowsBy (ids_of_fields now.bytes now.size at more) now new
    → at' ≡ at + layout_len first.size more → ArePushed start (front ++ more) first new at'
pushed-more start front more first now new at at' h grows next =
    let bytes = first.bytes in
    let size = first.size in
    let old = ids_of_fields bytes size start front in
    let others = ids_of_fields bytes size at more in
    let over = over-so-far start front first now at h in
    let whole : ids_of_fields bytes size start (front ++ more) ≡ old ++ others =
    ap (value_ids bytes size) (placed-append bytes size start front more)
    ∙ ids-append bytes size (placed_fields size start front) (placed_fields size (start + layout_len size front) more)
    ∙ ap (λ (n : ℕ). old ++ ids_of_fields bytes size n more) (sym h.at_is) in
    let count : first.count + length old + length others ≡ first.count + length (old ++ others) = omega (arith, length-append old others) in
    record {
      table = over-same (λ (bs : List ℕ) (n : IdSize). GrowsBy (ids_of_fields bs n at more) now new) first now over grows
          ∙ ap (λ (t : Table). record t { filling = t.filling ++ others; count = t.count + length others }) h.table
          ∙ ap (λ (x : List ℕ). record first { filling = x; count = first.count + length old + length others }) (append_assoc first.filling old others)
          ∙ ap (λ (n : ℕ). record first { filling = first.filling ++ (old ++ others); count = n }) count
          ∙ ap (λ (ids : List ℕ). record first { filling = first.filling ++ ids; count = first.count + length ids }) (sym whole);
      at_is = omega (arith, next, h.at_is, len-append size front more);
    }

-- one more field
pub field-pushed : (start : ℕ) (xs : List LayoutField) (i : ℕ) (d : LayoutField) (first now new : Table) (at at' : ℕ) → i < length xs
    → ArePushed start (first_fields xs i) first now at
    → GrowsBy (ids_of_fields now.bytes now.size at (field_view (get_or xs i d) ∷ [])) now new → at' ≡ at + value_len first.size (get_or xs i d).code
    → ArePushed start (first_fields xs (i + 1)) first new at'
field-pushed start xs i d first now new at at' lt h grows next =
    subst (λ (fs : List classes_of.LayoutField). ArePushed start fs first new at') (sym (one-more xs i d lt))
    (pushed-more start (first_fields xs i) (field_view (get_or xs i d) ∷ []) first now new at at' h grows
    (omega (arith, next, len-one first.size (field_view (get_or xs i d)))))

-- its value lies in the file
pub field-within : (start : ℕ) (xs : List LayoutField) (i : ℕ) (d : LayoutField) (first now : Table) (at : ℕ) → i < length xs
    → ArePushed start (first_fields xs i) first now at
    → start + layout_len first.size (map field_view xs) ≤ length first.bytes → at + value_len first.size (get_or xs i d).code ≤ length first.bytes
field-within start xs i d first now at lt h within = omega (arith, h.at_is, bytes-more first.size xs i d lt, bytes-within first.size xs (i + 1), within)

pub value-within : (start : ℕ) (xs : List LayoutField) (i : ℕ) (d : LayoutField) (first now : Table) (at n : ℕ) → i < length xs
    → ArePushed start (first_fields xs i) first now at
    → start + layout_len first.size (map field_view xs) ≤ length first.bytes → n ≡ value_len first.size (get_or xs i d).code
    → IsValueWithin now.size (length now.bytes) ((get_or xs i d).code, record { start = at; len = n })
value-within start xs i d first now at n lt h within is =
    value-over first now ((get_or xs i d).code, record { start = at; len = n }) (over-so-far start (first_fields xs i) first now at h)
    (record { within = omega (arith, field-within start xs i d first now at lt h within, is); typed = is })

-- how many there are
pub count-so-far : (start : ℕ) (front : List classes_of.LayoutField) (first now : Table) (at : ℕ) → ArePushed start front first now at
    → (length now.ids ≡ length first.ids) × (now.count ≤ first.count + length front)
count-so-far start front first now at h =
    (ap (λ (t : Table). length t.ids) h.table, omega (arith, ap (λ (t : Table). t.count) h.table, placed-few first.bytes first.size start front))

-- those before the rest of a layout were added
pub record AreBefore (start : ℕ) (layout rest : List classes_of.LayoutField) (first now : Table) (at : ℕ) : Type 0 where
  pub front : List classes_of.LayoutField
  pub whole : layout ≡ front ++ rest
  pub pushed : ArePushed start front first now at

-- and one more class's
pub class-pushed : (start : ℕ) (layout rest own above : List classes_of.LayoutField) (first now new : Table) (at at' : ℕ)
    → AreBefore start layout rest first now at → rest ≡ own ++ above
    → GrowsBy (ids_of_fields now.bytes now.size at own) now new → at' ≡ at + layout_len now.size own → AreBefore start layout above first new at'
class-pushed start layout rest own above first now new at at' h split grows next =
    let over = over-so-far start h.front first now at h.pushed in
    record {
      front = h.front ++ own;
      whole = h.whole ∙ ap (λ (fs : List classes_of.LayoutField). h.front ++ fs) split ∙ sym (append_assoc h.front own above);
      pushed = pushed-more start h.front own first now new at at' h.pushed grows (next ∙ ap (λ (n : IdSize). at + layout_len n own) over.size);
    }

-- its values lie in the file, and there's room for its IDs
pub class-within : (start : ℕ) (layout rest own above : List classes_of.LayoutField) (first now : Table) (at : ℕ) → AreBefore start layout rest first now at
    → rest ≡ own ++ above
    → start + layout_len first.size layout ≤ length first.bytes → at + layout_len now.size own ≤ length now.bytes
class-within start layout rest own above first now at h split within =
    let over = over-so-far start h.front first now at h.pushed in
    over-new (λ (bytes : List ℕ) (size : IdSize). at + layout_len size own ≤ length bytes) first now over
    (omega (
      arith,
      within,
      h.pushed.at_is,
      ap (layout_len first.size) (h.whole ∙ ap (λ (fs : List classes_of.LayoutField). h.front ++ fs) split),
      len-append first.size h.front (own ++ above),
      len-append first.size own above,
    ))

pub class-room : (start : ℕ) (layout rest own above : List classes_of.LayoutField) (first now : Table) (at limit : ℕ) → AreBefore start layout rest first now at
    → rest ≡ own ++ above
    → length first.ids + first.count + length layout < limit → length now.ids + now.count + length own < limit
class-room start layout rest own above first now at limit h split room =
    let so_far = count-so-far start h.front first now at h.pushed in
    omega (
      arith,
      room,
      so_far.0,
      so_far.1,
      ap (λ (fs : List classes_of.LayoutField). length fs) (h.whole ∙ ap (λ (fs : List classes_of.LayoutField). h.front ++ fs) split),
      length-append h.front (own ++ above),
      length-append own above,
    )

-- all of a layout's were added
pub all-pushed : (start : ℕ) (layout rest : List classes_of.LayoutField) (first now : Table) (at : ℕ) → AreBefore start layout rest first now at → rest ≡ []
    → GrowsBy (ids_of_fields first.bytes first.size start layout) first now
all-pushed start layout rest first now at h none =
    let all : h.front ≡ layout = sym (h.whole ∙ ap (λ (fs : List classes_of.LayoutField). h.front ++ fs) none ∙ append-nil h.front) in
    subst (λ (fs : List classes_of.LayoutField). GrowsBy (ids_of_fields first.bytes first.size start fs) first now) all h.pushed.table
