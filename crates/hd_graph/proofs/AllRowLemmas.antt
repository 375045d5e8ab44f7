-- Filling the rows and shapes of the objects of all sub-records, and what they are where no ID is repeated.
use Rattle.std.proofs.Common.{◌≡◌, ◌∙◌, ℕ, suc, ◌+◌, ◌-◌, ◌<◌, ◌≤◌, ◌^◌, List, [], ◌∷◌, ◌++◌, length, map, take, drop, Option, Some, None, Bool, true, false}
use Rattle.std.proofs.Common.{cond, refl, sym, ap, subst, arith}
use Rattle.std.specs.Option.{option_map}
use Rattle.std.specs.List.{filter_map, cons_option, slice_get}
use Rattle.std.proofs.lemmas.List.{append-nil, map-append, length-map, length-drop, get_or-drop, take-append-drop}
use Rattle.std.proofs.Math.Seq.{take-add}
use Rattle.std.proofs.lemmas.List.Sums.{sum_by-append}
use Rattle.std.proofs.lemmas.Option.{get_or_from_slice_get, slice_get_within, slice_get-get_or}
use Rattle.std.proofs.lemmas.List.Elements.{filter_map-append, All-nil, All-cons}
use Rattle.hd_terms.specs.declared.IdSize.{IdSize}
use Rattle.hd_terms.specs.declared.Span.{Span}
use Rattle.hd_terms.specs.SubRecords.{Sub, Item, ObjArray, PrimArray}
use Rattle.hd_terms.specs.SubRecords as subs
use Rattle.hd_terms.specs.Classes.{KnownClasses, ResolvedClass}
use Rattle.hd_slots.specs.Table.{Table}
use Rattle.hd_slots.specs.JoinedInside.{joined_table, rows_made, IsOfFile}
use Rattle.hd_classes.specs.Firsts.{firsts, firsts_from}
use Rattle.hd_classes.proofs.FirstLemmas.{is_known, firsts-le, firsts-map, filter_map-le}
use Rattle.hd_shapes.specs.Shapes.{ObjectShape}
use Rattle.hd_shapes.specs.PackedShapes.{ShapeLists}
use Rattle.hd_shapes.specs.JoinedShapes.{joined_objects}
use Rattle.hd_graph.specs.ArrayRows.{ObjectEntry, fitting, instance_entry, object_ids, entry_of, entry_of_item, shape_of_item, entries_of, item_weight, weight}
use Rattle.hd_graph.specs.Building.{columns, AddsRowOf, AddsItemRow, HasAllRows, HasAllShapes, HasRowsOf, stretch}
use Rattle.hd_graph.specs.Made.{CanBeJoined}
use Rattle.hd_graph.proofs.NumberLemmas.{take-next}
use Rattle.hd_graph.proofs.RowLemmas.{same, id_of_entry, row_of_entry, shape_of_entry, ids-of-entries, weight-at, weight-push}

-- one more sub-record
module _ (known : KnownClasses) (bytes : List ℕ) (size : IdSize) (front : List Sub) (s : Sub) (old new : Table)
    (h : HasAllRows known bytes size front old) where
  abbrev so_far : List ObjectEntry
  so_far = filter_map (entry_of known bytes size) front

  by-entry : (o : Option ObjectEntry) → filter_map (entry_of known bytes size) (front ++ s ∷ []) ≡ so_far ++ cons_option o []
      → AddsRowOf o (item_weight s.item) old new → HasAllRows known bytes size (front ++ s ∷ []) new
  by-entry None all same_rows =
      let none : filter_map (entry_of known bytes size) (front ++ s ∷ []) ≡ so_far = all ∙ append-nil so_far in
      rw same_rows (record {
        bytes_are = h.bytes_are;
        size_is = h.size_is;
        ids_are = h.ids_are;
        rows_are = h.rows_are ∙ ap (map row_of_entry) (sym none);
        filled = h.filled;
        few = omega (arith, h.few, weight-push front s);
      })
  by-entry (Some a) all added = record {
    bytes_are = ap (λ (t : Table). t.bytes) added.table ∙ h.bytes_are;
    size_is = ap (λ (t : Table). t.size) added.table ∙ h.size_is;
    ids_are = ap (λ (t : Table). t.ids) added.table ∙ h.ids_are;
    rows_are = ap (λ (t : Table). t.rows) added.table ∙ ap (λ (rs : List (List ℕ)). rs ++ a.1 ∷ []) h.rows_are ∙ sym (map-append row_of_entry so_far (a ∷ []))
        ∙ ap (map row_of_entry) (sym all);
    filled = ap (λ (t : Table). t.filling) added.table ∙ h.filled;
    few = omega (arith, h.few, added.count, weight-push front s);
  }

  all-push : AddsItemRow known bytes size s.item old new → HasAllRows known bytes size (front ++ s ∷ []) new
  all-push adds = by-entry (entry_of known bytes size s) (filter_map-append (entry_of known bytes size) front (s ∷ [])) adds

pub all-next : (known : KnownClasses) (bytes : List ℕ) (size : IdSize) (list : List Sub) (i : ℕ) (s : Sub) → slice_get list i ≡ Some s → (old new : Table)
    → HasAllRows known bytes size (take i list) old → AddsItemRow known old.bytes old.size s.item old new → HasAllRows known bytes size (take (i + 1) list) new
all-next known bytes size list i s is old new h adds =
    let added : AddsItemRow known bytes size s.item old new =
    subst (λ (n : IdSize). AddsItemRow known bytes n s.item old new) h.size_is
    (subst (λ (bs : List ℕ). AddsItemRow known bs old.size s.item old new) h.bytes_are adds) in
    subst (λ (front : List Sub). HasAllRows known bytes size front new) (sym (take-next list i s is))
    (all-push known bytes size (take i list) s old new h added)

-- what stands at an index of the rest of a list
pub at-later : (list : List Sub) (first i : ℕ) (s : Sub) → slice_get list (first + i) ≡ Some s → slice_get (drop first list) i ≡ Some s
at-later list first i s is =
    let lt = slice_get_within list (first + i) s is in
    slice_get-get_or (drop first list) i s (omega (arith, length-drop first list, lt))
    ∙ ap (λ (x : Sub). Some x) (get_or-drop first list i s ∙ get_or_from_slice_get list (first + i) s s is)

-- the same by an index of the whole
pub at-distance : (list : List Sub) (first i : ℕ) (s : Sub) → first ≤ i → slice_get list i ≡ Some s → slice_get (drop first list) (i - first) ≡ Some s
at-distance list first i s from is =
    let e : i ≡ first + (i - first) = omega arith in
    at-later list first (i - first) s (subst (λ (n : ℕ). slice_get list n ≡ Some s) e is)

-- a stretch of the sub-records weighs no more than all
stretch-weight : (list : List Sub) (first i : ℕ) (s : Sub) → slice_get list (first + i) ≡ Some s
    → weight (stretch first i list) + item_weight s.item ≤ weight list
stretch-weight list first i s is =
    let rest = weight-at (drop first list) i s (at-later list first i s is) in
    omega (arith, rest, sum_by-append (λ (x : Sub). item_weight x.item) (take first list) (drop first list), ap weight (take-append-drop first list))

-- the same by an index of the whole
pub stretch-weight-at : (list : List Sub) (first i : ℕ) (s : Sub) → first ≤ i → slice_get list i ≡ Some s
    → weight (stretch first (i - first) list) + item_weight s.item ≤ weight list
stretch-weight-at list first i s from is =
    let e : i ≡ first + (i - first) = omega arith in
    stretch-weight list first (i - first) s (subst (λ (n : ℕ). slice_get list n ≡ Some s) e is)

-- the rows of two stretches, one behind the other
module _ (known : KnownClasses) (bytes : List ℕ) (size : IdSize) (front back : List Sub) (t u : Table) (h : HasAllRows known bytes size front t)
    (k : HasAllRows known bytes size back u) where
  pub all-both : HasAllRows known bytes size (front ++ back) (record t { rows = t.rows ++ u.rows; count = t.count + u.count })
  all-both = record {
    bytes_are = h.bytes_are;
    size_is = h.size_is;
    ids_are = h.ids_are;
    rows_are = ap (λ (rs : List (List ℕ)). rs ++ u.rows) h.rows_are
        ∙ ap (λ (rs : List (List ℕ)). map row_of_entry (filter_map (entry_of known bytes size) front) ++ rs) k.rows_are
        ∙ sym (map-append row_of_entry (filter_map (entry_of known bytes size) front) (filter_map (entry_of known bytes size) back))
        ∙ ap (map row_of_entry) (sym (filter_map-append (entry_of known bytes size) front back));
    filled = h.filled;
    few = omega (arith, h.few, k.few, sum_by-append (λ (x : Sub). item_weight x.item) front back);
  }

-- two stretches of which one begins where the other ends are one
pub adjacent : (list : List Sub) (middle end : ℕ) → middle ≤ end → stretch 0 middle list ++ stretch middle (end - middle) list ≡ stretch 0 end list
adjacent list middle end from =
    let e : middle + (end - middle) ≡ end = omega arith in
    sym (take-add middle (end - middle) list) ∙ ap (λ (n : ℕ). take n list) e

-- the shapes of two stretches, one behind the other
pub shapes-both : (known : KnownClasses) (size : IdSize) (front back : List Sub) (xs ys : List ObjectShape) → HasAllShapes known size front xs
    → HasAllShapes known size back ys → HasAllShapes known size (front ++ back) (xs ++ ys)
shapes-both known size front back xs ys h k =
    let shape = λ (x : Sub). shape_of_item known size x.item in
    ap (λ (ss : List ObjectShape). ss ++ ys) h
    ∙ ap (λ (ss : List ObjectShape). filter_map shape front ++ ss) k
    ∙ sym (filter_map-append shape front back)

-- one more shape, or none
pub shapes-next : (known : KnownClasses) (size : IdSize) (list : List Sub) (i : ℕ) (s : Sub) → slice_get list i ≡ Some s → (old new : List ObjectShape)
    → HasAllShapes known size (take i list) old → new ≡ old ++ cons_option (shape_of_item known size s.item) []
    → HasAllShapes known size (take (i + 1) list) new
shapes-next known size list i s is old new h more =
    let shape = λ (x : Sub). shape_of_item known size x.item in
    more
    ∙ ap (λ (ss : List ObjectShape). ss ++ cons_option (shape s) []) h
    ∙ sym (filter_map-append shape (take i list) (s ∷ []))
    ∙ ap (filter_map shape) (sym (take-next list i s is))

-- there are no more shapes than sub-records
pub few-all-shapes : (known : KnownClasses) (size : IdSize) (front : List Sub) (shapes : List ObjectShape) → HasAllShapes known size front shapes
    → length shapes ≤ length front
few-all-shapes known size front shapes h =
    omega (arith, ap (λ (ss : List ObjectShape). length ss) h, filter_map-le (λ (s : Sub). shape_of_item known size s.item) front)

-- the shape of an instance doesn't depend on the bytes of the file
shape-of-instance : (bytes : List ℕ) (size : IdSize) (id class : ℕ) (values : Span) (k : Option ResolvedClass)
    → (instance_entry bytes size id class values k).2 ≡ (instance_entry [] size id class values k).2
shape-of-instance bytes size id class values None = refl
shape-of-instance bytes size id class values (Some k) = refl

shape-any-bytes : (known : KnownClasses) (bytes : List ℕ) (size : IdSize) (i : Item)
    → option_map shape_of_entry (entry_of_item known bytes size i) ≡ shape_of_item known size i
shape-any-bytes known bytes size (subs.Root kind id) = refl
shape-any-bytes known bytes size (subs.Class c) = refl
shape-any-bytes known bytes size (subs.Instance id class values) =
    ap (λ (s : ObjectShape). Some s) (shape-of-instance bytes size id class values (fitting size values.len (known class)))
shape-any-bytes known bytes size (ObjArray id class elements) = refl
shape-any-bytes known bytes size (PrimArray id element count) = refl

-- the shapes of all sub-records are those of their objects
shapes-of-entries : (known : KnownClasses) (bytes : List ℕ) (size : IdSize) (list : List Sub)
    → filter_map (λ (s : Sub). shape_of_item known size s.item) list ≡ map shape_of_entry (filter_map (entry_of known bytes size) list)
shapes-of-entries known bytes size [] = refl
shapes-of-entries known bytes size (s ∷ list) =
    ap (λ (o : Option ObjectShape). cons_option o (filter_map (λ (x : Sub). shape_of_item known size x.item) list))
    (sym (shape-any-bytes known bytes size s.item))
    ∙ ap (λ (ss : List ObjectShape). cons_option (option_map shape_of_entry (entry_of known bytes size s)) ss) (shapes-of-entries known bytes size list)
    ∙ mapped (entry_of known bytes size s) (filter_map (entry_of known bytes size) list)
  where
    mapped : (o : Option ObjectEntry) (es : List ObjectEntry) → cons_option (option_map shape_of_entry o) (map shape_of_entry es) ≡ map shape_of_entry
        (cons_option o es)
    mapped None es = refl
    mapped (Some a) es = refl

-- where as many are the first of their keys as there are, all are
module _ {X : Type 0} where
  all-new : (b : Bool) (x : X) (rest xs : List X) → length (cond b rest (x ∷ rest)) ≡ suc (length xs) → length rest ≤ length xs
      → (length rest ≡ length xs → rest ≡ xs) → cond b rest (x ∷ rest) ≡ x ∷ xs
  all-new true x rest xs long few same_rest = absurd (omega (arith, long, few))
  all-new false x rest xs long few same_rest = ap (λ (r : List X). x ∷ r) (same_rest (omega (arith, long)))

all-firsts : {X : Type 0} (key : X → ℕ) (before xs : List X) → length (firsts_from key before xs) ≡ length xs → firsts_from key before xs ≡ xs
all-firsts key before [] long = refl
all-firsts key before (x ∷ xs) long =
    all-new (is_known key before x) x (firsts_from key (before ++ x ∷ []) xs) xs long (firsts-le key (before ++ x ∷ []) xs)
    (all-firsts key (before ++ x ∷ []) xs)

-- where there are as many IDs as objects, all rows are those of the objects of the IDs
module _ (known : KnownClasses) (bytes : List ℕ) (size : IdSize) (list : List Sub) (t : Table) (shapes : List ObjectShape) (ids : List ℕ)
    (h : HasAllRows known bytes size list t) (all : HasAllShapes known size list shapes)
    (ids_are : ids ≡ object_ids list) (as_many : length shapes ≡ length ids) where
  abbrev entries : List ObjectEntry
  entries = filter_map (entry_of known bytes size) list

  shapes_are : shapes ≡ map shape_of_entry entries
  shapes_are = all ∙ shapes-of-entries known bytes size list

  ids-by-entries : ids ≡ map id_of_entry (firsts id_of_entry entries)
  ids-by-entries = ids_are ∙ ap (λ (xs : List ℕ). firsts same xs) (ids-of-entries known bytes size list) ∙ firsts-map same id_of_entry entries

  none-repeated : entries_of known bytes size list ≡ entries
  none-repeated =
      all-firsts id_of_entry [] entries
      (sym (length-map (firsts id_of_entry entries) id_of_entry) ∙ ap (λ (xs : List ℕ). length xs) (sym ids-by-entries) ∙ sym as_many
      ∙ ap (λ (ss : List ObjectShape). length ss) shapes_are ∙ length-map entries shape_of_entry)

  pub rows-of-all : HasRowsOf known bytes size list (columns (record t { ids = ids }) shapes)
  rows-of-all = record {
    bytes_are = h.bytes_are;
    size_is = h.size_is;
    ids_are = ids_are;
    rows_are = h.rows_are ∙ ap (map row_of_entry) (sym none-repeated);
    shapes_are = shapes_are ∙ ap (map shape_of_entry) (sym none-repeated);
    filled = h.filled;
  }

-- rows and shapes that are the only part
module _ (known : KnownClasses) (bytes : List ℕ) (size : IdSize) (list : List Sub) (t : Table) (s : ShapeLists)
    (h : HasRowsOf known bytes size list (columns t s.objects)) where
  abbrev firsts_of : List ObjectEntry
  firsts_of = entries_of known bytes size list

  few-entries : length firsts_of ≤ length list
  few-entries = omega (arith, firsts-le id_of_entry [] (filter_map (entry_of known bytes size) list), filter_map-le (entry_of known bytes size) list)

  rows : rows_made (t ∷ []) ≡ map row_of_entry firsts_of
  rows = append-nil t.rows ∙ h.rows_are

  shapes : joined_objects (s ∷ []) ≡ map shape_of_entry firsts_of
  shapes = append-nil s.objects ∙ h.shapes_are

  pub one-part : length list < 2 ^ 32 → CanBeJoined (t ∷ []) (s ∷ [])
  one-part few = record {
    file = record {
      some = omega arith;
      few_parts = omega arith;
      few_rows = omega (arith, few, few-entries, ap (λ (rs : List (List ℕ)). length rs) rows, length-map firsts_of row_of_entry);
      file = All-cons (IsOfFile t) t [] (record { bytes_are = refl; size_is = refl; ids_are = refl; filled = h.filled }) (All-nil (IsOfFile t));
    };
    as_many = refl;
    few_shapes = omega (arith, few, few-entries, ap (λ (ss : List ObjectShape). length ss) shapes, length-map firsts_of shape_of_entry);
  }

  pub rows-alone : HasRowsOf known bytes size list (columns (joined_table (t ∷ [])) (joined_objects (s ∷ [])))
  rows-alone = record { bytes_are = h.bytes_are; size_is = h.size_is; ids_are = h.ids_are; rows_are = rows; shapes_are = shapes; filled = refl }
