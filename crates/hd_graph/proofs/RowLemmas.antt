-- Filling the rows and shapes of objects, one sub-record after another.
use Rattle.std.proofs.Common.{◌≡◌, ◌∙◌, ℕ, suc, ◌+◌, ◌-◌, ◌*◌, ◌<◌, ◌≤◌, List, [], ◌∷◌, ◌++◌, length, map, take, drop, Option, Some, None, Bool, true, false}
use Rattle.std.proofs.Common.{◌||◌, cond, eqb, eq-eqb, refl, sym, ap, subst, arith, append_assoc, true≢false}
use Rattle.std.specs.List.{list_any, filter_map, cons_option, slice_get}
use Rattle.std.proofs.lemmas.List.{append-nil, map-append, length-map, take-append-drop, drop-drop}
use Rattle.std.proofs.lemmas.List.Elements.{filter_map-append}
use Rattle.std.proofs.lemmas.List.Folds.{list_any-append}
use Rattle.std.proofs.lemmas.List.Sums.{sum_by-append}
use Rattle.hd_terms.specs.declared.IdSize.{IdSize}
use Rattle.hd_terms.specs.declared.IdSize.TheVariants as sizes
use Rattle.hd_terms.specs.declared.Span.{Span}
use Rattle.hd_terms.specs.SubRecords.{Sub, Item, ObjArray, PrimArray}
use Rattle.hd_terms.specs.SubRecords as subs
use Rattle.hd_slots.specs.Table.{Table, id_at}
use Rattle.hd_shapes.specs.Shapes.{ObjectShape, ObjectArray, PrimitiveArray, ClassObject}
use Rattle.hd_terms.specs.Types.{element_len}
use Rattle.hd_terms.specs.FirstRecords.{id_of_item}
use Rattle.hd_terms.specs.Classes.{ResolvedClass, KnownClasses}
use Rattle.hd_classes.specs.Firsts.{firsts, firsts_from}
use Rattle.hd_graph.specs.ArrayRows.{ObjectEntry, fitting, instance_entry, object_id, object_ids, entry_of, entry_of_item, array_row, entries_of, id_count}
use Rattle.hd_graph.specs.ArrayRows.{ids_in, item_weight, class_row, class_names, static_bytes, weight}
use Rattle.hd_terms.specs.Records.{id_len}
use Rattle.hd_graph.proofs.NumberLemmas.{take-next}
use Rattle.hd_graph.specs.Building.{Columns, AddsNext, FillsItem}
use Rattle.hd_graph.proofs.GrownLemmas.{IsOver, over-same}
use Rattle.hd_classes.proofs.FirstLemmas.{firsts-le, filter_map-le, firsts-push, firsts_from-append, firsts-map, is_known, if_new, known-map}

abbrev pub same : ℕ → ℕ
same id = id

abbrev pub id_of_entry : ObjectEntry → ℕ
id_of_entry a = a.0

abbrev pub row_of_entry : ObjectEntry → List ℕ
row_of_entry a = a.1

abbrev pub shape_of_entry : ObjectEntry → ObjectShape
shape_of_entry a = a.2

-- an instance is entered under its ID
pub id-of-instance : (bytes : List ℕ) (size : IdSize) (id class : ℕ) (values : Span) (k : Option ResolvedClass)
    → (instance_entry bytes size id class values k).0 ≡ id
id-of-instance bytes size id class values None = refl
id-of-instance bytes size id class values (Some k) = refl

-- the rows and shapes of the objects so far, over the file, and how many IDs they have at most
pub record IsFilledSoFar (known : KnownClasses) (bytes : List ℕ) (size : IdSize) (front : List Sub) (ids : List ℕ) (c : Columns) : Type 0 where
  pub bytes_are : c.table.bytes ≡ bytes
  pub size_is : c.table.size ≡ size
  pub ids_are : c.table.ids ≡ ids
  pub rows_are : c.table.rows ≡ map row_of_entry (entries_of known bytes size front)
  pub shapes_are : c.shapes ≡ map shape_of_entry (entries_of known bytes size front)
  pub filled : c.table.filling ≡ []
  pub few : c.table.count ≤ weight front

-- the IDs of the objects are those of the sub-records
pub ids-of-entries : (known : KnownClasses) (bytes : List ℕ) (size : IdSize) (list : List Sub)
    → filter_map object_id list ≡ map id_of_entry (filter_map (entry_of known bytes size) list)
ids-of-entries known bytes size [] = refl
ids-of-entries known bytes size (s ∷ list) = by_item s.item (ids-of-entries known bytes size list)
  where
    by_item : (i : Item) → filter_map object_id list ≡ map id_of_entry (filter_map (entry_of known bytes size) list)
        → cons_option (id_of_item i) (filter_map object_id list) ≡ map id_of_entry
        (cons_option (entry_of_item known bytes size i) (filter_map (entry_of known bytes size) list))
    by_item (subs.Root kind id) e = e
    by_item (subs.Class c) e = ap (λ (xs : List ℕ). c.id ∷ xs) e
    by_item (subs.Instance id class values) e =
        ap (λ (xs : List ℕ). id ∷ xs) e ∙ ap (λ (x : ℕ). x ∷ map id_of_entry (filter_map (entry_of known bytes size) list))
        (sym (id-of-instance bytes size id class values (fitting size values.len (known class))))
    by_item (ObjArray id class elements) e = ap (λ (xs : List ℕ). id ∷ xs) e
    by_item (PrimArray id element count) e = ap (λ (xs : List ℕ). id ∷ xs) e

-- what stands past a front
slice_get-past : {X : Type 0} (xs ys : List X) → slice_get (xs ++ ys) (length xs) ≡ slice_get ys 0
slice_get-past [] ys = refl
slice_get-past (x ∷ xs) ys = slice_get-past xs ys

or-left : (a b : Bool) → (a || b) ≡ false → a ≡ false
or-left true b e = e
or-left false b e = refl

head-known : (before : List ℕ) (x y : ℕ) (rest : List ℕ) (b : Bool) → list_any (λ k. eqb x k) before ≡ b → slice_get (cond b rest (x ∷ rest)) 0 ≡ Some y
    → (slice_get rest 0 ≡ Some y → list_any (λ k. eqb y k) (before ++ x ∷ []) ≡ false) → list_any (λ k. eqb y k) before ≡ false
head-known before x y rest true e h more = or-left (list_any (λ k. eqb y k) before) (list_any (λ k. eqb y k) (x ∷ []))
    (sym (list_any-append (λ k. eqb y k) before (x ∷ [])) ∙ more h)
head-known before x y rest false e h more = let is : x ≡ y = cc in subst (λ (z : ℕ). list_any (λ k. eqb z k) before ≡ false) is e

-- the first that comes after some keys is none of them
head-new : (before xs : List ℕ) (y : ℕ) → slice_get (firsts_from same before xs) 0 ≡ Some y → list_any (λ k. eqb y k) before ≡ false
head-new before [] y h = absurd cc
head-new before (x ∷ xs) y h = head-known before x y (firsts_from same (before ++ x ∷ []) xs) (list_any (λ k. eqb x k) before) refl h
    (λ at. head-new (before ++ x ∷ []) xs y at)

-- an ID is the next of the first of each exactly where none before it is the same
module _ (before : List ℕ) (id : ℕ) (after : List ℕ) where
  abbrev all_first : List ℕ
  all_first = firsts same (before ++ id ∷ after)

  next_is : slice_get all_first (length (firsts same before)) ≡ slice_get (firsts_from same before (id ∷ after)) 0
  next_is = ap (λ (xs : List ℕ). slice_get xs (length (firsts same before))) (firsts_from-append same [] before (id ∷ after))
      ∙ slice_get-past (firsts same before) (firsts_from same before (id ∷ after))

  known-here : list_any (λ k. eqb id k) (before ++ id ∷ []) ≡ true
  known-here = list_any-append (λ k. eqb id k) before (id ∷ []) ∙ ap (λ (b : Bool). list_any (λ k. eqb id k) before || (b || false)) (eq-eqb id id refl)
      ∙ or-true (list_any (λ k. eqb id k) before)
    where
      or-true : (a : Bool) → (a || (true || false)) ≡ true
      or-true true = refl
      or-true false = refl

  pub new-where-next : slice_get all_first (length (firsts same before)) ≡ Some id → is_known same before id ≡ false
  new-where-next h = by_known (is_known same before id) refl (sym next_is ∙ h)
    where
      by_known : (b : Bool) → is_known same before id ≡ b
          → slice_get (cond b (firsts_from same (before ++ id ∷ []) after) (id ∷ firsts_from same (before ++ id ∷ []) after)) 0 ≡ Some id
          → is_known same before id ≡ false
      by_known false e h = e
      by_known true e h = absurd (true≢false (sym known-here ∙ head-new (before ++ id ∷ []) after id h))

  pub next-where-new : is_known same before id ≡ false → slice_get all_first (length (firsts same before)) ≡ Some id
  next-where-new e = next_is
      ∙ ap (λ (b : Bool). slice_get (cond b (firsts_from same (before ++ id ∷ []) after) (id ∷ firsts_from same (before ++ id ∷ []) after)) 0) e

pub id_count-le : (size : IdSize) (span : Span) → id_count size span ≤ span.len
id_count-le sizes.Four span = omega arith
id_count-le sizes.Eight span = omega arith

pub weight-push : (front : List Sub) (s : Sub) → weight (front ++ s ∷ []) ≡ weight front + item_weight s.item
weight-push front s = omega (arith, sum_by-append (λ (x : Sub). item_weight x.item) front (s ∷ []))

arrays-push : (known : KnownClasses) (bytes : List ℕ) (size : IdSize) (front : List Sub) (at : ℕ) (i : Item)
    → filter_map (entry_of known bytes size) (front ++ (record { offset = at; item = i }) ∷ []) ≡ filter_map (entry_of known bytes size) front
    ++ cons_option (entry_of_item known bytes size i) []
arrays-push known bytes size front at i = filter_map-append (entry_of known bytes size) front ((record { offset = at; item = i }) ∷ [])

-- one more sub-record
module _ (known : KnownClasses) (bytes : List ℕ) (size : IdSize) (front : List Sub) (at : ℕ) (after : List Sub) (old new : Columns) where
  abbrev sub : Item → Sub
  sub i = record { offset = at; item = i }

  abbrev pub ids_all : Item → List ℕ
  ids_all i = object_ids (front ++ sub i ∷ after)

  abbrev A : List ObjectEntry
  A = filter_map (entry_of known bytes size) front

  -- an object that was there before, or is new
  fill-known : (i : Item) (a : ObjectEntry) → IsFilledSoFar known bytes size front (ids_all i) old → AddsNext a (item_weight i) old new
      → entries_of known bytes size (front ++ sub i ∷ []) ≡ firsts id_of_entry A ++ if_new id_of_entry (is_known id_of_entry A a) a
      → (b : Bool) → is_known id_of_entry A a ≡ b
      → (is_known id_of_entry A a ≡ false → slice_get old.table.ids (length old.table.rows) ≡ Some a.0)
      → (slice_get old.table.ids (length old.table.rows) ≡ Some a.0 → is_known id_of_entry A a ≡ false)
      → IsFilledSoFar known bytes size (front ++ sub i ∷ []) (ids_all i) new
  fill-known i a h adds all true e then_next then_new =
      let same_columns : new ≡ old = adds.other (λ is_next. true≢false (sym e ∙ then_new is_next)) in
      let none : firsts id_of_entry A ++ if_new id_of_entry (is_known id_of_entry A a) a ≡ firsts id_of_entry A =
      ap (λ (c : Bool). firsts id_of_entry A ++ if_new id_of_entry c a) e ∙ append-nil (firsts id_of_entry A) in
      rw same_columns (record {
        bytes_are = h.bytes_are;
        size_is = h.size_is;
        ids_are = h.ids_are;
        rows_are = h.rows_are ∙ ap (map row_of_entry) (sym (all ∙ none));
        shapes_are = h.shapes_are ∙ ap (map shape_of_entry) (sym (all ∙ none));
        filled = h.filled;
        few = omega (arith, h.few, weight-push front (sub i));
      })
  fill-known i a h adds all false e then_next then_new =
      let one : firsts id_of_entry A ++ if_new id_of_entry (is_known id_of_entry A a) a ≡ firsts id_of_entry A ++ a ∷ [] =
      ap (λ (c : Bool). firsts id_of_entry A ++ if_new id_of_entry c a) e in
      let added = adds.next (then_next e) in
      record {
        bytes_are = ap (λ (t : Table). t.bytes) added.row.table ∙ h.bytes_are;
        size_is = ap (λ (t : Table). t.size) added.row.table ∙ h.size_is;
        ids_are = ap (λ (t : Table). t.ids) added.row.table ∙ h.ids_are;
        rows_are = ap (λ (t : Table). t.rows) added.row.table ∙ ap (λ (rs : List (List ℕ)). rs ++ a.1 ∷ []) h.rows_are
            ∙ sym (map-append row_of_entry (firsts id_of_entry A) (a ∷ [])) ∙ ap (map row_of_entry) (sym (all ∙ one));
        shapes_are = added.shapes ∙ ap (λ (ss : List ObjectShape). ss ++ a.2 ∷ []) h.shapes_are
            ∙ sym (map-append shape_of_entry (firsts id_of_entry A) (a ∷ [])) ∙ ap (map shape_of_entry) (sym (all ∙ one));
        filled = ap (λ (t : Table). t.filling) added.row.table ∙ h.filled;
        few = omega (arith, h.few, added.row.count, weight-push front (sub i));
      }

  fill-object : (i : Item) (a : ObjectEntry) → entry_of_item known bytes size i ≡ Some a → id_of_item i ≡ Some a.0
      → IsFilledSoFar known bytes size front (ids_all i) old → AddsNext a (item_weight i) old new
      → IsFilledSoFar known bytes size (front ++ sub i ∷ []) (ids_all i) new
  fill-object i a is id_is h adds =
      let id = a.0 in
      let B = map id_of_entry A in
      let after_ids = filter_map object_id after in
      let arrays : filter_map (entry_of known bytes size) (front ++ sub i ∷ []) ≡ A ++ a ∷ [] = arrays-push known bytes size front at i
      ∙ ap (λ (o : Option ObjectEntry). A ++ cons_option o []) is in
      let ids : filter_map object_id (front ++ sub i ∷ after) ≡ B ++ id ∷ after_ids =
      filter_map-append object_id front (sub i ∷ after) ∙ ap (λ (o : Option ℕ). filter_map object_id front ++ cons_option o after_ids) id_is
      ∙ ap (λ (xs : List ℕ). xs ++ id ∷ after_ids) (ids-of-entries known bytes size front) in
      let old_ids : old.table.ids ≡ firsts same (B ++ id ∷ after_ids) = h.ids_are ∙ ap (λ (xs : List ℕ). firsts same xs) ids in
      let many : length old.table.rows ≡ length (firsts same B) =
      ap (λ (rs : List (List ℕ)). length rs) h.rows_are ∙ length-map (firsts id_of_entry A) row_of_entry ∙ sym (length-map (firsts id_of_entry A) id_of_entry)
      ∙ ap (λ (xs : List ℕ). length xs) (sym (firsts-map same id_of_entry A)) in
      let next : slice_get old.table.ids (length old.table.rows) ≡ slice_get (firsts same (B ++ id ∷ after_ids)) (length (firsts same B)) =
      ap (λ (xs : List ℕ). slice_get xs (length old.table.rows)) old_ids ∙ ap (λ (n : ℕ). slice_get (firsts same (B ++ id ∷ after_ids)) n) many in
      let there : is_known same B id ≡ is_known id_of_entry A a = known-map same id_of_entry A a in
      let all : entries_of known bytes size (front ++ sub i ∷ []) ≡ firsts id_of_entry A ++ if_new id_of_entry (is_known id_of_entry A a) a =
      ap (λ (xs : List ObjectEntry). firsts id_of_entry xs) arrays ∙ firsts-push id_of_entry A a in
      fill-known i a h adds all (is_known id_of_entry A a) refl (λ new_one. next ∙ next-where-new B id after_ids (there ∙ new_one))
      (λ is_next. sym there ∙ new-where-next B id after_ids (sym next ∙ is_next))

  pub fill-push : (i : Item) → IsFilledSoFar known bytes size front (ids_all i) old → FillsItem known bytes size i old new
      → IsFilledSoFar known bytes size (front ++ sub i ∷ []) (ids_all i) new
  fill-push (subs.Root kind id) h same_columns =
      let arrays : filter_map (entry_of known bytes size) (front ++ sub (subs.Root kind id) ∷ []) ≡ A =
      arrays-push known bytes size front at (subs.Root kind id) ∙ append-nil A in
      rw same_columns (record {
        bytes_are = h.bytes_are;
        size_is = h.size_is;
        ids_are = h.ids_are;
        rows_are = h.rows_are ∙ ap (λ (xs : List ObjectEntry). map row_of_entry (firsts id_of_entry xs)) (sym arrays);
        shapes_are = h.shapes_are ∙ ap (λ (xs : List ObjectEntry). map shape_of_entry (firsts id_of_entry xs)) (sym arrays);
        filled = h.filled;
        few = omega (arith, h.few, weight-push front (sub (subs.Root kind id)));
      })
  fill-push (subs.Class c) h adds =
      fill-object (subs.Class c) (c.id, class_row bytes size c, ClassObject (static_bytes c.statics) (class_names c)) refl refl h adds
  fill-push (subs.Instance id class values) h adds =
      let k = fitting size values.len (known class) in
      fill-object (subs.Instance id class values) (instance_entry bytes size id class values k) refl
      (ap (λ (x : ℕ). Some x) (sym (id-of-instance bytes size id class values k))) h adds
  fill-push (ObjArray id class elements) h adds =
      fill-object (ObjArray id class elements) (id, array_row bytes size class elements, ObjectArray elements.len) refl refl h adds
  fill-push (PrimArray id element count) h adds =
      fill-object (PrimArray id element count) (id, [], PrimitiveArray element (count * element_len element)) refl refl h adds

-- there are no more shapes than sub-records
pub few-shapes : (known : KnownClasses) (bytes : List ℕ) (size : IdSize) (front : List Sub) (ids : List ℕ) (c : Columns)
    → IsFilledSoFar known bytes size front ids c → length c.shapes ≤ length front
few-shapes known bytes size front ids c h =
    omega (
      arith,
      ap (λ (ss : List ObjectShape). length ss) h.shapes_are,
      length-map (entries_of known bytes size front) shape_of_entry,
      firsts-le id_of_entry [] (filter_map (entry_of known bytes size) front),
      filter_map-le (entry_of known bytes size) front,
    )

-- a list is what stands before an index, what stands there, and what stands after it
pub split-at-index : (list : List Sub) (i : ℕ) (s : Sub) → slice_get list i ≡ Some s → list ≡ take i list ++ s ∷ drop (i + 1) list
split-at-index list i s is = sym (take-append-drop (i + 1) list) ∙ ap (λ (xs : List Sub). xs ++ drop (i + 1) list) (take-next list i s is)
    ∙ append_assoc (take i list) (s ∷ []) (drop (i + 1) list)

pub fill-next : (known : KnownClasses) (bytes : List ℕ) (size : IdSize) (list : List Sub) (i : ℕ) (s : Sub) → slice_get list i ≡ Some s → (old new : Columns)
    → IsFilledSoFar known bytes size (take i list) (object_ids list) old → FillsItem known old.table.bytes old.table.size s.item old new
    → IsFilledSoFar known bytes size (take (i + 1) list) (object_ids list) new
fill-next known bytes size list i s is old new h fills =
    let whole : object_ids list ≡ object_ids (take i list ++ s ∷ drop (i + 1) list) = ap object_ids (split-at-index list i s is) in
    let old_so_far : IsFilledSoFar known bytes size (take i list) (object_ids (take i list ++ s ∷ drop (i + 1) list)) old =
    subst (λ (ids : List ℕ). IsFilledSoFar known bytes size (take i list) ids old) whole h in
    let filled : FillsItem known bytes size s.item old new =
    subst (λ (n : IdSize). FillsItem known bytes n s.item old new) h.size_is
    (subst (λ (bs : List ℕ). FillsItem known bs old.table.size s.item old new) h.bytes_are fills) in
    let new_so_far = fill-push known bytes size (take i list) s.offset (drop (i + 1) list) old new s.item old_so_far filled in
    subst (λ (ids : List ℕ). IsFilledSoFar known bytes size (take (i + 1) list) ids new) (sym whole)
    (subst (λ (front : List Sub). IsFilledSoFar known bytes size front (object_ids (take i list ++ s ∷ drop (i + 1) list)) new)
    (sym (take-next list i s is)) new_so_far)

-- what stands before an index and at it weighs no more than all
pub weight-at : (list : List Sub) (i : ℕ) (s : Sub) → slice_get list i ≡ Some s → weight (take i list) + item_weight s.item ≤ weight list
weight-at list i s is =
    omega (
      arith,
      sum_by-append (λ (x : Sub). item_weight x.item) (take (i + 1) list) (drop (i + 1) list),
      ap weight (take-append-drop (i + 1) list),
      ap weight
          (take-next list i s is),
      weight-push (take i list) s,
    )

-- of `count` IDs that stand one after another the first were added, and those that are left lie from an offset on
pub record AreIdsPushed (first : Table) (start count i : ℕ) (now : Table) (offset : ℕ) : Type 0 where
  pub table : now ≡ record first { filling = now.filling; count = first.count + i }
  pub ids : now.filling ++ ids_in (id_len first.size) (count - i) (drop offset first.bytes) ≡ first.filling
      ++ ids_in (id_len first.size) count (drop start first.bytes)
  pub room : offset + id_len first.size * (count - i) ≤ length first.bytes

room-step : (size : IdSize) (i count offset n : ℕ) → i < count → offset + id_len size * (count - i) ≤ n
    → offset + id_len size + id_len size * (count - (i + 1)) ≤ n
room-step sizes.Four i count offset n lt h = omega arith
room-step sizes.Eight i count offset n lt h = omega arith

module _ (first : Table) (start count i : ℕ) (now : Table) (offset : ℕ) (h : AreIdsPushed first start count i now offset) where
  pushed-over : IsOver first now
  pushed-over = record { bytes = ap (λ (t : Table). t.bytes) h.table; size = ap (λ (t : Table). t.size) h.table; ids = ap (λ (t : Table). t.ids) h.table }

  -- one ID fewer is left
  pub id-pushed : (next : Table) → i < count → next ≡ record now { filling = now.filling ++ id_at now.bytes now.size offset ∷ []; count = now.count + 1 }
      → AreIdsPushed first start count (i + 1) next (offset + id_len first.size)
  id-pushed next lt pushed =
      let n = id_len first.size in
      let left = count - (i + 1) in
      let id = id_at first.bytes first.size offset in
      let filling = now.filling ++ id ∷ [] in
      let to_next : next ≡ record now { filling = filling; count = now.count + 1 } =
      over-same (λ (bytes : List ℕ) (size : IdSize). next ≡ record now { filling = now.filling ++ id_at bytes size offset ∷ []; count = now.count + 1 }) first
      now pushed-over pushed in
      let filled : next.filling ≡ filling = ap (λ (t : Table). t.filling) to_next in
      let more : count - i ≡ suc left = omega arith in
      record {
        table = to_next
            ∙ ap (λ (t : Table). record t { filling = filling; count = t.count + 1 }) h.table
            ∙ ap (λ (k : ℕ). record first { filling = filling; count = k }) (omega arith)
            ∙ ap (λ (f : List ℕ). record first { filling = f; count = first.count + (i + 1) }) (sym filled);
        ids = ap (λ (f : List ℕ). f ++ ids_in n left (drop (offset + n) first.bytes)) filled
            ∙ ap (λ (xs : List ℕ). filling ++ ids_in n left xs) (sym (drop-drop n offset first.bytes))
            ∙ append_assoc now.filling (id ∷ []) (ids_in n left (drop n (drop offset first.bytes)))
            ∙ ap (λ (k : ℕ). now.filling ++ ids_in n k (drop offset first.bytes)) (sym more)
            ∙ h.ids;
        room = room-step first.size i count offset (length first.bytes) lt h.room;
      }
