-- Joining what was made of the parts of the sub-records: the parts so far are numbered as one front of the list, up to where the next
-- part begins, and at the end that is the whole list.
use Rattle.std.proofs.Common.{◌≡◌, ◌∙◌, ℕ, suc, ◌+◌, ◌-◌, ◌*◌, ◌/◌, ◌<◌, ◌≤◌, inl, inr, refl, sym, ap, subst, arith, All}
use Rattle.std.proofs.Common.{Bool, true, false, true≢false, List, [], ◌∷◌, ◌++◌, length, take, drop, get_or, Ok, Err}
use Rattle.std.specs.Prelude.{IfOk, not}
use Rattle.std.specs.List.{filter_map}
use Rattle.std.proofs.Math.Nat.{div-le_self, div-mul-le_self, mul-div_left}
use Rattle.std.proofs.lemmas.Nat.{le-div, mul-le}
use Rattle.std.proofs.lemmas.List.{length-map, take_all, flat_map_more, length_push}
use Rattle.std.proofs.lemmas.List.Elements.{All-nil, All-push}
use Rattle.std.proofs.lemmas.List.Sums.{sum_by_push}
use Rattle.hd_terms.specs.declared.IdSize.{IdSize}
use Rattle.hd_terms.specs.declared.errors.ReadFault.{ReadFault}
use Rattle.hd_terms.specs.SubRecords.{Sub}
use Rattle.hd_terms.specs.Classes.{KnownClasses}
use Rattle.hd_shapes.specs.PackedShapes.{ShapeLists}
use Rattle.hd_shapes.specs.JoinedShapes.{joined_objects}
use Rattle.hd_slots.specs.Table.{Table}
use Rattle.hd_slots.specs.JoinedInside.{joined_table, first_table, rows_made, IsOfFile}
use Rattle.hd_classes.proofs.FirstLemmas.{filter_map-le}
use Rattle.hd_graph.specs.declared.number.NumberedStretch.{NumberedStretch}
use Rattle.hd_graph.specs.declared.stretch.MadeStretch.{MadeStretch}
use Rattle.hd_graph.specs.ArrayRows.{entry_of, AreWithin}
use Rattle.hd_graph.specs.Building.{HasAllRows, HasAllShapes}
use Rattle.hd_graph.specs.Made.{Answer, IsMade, IsPart, Joins, IsFirstFaultOrMemory, CanBeJoined, cut, part_of}
use Rattle.hd_graph.specs.Numbering.{IsNumbered, IsObjectFaultOrMemory, HaveRoom}
use Rattle.hd_graph.proofs.NumberLemmas.{repeated-le, opaque-le}
use Rattle.hd_graph.proofs.RowLemmas.{row_of_entry}
use Rattle.hd_graph.proofs.JoinLemmas.{numbered-join}
use Rattle.hd_graph.proofs.OpenLemmas.{length-le-weight}
use Rattle.hd_graph.proofs.AllRowLemmas.{adjacent, all-both, shapes-both, few-all-shapes}

-- the rows of parts, over no IDs
abbrev table_of : List ℕ → IdSize → List Table → Table
table_of bytes size tables = record (joined_table tables) { bytes = bytes; size = size; ids = [] }

-- these are the numbers, the rows and the shapes of the objects of sub-records, rows and shapes in parts
pub record IsJoined (known : KnownClasses) (bytes : List ℕ) (size : IdSize) (list : List Sub) (n : NumberedStretch) (tables : List Table)
    (lists : List ShapeLists) : Type 0 where
  pub numbers : IsNumbered known size list n.ids n.roots.items n.tally
  pub file : All (IsOfFile (table_of bytes size [])) tables
  pub rows : HasAllRows known bytes size list (table_of bytes size tables)
  pub shapes : HasAllShapes known size list (joined_objects lists)
  pub as_many : length lists ≡ length tables

-- where parts begin
module _ {X : Type 0} (parts : ℕ) (some : 0 < parts) (list : List X) where
  pub cut-first : cut parts 0 list ≡ 0
  cut-first = omega (arith, div-le_self (length list * 0) parts)

  pub cut-rising : (i j : ℕ) → i ≤ j → cut parts i list ≤ cut parts j list
  cut-rising i j le =
      let below = mul-le (length list) i (length list) j (omega arith) le in
      le-div (length list * i / parts) (length list * j) parts some (omega (arith, below, div-mul-le_self (length list * i) parts))

  pub cut-last : cut parts parts list ≡ length list
  cut-last = mul-div_left (length list) some

  pub cut-within : (i : ℕ) → i ≤ parts → cut parts i list ≤ length list
  cut-within i le = omega (arith, cut-rising i parts le, cut-last)

apart-none : (b : Bool) → not b ≡ true → b ≡ false
apart-none true e = absurd (true≢false (sym e))
apart-none false e = refl

pub if-ok : (part : Answer) (P : MadeStretch → Type 0) → ((made : MadeStretch) → part ≡ Ok made → P made) → IfOk part P
if-ok (Ok made) P h = h made refl
if-ok (Err f) P h = tt

module _ (known : KnownClasses) (bytes : List ℕ) (size : IdSize) (list : List Sub) (parts : ℕ) where
  -- some parts are joined, up to where the next begins, and these are the answers for the others
  pub record IsJoining (rest : List Answer) (n : NumberedStretch) (tables : List Table) (lists : List ShapeLists) : Type 0 where
    pub joined : IsJoined known bytes size (take (cut parts (length tables) list) list) n tables lists
    pub left : (k : ℕ) (d : Answer) → k < length rest → IsPart known bytes size list parts (length tables + k) (get_or rest k d)
    pub all : length tables + length rest ≡ parts

  none-numbered : IsNumbered known size [] [] [] (record { repeated = 0; opaque = 0 })
  none-numbered =
      let none = All-nil (λ id. 0 < id) in
      record { ids_are = refl; known_ids = λ id. refl; repeated_is = refl; opaque_is = refl; roots_are = refl; no_null = none; no_fault = refl }

  -- no part is joined yet
  pub none-joined : (rest : List Answer) (n : NumberedStretch) → 0 < parts → length rest ≡ parts
      → ((k : ℕ) (d : Answer) → k < parts → IsPart known bytes size list parts k (get_or rest k d))
      → n.ids ≡ [] → n.roots.items ≡ [] → n.tally ≡ record { repeated = 0; opaque = 0 } → IsJoining rest n [] []
  none-joined rest n some many each ids roots tally = record {
    joined = subst (λ (m : ℕ). IsJoined known bytes size (take m list) n [] []) (sym (cut-first parts some list)) (record {
      numbers = rw (ids, roots, tally) none-numbered;
      file = All-nil (IsOfFile (table_of bytes size []));
      rows = record { bytes_are = refl; size_is = refl; ids_are = refl; rows_are = refl; filled = refl; few = omega arith };
      shapes = refl;
      as_many = refl;
    });
    left = λ k d lt. subst (λ (m : ℕ). IsPart known bytes size list parts m (get_or rest k d)) (omega arith) (each k d (omega (arith, lt, many)));
    all = omega (arith, many);
  }

-- the next answer
module _ {known : KnownClasses} {bytes : List ℕ} {size : IdSize} {list : List Sub} {parts : ℕ} {rest rs : List Answer} {part : Answer}
    {n : NumberedStretch} {tables : List Table} {lists : List ShapeLists}
    (h : IsJoining known bytes size list parts rest n tables lists) (next : rest ≡ part ∷ rs) where
  abbrev i : ℕ
  i = length tables

  more : length rest ≡ suc (length rs)
  more = ap (λ (xs : List Answer). length xs) next

  some : 0 < parts
  some = omega (arith, h.all, more)

  part-is : IsPart known bytes size list parts i part
  part-is =
      subst (λ (m : ℕ). IsPart known bytes size list parts m part) (omega arith)
      (subst (λ (xs : List Answer). IsPart known bytes size list parts (i + 0) (get_or xs 0 part)) next (h.left 0 part (omega (arith, more))))

  made-is : (made : MadeStretch) → part ≡ Ok made → IsMade known bytes size (part_of parts i list) made
  made-is made is = subst (IsPart known bytes size list parts i) is part-is

  -- no more are repeated or opaque than there are sub-records
  pub have-room : AreWithin size bytes list → IfOk part (λ made. HaveRoom n.tally made.numbers.tally)
  have-room within = if-ok part (λ made. HaveRoom n.tally made.numbers.tally)
      (λ made is.
      let numbers = (made-is made is).numbers in
      let begin = cut-within parts some list i (omega (arith, h.all)) in
      let end = cut-within parts some list (i + 1) (omega (arith, h.all, more)) in
      let few = length-le-weight list in
      let first = cut parts i list in
      let before = h.joined.numbers in
      let rest = drop first list in
      let len = cut parts (i + 1) list - first in
      record {
        repeated = omega (arith, begin, end, few, within.few, repeated-le known size list first _ _ _ before, repeated-le known size rest len _ _ _ numbers);
        opaque = omega (arith, begin, end, few, within.few, opaque-le known size list first _ _ _ before, opaque-le known size rest len _ _ _ numbers);
      })

  -- the fault of the first part is the first of all
  pub first-fault : (f : ReadFault) → IsFirstFaultOrMemory part tables f → IsObjectFaultOrMemory known size list f
  first-fault f (inl memory) = inl memory
  first-fault f (inr is) =
      let begin : cut parts i list ≡ 0 = ap (λ (ts : List Table). cut parts (length ts) list) is.0 ∙ cut-first parts some list in
      subst (λ (m : ℕ). IsObjectFaultOrMemory known size (drop m list) f) begin (subst (IsPart known bytes size list parts i) is.1 part-is)

  -- one more part is joined
  module _ {all : NumberedStretch} {tables' : List Table} {lists' : List ShapeLists} (joins : Joins part n tables lists all tables' lists') where
    abbrev t : Table
    t = joins.made.rows.slot_table

    abbrev front : List Sub
    front = take (cut parts i list) list

    abbrev back : List Sub
    back = part_of parts i list

    made : IsMade known bytes size back joins.made
    made = made-is joins.made joins.is

    numbers : IsNumbered known size (front ++ back) all.ids all.roots.items all.tally
    numbers =
        rw (joins.numbers.ids_are, joins.numbers.roots_are, joins.numbers.tally_is)
        (numbered-join known size front back _ _ _ _ _ _ h.joined.numbers made.numbers (apart-none _ joins.numbers.apart))

    file : All (IsOfFile (table_of bytes size [])) (tables ++ t ∷ [])
    file =
        let r = made.rows in
        let one : IsOfFile (table_of bytes size []) t = record { bytes_are = r.bytes_are; size_is = r.size_is; ids_are = r.ids_are; filled = r.filled } in
        All-push (IsOfFile (table_of bytes size [])) tables t h.joined.file one

    rows : HasAllRows known bytes size (front ++ back) (table_of bytes size (tables ++ t ∷ []))
    rows =
        let b = all-both known bytes size front back (table_of bytes size tables) t h.joined.rows made.rows in
        let all_rows = sym (flat_map_more (λ (x : Table). x.rows) [] tables t) ∙ b.rows_are in
        let few = sum_by_push (λ (x : Table). x.count) tables t in
        record { bytes_are = refl; size_is = refl; ids_are = refl; rows_are = all_rows; filled = refl; few = omega (arith, b.few, few) }

    shapes : HasAllShapes known size (front ++ back) (joined_objects lists')
    shapes =
        ap joined_objects joins.lists_are
        ∙ sym (flat_map_more (λ (x : ShapeLists). x.objects) [] lists joins.made.rows.shapes)
        ∙ shapes-both known size front back (joined_objects lists) joins.made.rows.shapes.objects h.joined.shapes made.shapes

    many : length tables' ≡ i + 1
    many = ap (λ (ts : List Table). length ts) joins.tables_are ∙ length_push tables t

    as_many : length lists' ≡ length tables'
    as_many = omega (arith, many, h.joined.as_many, ap (λ (xs : List ShapeLists). length xs) joins.lists_are, length_push lists joins.made.rows.shapes)

    both : IsJoined known bytes size (front ++ back) all tables' lists'
    both = record { numbers = numbers; file = rw joins.tables_are file; rows = rw joins.tables_are rows; shapes = shapes; as_many = as_many }

    pub next-joined : IsJoining known bytes size list parts rs all tables' lists'
    next-joined = record {
      joined = subst (λ (m : ℕ). IsJoined known bytes size (take (cut parts m list) list) all tables' lists') (sym many)
          (subst (λ (xs : List Sub). IsJoined known bytes size xs all tables' lists')
          (adjacent list (cut parts i list) (cut parts (i + 1) list) (cut-rising parts some list i (i + 1) (omega arith)))
          both);
      left = λ k d lt.
          let there = h.left (suc k) d (omega (arith, lt, more)) in
          subst (λ (m : ℕ). IsPart known bytes size list parts m (get_or rs k d)) (omega (arith, many))
          (subst (λ (xs : List Answer). IsPart known bytes size list parts (i + suc k) (get_or xs (suc k) d)) next there);
      all = omega (arith, h.all, more, many);
    }

-- all parts are joined
module _ {known : KnownClasses} {bytes : List ℕ} {size : IdSize} {list : List Sub} {parts : ℕ} {rest : List Answer} {n : NumberedStretch}
    {tables : List Table} {lists : List ShapeLists}
    (h : IsJoining known bytes size list parts rest n tables lists) (some : 1 ≤ parts) (none : length rest ≡ 0) where
  as-many : length tables ≡ parts
  as-many = omega (arith, h.all, none)

  pub all-joined : IsJoined known bytes size list n tables lists
  all-joined =
      subst (λ (xs : List Sub). IsJoined known bytes size xs n tables lists)
      (take_all (cut parts (length tables) list) list (omega (arith, cut-last parts some list, ap (λ (m : ℕ). cut parts m list) as-many)))
      h.joined

  first : IsOfFile (table_of bytes size []) (first_table tables)
  first = all-joined.file 0 (first_table []) (omega (arith, some, as-many))

  few-rows : length (rows_made tables) ≤ length list
  few-rows =
      let entries = filter_map (entry_of known bytes size) list in
      let same = ap (λ (rs : List (List ℕ)). length rs) all-joined.rows.rows_are in
      omega (arith, same, length-map entries row_of_entry, filter_map-le (entry_of known bytes size) list)

  -- they are of one file
  pub all-parts : parts ≤ 16 → AreWithin size bytes list → CanBeJoined tables lists
  all-parts few within =
      let short = length-le-weight list in
      record {
        file = record {
          some = omega (arith, some, as-many);
          few_parts = omega (arith, few, as-many);
          few_rows = omega (arith, few-rows, short, within.few);
          file = λ k d lt.
              let t = all-joined.file k d lt in
              let f = first in
              record { bytes_are = t.bytes_are ∙ sym f.bytes_are; size_is = t.size_is ∙ sym f.size_is; ids_are = t.ids_are ∙ sym f.ids_are; filled = t.filled };
        };
        as_many = all-joined.as_many;
        few_shapes = omega (arith, few-all-shapes known size list (joined_objects lists) all-joined.shapes, short, within.few);
      }

  pub all-rows : HasAllRows known bytes size list (joined_table tables)
  all-rows =
      let r = all-joined.rows in
      record { bytes_are = first.bytes_are; size_is = first.size_is; ids_are = first.ids_are; rows_are = r.rows_are; filled = refl; few = r.few }
