-- What opening a file comes to: its dump, or its fault.
use Rattle.std.proofs.Common.{◌≡◌, ◌∙◌, ℕ, suc, ◌+◌, ◌<◌, ◌≤◌, ◌^◌, inl, inr, List, [], ◌∷◌, ◌++◌, length, map, Some, refl, sym, ap, subst, arith, All}
use Rattle.std.specs.List.{AllZip, filter, filter_map, slice_get}
use Rattle.std.proofs.lemmas.List.{length-map}
use Rattle.hd_terms.specs.declared.IdSize.{IdSize}
use Rattle.hd_terms.specs.declared.IdSize.TheVariants as sizes
use Rattle.hd_terms.specs.declared.Span.{Span}
use Rattle.hd_terms.specs.declared.Text.{Text}
use Rattle.hd_terms.specs.declared.Load.{Load}
use Rattle.hd_terms.specs.declared.errors.ReadFault.{ReadFault}
use Rattle.hd_terms.specs.Records.{Record, header_len, segment_spans, is_segment, texts, loads}
use Rattle.hd_terms.specs.SubRecords.{SubRecord, Sub, Item, ObjArray, PrimArray, AreSubRecords, AreDumpSubRecords, dump_subs_at}
use Rattle.hd_terms.specs.SubRecords as subs
use Rattle.hd_terms.specs.FirstRecords.{object_sub, first_subs, repeats}
use Rattle.hd_terms.specs.Classes.{ClassTable, class_table, class_of_item, resolved_class, KnownClasses}
use Rattle.hd_terms.specs.HeapFaults.{class_faults, object_faults}
use Rattle.hd_terms.specs.Roots.{roots_of}
use Rattle.hd_terms.specs.Dump.{Object, Root, Repeated, NamedClass}
use Rattle.hd_terms.specs.declared.Mode.{Mode}
use Rattle.hd_terms.specs.Objects.{classes_of, object_of, objects_of, opaque_in, names_of, dump_of, ReadsAs, IsDumpOf, IsNamelessDumpOf, repeated_of}
use Rattle.hd_terms.specs.ReadFaults.{in_records, in_sub_records, in_classes, in_objects, IsSubRecordsFault, IsSegmentFault}
use Rattle.hd_records.specs.Reading.{ReadsRecords, IsRecordsFaultOrMemory}
use Rattle.hd_classes.specs.Known.{Known, known_at, name_at, AreClassesOf, IsClassFaultOrMemory, IsTextWithin}
use Rattle.hd_graph.specs.declared.graph.StoredRoot.{StoredRoot}
use Rattle.hd_graph.specs.declared.number.Tally.{Tally}
use Rattle.hd_graph.specs.GraphInside.{root_of_row}
use Rattle.hd_slots.specs.Table.{Table}
use Rattle.hd_classes.specs.Firsts.{firsts}
use Rattle.hd_shapes.specs.Shapes.{ObjectShape}
use Rattle.hd_graph.specs.Shapes.{IsSmall, AreColumns, row_objects, HasShape}
use Rattle.hd_graph.specs.ArrayRows.{ObjectEntry, object_id, entry_of, entries_of, weight, item_weight, AreWithin, root_of_item, roots_in}
use Rattle.hd_terms.specs.Classes.{bytes_of_span}
use Rattle.hd_decode.specs.Bodies.{AreBodies, ReadsBodies, IsBodiesFault, IsBodiesFaultOrMemory}
use Rattle.hd_graph.specs.Numbering.{IsNumbered, IsObjectFaultOrMemory}
use Rattle.hd_graph.specs.Building.{Columns, HasRowsOf, IsReadFaultOrMemory, AreFewAndShort}
use Rattle.hd_classes.proofs.FirstLemmas.{firsts-map, first_of_each-firsts, firsts-le, filter_map-le}
use Rattle.hd_graph.proofs.NumberLemmas.{sub_key, object_subs, standing-firsts}
use Rattle.hd_graph.proofs.RowLemmas.{id_of_entry, row_of_entry, shape_of_entry, ids-of-entries}
use Rattle.hd_decode.proofs.SpanLemmas.{IsBodyAt, bodies_of_records}
use Rattle.hd_decode.proofs.Spans as spans_of
use Rattle.hd_graph.proofs.TextLemmas.{texts-in-file}
use Rattle.hd_graph.proofs.ArrayRowLemmas.{object_of_entry}
use Rattle.hd_graph.proofs.DumpLemmas.{all_of, objects_in, roots_all, within_all, weight_all, weight-cons, row_objects-entries}
use Rattle.hd_graph.proofs.SmallLemmas.{shapes-small, shapes-fit}
use Rattle.hd_classes.specs.Names.{first_names}
use Rattle.hd_classes.specs.Naming.{named_classes_of}
use Rattle.hd_classes.proofs.RepeatLemmas.{repeats-map}
use Rattle.hd_classes.proofs.ClassNameLemmas.{first-names, names-in-file}

-- functions of one value everywhere are one
fun_ext : {A B : Type 0} {f g : A → B} → ((x : A) → f x ≡ g x) → f ≡ g
fun_ext h = λ i x. h x i

abbrev same : ℕ → ℕ
same id = id

item-heavy : (i : Item) → 1 ≤ item_weight i
item-heavy (subs.Root kind id) = omega arith
item-heavy (subs.Class c) = omega arith
item-heavy (subs.Instance id class values) = omega arith
item-heavy (ObjArray id class elements) = omega arith
item-heavy (PrimArray id element count) = omega arith

no_table : ClassTable
no_table = record { bytes = []; texts = []; loads = []; classes = [] }

-- each sub-record weighs something
pub length-le-weight : (list : List Sub) → length list ≤ weight list
length-le-weight [] = omega arith
length-le-weight (s ∷ list) = omega (arith, length-le-weight list, item-heavy s.item, weight-cons no_table [] sizes.Four s list)

module _ (bytes : List ℕ) (size : IdSize) (strings : List Text) (classes : List Load) (spans : List Span)
    (r : ReadsRecords bytes size strings classes spans) where
  -- the segments lie where they are said to
  unresolved : AllZip (IsBodyAt bytes) spans (filter is_segment r.records)
  unresolved = spans_of.located bytes size strings classes spans r

  -- so do the texts
  pub texts-within : All (IsTextWithin (length bytes)) strings
  texts-within = subst (All (IsTextWithin (length bytes))) (sym r.strings_are)
      (texts-in-file bytes size r.header.fits header_len r.records r.whole.whole r.whole.each)

  -- a fault of the sub-records
  split-records : (before : List Span) (span : Span) (after : List Span) (rs : List Record) (segments : List (List SubRecord))
      → AllZip (IsBodyAt bytes) (before ++ span ∷ after) rs → AreBodies size bytes before segments
      → (whole : List Record) × (here : Record) × (rest : List Record) × (rs ≡ whole ++ here ∷ rest)
      × AllZip (λ (w : Record) (subs : List SubRecord). AreSubRecords size w.body subs) whole segments × (length whole ≡ length before)
      × (bytes_of_span bytes span ≡ here.body)
  split-records [] span after [] segments zipped bodies = absurd zipped
  split-records [] span after (x ∷ rs) [] zipped bodies = ([], x, rs, refl, tt, refl, zipped.0.body)
  split-records [] span after (x ∷ rs) (s ∷ segments) zipped bodies = absurd bodies
  split-records (p ∷ before) span after [] segments zipped bodies = absurd zipped
  split-records (p ∷ before) span after (x ∷ rs) [] zipped bodies = absurd bodies
  split-records (p ∷ before) span after (x ∷ rs) (s ∷ segments) zipped bodies =
      let more = split-records before span after rs segments zipped.1 bodies.1 in (
        x ∷ more.0,
        more.1,
        more.2,
        ap (λ (xs : List Record). x ∷ xs) more.3,
        (subst (λ (body : List ℕ). AreSubRecords size body s) zipped.0.body bodies.0, more.4),
        ap suc more.5,
        more.6,
      )

  slice_get-middle : {X : Type 0} (xs : List X) (y : X) (ys : List X) → slice_get (xs ++ y ∷ ys) (length xs) ≡ Some y
  slice_get-middle [] y ys = refl
  slice_get-middle (x ∷ xs) y ys = slice_get-middle xs y ys

  sub_records_fault : (f : ReadFault) → IsBodiesFault size bytes spans f → IsSubRecordsFault size r.records f
  sub_records_fault f h =
      let zipped : AllZip (IsBodyAt bytes) (h.before ++ h.span ∷ h.after) (filter is_segment r.records) =
      subst (λ (ss : List Span). AllZip (IsBodyAt bytes) ss (filter is_segment r.records)) h.spans_are unresolved in
      let parts = split-records h.before h.span h.after (filter is_segment r.records) h.segments zipped h.whole in
      record {
        whole = parts.0;
        r = parts.1;
        after = parts.2;
        segments = h.segments;
        span = h.span;
        first = parts.3;
        before = parts.4;
        at = ap (λ (ss : List Span). slice_get ss (length parts.0)) (sym r.spans ∙ h.spans_are)
            ∙ ap (λ (n : ℕ). slice_get (h.before ++ h.span ∷ h.after) n) parts.5 ∙ slice_get-middle h.before h.span h.after;
        faulty = subst (λ (body : List ℕ). IsSegmentFault size h.span.start body f) parts.6 h.faulty;
      }

  pub bodies-fault : (f : ReadFault) → IsBodiesFaultOrMemory size bytes spans f → IsReadFaultOrMemory bytes f
  bodies-fault f (inl memory) = inl memory
  bodies-fault f (inr h) = inr (in_sub_records size r.records r.header r.whole (sub_records_fault f h))

  module _ (list : List Sub) (b : ReadsBodies size bytes spans list) where
    dump_bodies : AreDumpSubRecords size r.records b.segments
    dump_bodies = bodies_of_records bytes size spans (filter is_segment r.records) b.segments unresolved b.whole

    list_of_records : list ≡ dump_subs_at size (segment_spans header_len r.records) b.segments
    list_of_records = b.list_is ∙ ap (λ (ss : List Span). dump_subs_at size ss b.segments) r.spans

    pub list-within : AreWithin size bytes list
    list-within = rw b.list_is (record {
      each = within_all no_table bytes size spans b.segments b.whole;
      few = omega (arith, weight_all no_table bytes size spans b.segments b.whole, spans_of.spans-few bytes size strings classes spans r);
    })

    -- the classes of the file
    abbrev table : ClassTable
    table = class_table bytes strings classes list

    abbrev pub real : ClassTable
    real = classes_of bytes size r.records b.segments

    abbrev placed : List Sub
    placed = dump_subs_at size (segment_spans header_len r.records) b.segments

    table-is : table ≡ real
    table-is =
        ap (λ (xs : List Text). class_table bytes xs classes list) r.strings_are
        ∙ ap (λ (ls : List Load). class_table bytes (texts size r.records) ls list) r.loads_are
        ∙ ap (λ (l : List Sub). class_table bytes (texts size r.records) (loads size r.records) l) list_of_records

    faults-are : class_faults table list ≡ class_faults real placed
    faults-are = ap (λ (t : ClassTable). class_faults t list) table-is ∙ ap (class_faults real) list_of_records

    -- a class whose chain never ends
    pub class-fault : (f : ReadFault) → IsClassFaultOrMemory table list f → IsReadFaultOrMemory bytes f
    class-fault f (inl out_of_memory_reply) = inl out_of_memory_reply
    class-fault f (inr h) = inr
        (in_classes size r.records b.segments r.header r.whole dump_bodies (ap (λ (fs : List ReadFault). slice_get fs 0) (sym faults-are) ∙ h))

    module _ (k : Known) (h : AreClassesOf table k) (no_cycle : class_faults table list ≡ []) where
      abbrev known : KnownClasses
      known = known_at k

      known-is : known ≡ resolved_class real
      known-is = fun_ext h.known ∙ ap (λ (t : ClassTable). resolved_class t) table-is

      few-classes : length k.classes ≤ length list
      few-classes =
          omega (
            arith,
            h.few,
            filter_map-le (λ (p : ℕ × Sub). class_of_item p.1.item) (first_subs list),
            ap (λ (xs : List (ℕ × Sub)). length xs) (standing-firsts list),
            firsts-le sub_key [] (object_subs list),
            filter_map-le object_sub list,
          )

      -- the names of classes lie in the file
      pub names-within : (id : ℕ) (span : Span) → name_at k id ≡ Some span → span.start + span.len ≤ length bytes
      names-within = names-in-file table k h (length bytes) texts-within

      pub few-and-short : AreFewAndShort k
      few-and-short = record { few = omega (arith, few-classes, length-le-weight list, list-within.few); short = h.short }

      no-cycle : class_faults real placed ≡ []
      no-cycle = sym faults-are ∙ no_cycle

      object-faults-are : object_faults known size list ≡ object_faults (resolved_class real) size placed
      object-faults-are = ap (λ (kn : KnownClasses). object_faults kn size list) known-is ∙ ap (object_faults (resolved_class real) size) list_of_records

      -- an object with ID 0, or one that doesn't fit
      pub object-fault : (f : ReadFault) → IsObjectFaultOrMemory known size list f → IsReadFaultOrMemory bytes f
      object-fault f (inl out_of_memory_reply) = inl out_of_memory_reply
      object-fault f (inr e) =
          inr (in_objects size r.records b.segments r.header r.whole dump_bodies no-cycle (ap (λ (fs : List ReadFault). slice_get fs 0) (sym object-faults-are)
          ∙ e))

      module _ (ids : List ℕ) (roots : List StoredRoot) (tally : Tally) (n : IsNumbered known size list ids roots tally) where
        short : length list ≤ weight list
        short = length-le-weight list

        pub few-ids : length ids < 2 ^ 31
        few-ids = omega (
          arith,
          ap (λ (xs : List ℕ). length xs) n.ids_are,
          firsts-le same []
              (filter_map object_id list),
          filter_map-le object_id list,
          short,
          list-within.few,
        )

        pub few-roots : length roots < 2 ^ 32
        few-roots = omega (
          arith,
          ap (λ (xs : List Root). length xs) n.roots_are,
          length-map roots root_of_row,
          filter_map-le
              (λ (s : Sub). root_of_item s.item) list,
          short,
          list-within.few,
        )

        module _ (c : Columns) (has : HasRowsOf known bytes size list c) where
          abbrev t : Table
          t = c.table

          abbrev entries : List ObjectEntry
          entries = entries_of known bytes size list

          ids_of_entries : t.ids ≡ map id_of_entry entries
          ids_of_entries = has.ids_are ∙ ap (λ (xs : List ℕ). firsts same xs) (ids-of-entries known bytes size list)
              ∙ firsts-map same id_of_entry (filter_map (entry_of known bytes size) list)

          as-many-rows : length t.rows ≡ length t.ids
          as-many-rows = ap (λ (xs : List (List ℕ)). length xs) has.rows_are ∙ length-map entries row_of_entry ∙ sym (length-map entries id_of_entry)
              ∙ ap (λ (xs : List ℕ). length xs) (sym ids_of_entries)

          as-many-shapes : length c.shapes ≡ length t.ids
          as-many-shapes = ap (λ (xs : List ObjectShape). length xs) has.shapes_are ∙ length-map entries shape_of_entry ∙ sym (length-map entries id_of_entry)
              ∙ ap (λ (xs : List ℕ). length xs) (sym ids_of_entries)

          pub whole-columns : AreColumns c.shapes t.ids t.rows
          whole-columns = record {
            rows = as-many-rows;
            shapes = as-many-shapes;
            fit = subst (λ (ss : List ObjectShape). AllZip HasShape ss t.rows) (sym has.shapes_are)
                (subst (λ (rs : List (List ℕ)). AllZip HasShape (map shape_of_entry entries) rs) (sym has.rows_are) (shapes-fit known bytes size list));
          }

          pub small-shapes : All IsSmall c.shapes
          small-shapes = rw has.shapes_are (shapes-small known bytes size r.header.fits list list-within)

          objects_are : row_objects c.shapes t.ids t.rows ≡ objects_of real size (all_of real bytes size b.segments)
          objects_are =
              ap (λ (xs : List ℕ). row_objects c.shapes xs t.rows) ids_of_entries
              ∙ ap (λ (xs : List (List ℕ)). row_objects c.shapes (map id_of_entry entries) xs) has.rows_are
              ∙ ap (λ (ss : List ObjectShape). row_objects ss (map id_of_entry entries) (map row_of_entry entries)) has.shapes_are
              ∙ row_objects-entries entries
              ∙ sym (firsts-map (λ (x : Object). x.id) object_of_entry (filter_map (entry_of known bytes size) list))
              ∙ ap (λ (xs : List Object). firsts (λ (x : Object). x.id) xs)
              (ap (λ (kn : KnownClasses). map object_of_entry (filter_map (entry_of kn bytes size) list)) known-is
              ∙ ap (λ (l : List Sub). map object_of_entry (filter_map (entry_of (resolved_class real) bytes size) l)) b.list_is
              ∙ objects_in real bytes size spans b.segments b.whole)
              ∙ sym (first_of_each-firsts (λ (x : Object). x.id) (filter_map (object_of real size) (all_of real bytes size b.segments)))

          roots_are : map root_of_row roots ≡ roots_of size (all_of real bytes size b.segments)
          roots_are = n.roots_are ∙ ap roots_in b.list_is ∙ roots_all real bytes size spans b.segments b.whole

          objects_again : tally.repeated ≡ repeats (λ (x : Object). x.id) (filter_map (object_of real size) (all_of real bytes size b.segments))
          objects_again =
              n.repeated_is ∙ ap (repeats same) (ids-of-entries known bytes size list)
              ∙ repeats-map same id_of_entry (filter_map (entry_of known bytes size) list)
              ∙ sym (repeats-map (λ (x : Object). x.id) object_of_entry (filter_map (entry_of known bytes size) list))
              ∙ ap (repeats (λ (x : Object). x.id)) (ap (λ (kn : KnownClasses). map object_of_entry (filter_map (entry_of kn bytes size) list)) known-is
              ∙ ap (λ (l : List Sub). map object_of_entry (filter_map (entry_of (resolved_class real) bytes size) l)) b.list_is
              ∙ objects_in real bytes size spans b.segments b.whole)

          opaque_are : tally.opaque ≡ opaque_in (resolved_class real) placed
          opaque_are = n.opaque_is ∙ ap (λ (kn : KnownClasses). opaque_in kn list) known-is ∙ ap (opaque_in (resolved_class real)) list_of_records

          -- what is repeated, and the names of classes
          module _ (mode : Mode) (names : List (ℕ × List ℕ)) (names_are : names ≡ first_names bytes k classes) (texts_again loads_again : ℕ)
              (texts_are : texts_again ≡ repeats (λ (x : Text). x.id) strings) (loads_are : loads_again ≡ repeats (λ (x : Load). x.class) classes) where
            abbrev again : Repeated
            again = record { objects = tally.repeated; strings = texts_again; loads = loads_again }

            again_is : again ≡ repeated_of real size r.records (all_of real bytes size b.segments)
            again_is =
                ap (λ (m : ℕ). record { objects = m; strings = texts_again; loads = loads_again }) objects_again
                ∙ ap (λ (m : ℕ). record {
                  objects = repeats (λ (x : Object). x.id) (filter_map (object_of real size) (all_of real bytes size b.segments));
                  strings = m;
                  loads = loads_again;
                }) (texts_are ∙ ap (repeats (λ (x : Text). x.id)) r.strings_are)
                ∙ ap (λ (m : ℕ). record {
                  objects = repeats (λ (x : Object). x.id) (filter_map (object_of real size) (all_of real bytes size b.segments));
                  strings = repeats (λ (x : Text). x.id) (texts size r.records);
                  loads = m;
                })
                (loads_are ∙ ap (repeats (λ (x : Load). x.class)) r.loads_are)

            class-names-are : names ≡ names_of real
            class-names-are = names_are ∙ first-names table k h ∙ ap names_of table-is

            -- all but the names that go with class objects
            shown-is : (cs : List NamedClass) → record {
              mode = mode;
              objects = row_objects c.shapes t.ids t.rows;
              roots = map root_of_row roots;
              repeated =
                  again;
              opaque = tally.opaque;
              names = names;
              classes = cs;
            }
                ≡ record (dump_of mode bytes size r.records b.segments) { classes = cs }
            shown-is cs =
                ap (λ (xs : List Object). record {
                  mode = mode;
                  objects = xs;
                  roots = map root_of_row roots;
                  repeated = again;
                  opaque = tally.opaque;
                  names =
                      names;
                  classes = cs;
                }) objects_are
                ∙ ap (λ (xs : List Root). record {
                  mode = mode;
                  objects = objects_of real size (all_of real bytes size b.segments);
                  roots = xs;
                  repeated =
                      again;
                  opaque = tally.opaque;
                  names = names;
                  classes = cs;
                }) roots_are
                ∙ ap (λ (x : Repeated). record {
                  mode = mode;
                  objects = objects_of real size (all_of real bytes size b.segments);
                  roots =
                      roots_of size (all_of real bytes size b.segments);
                  repeated = x;
                  opaque = tally.opaque;
                  names = names;
                  classes = cs;
                }) again_is
                ∙ ap (λ (m : ℕ). record {
                  mode = mode;
                  objects = objects_of real size (all_of real bytes size b.segments);
                  roots =
                      roots_of size (all_of real bytes size b.segments);
                  repeated = repeated_of real size r.records (all_of real bytes size b.segments);
                  opaque =
                      m;
                  names = names;
                  classes = cs;
                }) opaque_are
                ∙ ap (λ (ns : List (ℕ × List ℕ)). record {
                  mode = mode;
                  objects = objects_of real size (all_of real bytes size b.segments);
                  roots =
                      roots_of size (all_of real bytes size b.segments);
                  repeated = repeated_of real size r.records (all_of real bytes size b.segments);
                  opaque =
                      opaque_in (resolved_class real) placed;
                  names = ns;
                  classes = cs;
                }) class-names-are

            file-reads : ReadsAs bytes size r.records b.segments
            file-reads = record { header = r.header; whole = r.whole; bodies = dump_bodies; classes = no-cycle; objects = sym object-faults-are ∙ n.no_fault }

            pub opened : IsNamelessDumpOf mode bytes
                (record {
                  mode = mode;
                  objects = row_objects c.shapes t.ids t.rows;
                  roots = map root_of_row roots;
                  repeated = again;
                  opaque = tally.opaque;
                  names = names;
                  classes = [];
                })
            opened = record {
              named = dump_of mode bytes size r.records b.segments;
              is_dump = record { size = size; records = r.records; segments = b.segments; reads = file-reads; is = refl };
              is = shown-is [];
            }

            pub opened-named : IsDumpOf mode bytes
                (record {
                  mode = mode;
                  objects = row_objects c.shapes t.ids t.rows;
                  roots = map root_of_row roots;
                  repeated = again;
                  opaque = tally.opaque;
                  names = names;
                  classes = named_classes_of table;
                })
            opened-named = record {
              size = size;
              records = r.records;
              segments = b.segments;
              reads = file-reads;
              is = shown-is (named_classes_of table)
                  ∙ ap (λ (t : ClassTable). record (dump_of mode bytes size r.records b.segments) { classes = named_classes_of t }) table-is;
            }

pub records-fault : (bytes : List ℕ) (f : ReadFault) → IsRecordsFaultOrMemory bytes f → IsReadFaultOrMemory bytes f
records-fault bytes f (inl memory) = inl memory
records-fault bytes f (inr h) = inr (in_records h)
