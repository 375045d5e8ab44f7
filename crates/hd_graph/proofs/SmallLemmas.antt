-- The recorded bytes of a file's objects are no more than the file has, and their shapes fit their rows.
use Rattle.std.proofs.Common.{ℕ, refl, zero, suc, ◌<◌, ◌≤◌, List, [], ◌∷◌, ◌++◌, length, get_or, map, Bool, true, false, cond, arith, All}
use Rattle.std.specs.List.{filter_map, cons_option, AllZip}
use Rattle.std.proofs.lemmas.List.Elements.{All-nil, All-cons, All-head, All-tail, All-map}
use Rattle.hd_terms.specs.declared.IdSize.{IdSize}
use Rattle.hd_terms.specs.Records.{largest_file}
use Rattle.hd_terms.specs.SubRecords.{Sub, Item, ObjArray, PrimArray}
use Rattle.hd_terms.specs.SubRecords as subs
use Rattle.hd_terms.specs.Classes.{KnownClasses}
use Rattle.hd_shapes.specs.Shapes.{ObjectShape}
use Rattle.hd_classes.specs.Firsts.{firsts_from}
use Rattle.hd_graph.specs.Shapes.{IsSmall, HasShape}
use Rattle.hd_graph.specs.ArrayRows.{ObjectEntry, fitting, entry_of, entry_of_item, entries_of, IsItemWithin, IsSubWithin, AreWithin}
use Rattle.hd_classes.proofs.FirstLemmas.{is_known}
use Rattle.hd_graph.proofs.RowLemmas.{row_of_entry, shape_of_entry}
use Rattle.hd_graph.proofs.RisingLemmas.{class-names-many, class-names-rise}
use Rattle.hd_graph.proofs.InstanceLemmas.{instance-bytes, instance-fits}

-- the shape of a number
pub small-at : (shapes : List ObjectShape) (d : ObjectShape) (o : ℕ) → All IsSmall shapes → o < length shapes → IsSmall (get_or shapes o d)
small-at [] d o all lt = absurd (omega arith)
small-at (shape ∷ shapes) d zero all lt = All-head IsSmall shape shapes all
small-at (shape ∷ shapes) d (suc o) all lt = small-at shapes d o (All-tail IsSmall shape shapes all) (omega arith)

module _ (known : KnownClasses) (bytes : List ℕ) (size : IdSize) (fits : length bytes ≤ largest_file) where
  abbrev HasSmall : ObjectEntry → Type 0
  HasSmall a = IsSmall a.2

  item-small : (at : ℕ) (i : Item) (rest : List ObjectEntry) → IsItemWithin size bytes at i → All HasSmall rest
      → All HasSmall (cons_option (entry_of_item known bytes size i) rest)
  item-small at (subs.Root kind id) rest within all = all
  item-small at (subs.Class c) rest within all = All-cons HasSmall _ rest (omega (arith, within.0.bytes)) all
  item-small at (subs.Instance id class values) rest within all =
      All-cons HasSmall _ rest (omega (arith, within.0, instance-bytes bytes size id class values (known class) (fitting size values.len (known class)) refl))
      all
  item-small at (ObjArray id class elements) rest within all = All-cons HasSmall _ rest (omega (arith, within.0)) all
  item-small at (PrimArray id element count) rest within all = All-cons HasSmall _ rest (omega arith) all

  items-small : (list : List Sub) → All (IsSubWithin size bytes) list → All HasSmall (filter_map (entry_of known bytes size) list)
  items-small [] within = All-nil HasSmall
  items-small (s ∷ list) within =
      item-small s.offset s.item (filter_map (entry_of known bytes size) list) (All-head (IsSubWithin size bytes) s list within)
      (items-small list (All-tail (IsSubWithin size bytes) s list within))

  firsts-small : (key : ObjectEntry → ℕ) (before xs : List ObjectEntry) → All HasSmall xs → All HasSmall (firsts_from key before xs)
  firsts-small key before [] all = All-nil HasSmall
  firsts-small key before (x ∷ xs) all =
      by_known (is_known key before x) (firsts_from key (before ++ x ∷ []) xs) (firsts-small key (before ++ x ∷ []) xs (All-tail HasSmall x xs all))
    where
      by_known : (b : Bool) (rest : List ObjectEntry) → All HasSmall rest → All HasSmall (cond b rest (x ∷ rest))
      by_known true rest more = more
      by_known false rest more = All-cons HasSmall x rest (All-head HasSmall x xs all) more

  pub shapes-small : (list : List Sub) → AreWithin size bytes list → All IsSmall (map shape_of_entry (entries_of known bytes size list))
  shapes-small list within = All-map IsSmall shape_of_entry (entries_of known bytes size list)
      (firsts-small _ [] (filter_map (entry_of known bytes size) list) (items-small list within.each))

-- each object's shape fits its row
module _ (known : KnownClasses) (bytes : List ℕ) (size : IdSize) where
  abbrev Fits : ObjectEntry → Type 0
  Fits a = HasShape a.2 a.1

  item-fits : (i : Item) (rest : List ObjectEntry) → All Fits rest → All Fits (cons_option (entry_of_item known bytes size i) rest)
  item-fits (subs.Root kind id) rest all = all
  item-fits (subs.Class c) rest all = All-cons Fits _ rest (class-names-many bytes size c, class-names-rise c) all
  item-fits (subs.Instance id class values) rest all =
      All-cons Fits _ rest (instance-fits bytes size id class values (fitting size values.len (known class))) all
  item-fits (ObjArray id class elements) rest all = All-cons Fits _ rest tt all
  item-fits (PrimArray id element count) rest all = All-cons Fits _ rest tt all

  items-fit : (list : List Sub) → All Fits (filter_map (entry_of known bytes size) list)
  items-fit [] = All-nil Fits
  items-fit (s ∷ list) = item-fits s.item (filter_map (entry_of known bytes size) list) (items-fit list)

  firsts-fit : (key : ObjectEntry → ℕ) (before xs : List ObjectEntry) → All Fits xs → All Fits (firsts_from key before xs)
  firsts-fit key before [] all = All-nil Fits
  firsts-fit key before (x ∷ xs) all =
      by_known (is_known key before x) (firsts_from key (before ++ x ∷ []) xs) (firsts-fit key (before ++ x ∷ []) xs (All-tail Fits x xs all))
    where
      by_known : (b : Bool) (rest : List ObjectEntry) → All Fits rest → All Fits (cond b rest (x ∷ rest))
      by_known true rest more = more
      by_known false rest more = All-cons Fits x rest (All-head Fits x xs all) more

  zipped : (xs : List ObjectEntry) → All Fits xs → AllZip HasShape (map shape_of_entry xs) (map row_of_entry xs)
  zipped [] all = tt
  zipped (x ∷ xs) all = (All-head Fits x xs all, zipped xs (All-tail Fits x xs all))

  pub shapes-fit : (list : List Sub) → AllZip HasShape (map shape_of_entry (entries_of known bytes size list))
      (map row_of_entry (entries_of known bytes size list))
  shapes-fit list = zipped (entries_of known bytes size list) (firsts-fit _ [] (filter_map (entry_of known bytes size) list) (items-fit list))
