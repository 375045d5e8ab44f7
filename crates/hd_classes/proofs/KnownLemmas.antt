-- Lemmas on what is known of all classes.
use Rattle.std.proofs.Common.{◌≡◌, ◌∙◌, ◌⊎◌, inl, inr, ℕ, ◌+◌, ◌≤◌, List, [], ◌∷◌, ◌++◌, length, map, take, Option, Some, None, Bool, true, false, ◌||◌, cond}
use Rattle.std.proofs.Common.{eqb, eqb-true, refl, sym, ap, subst, arith}
use Rattle.std.specs.List.{filter_map, find, list_any, slice_get}
use Rattle.std.specs.Option.{option_map, option_and_then}
use Rattle.std.specs.Map.{lookup, keys_of, values_of}
use Rattle.std.proofs.lemmas.Bool.{or_parts}
use Rattle.std.proofs.lemmas.Cmp.{nat_eq_equiv}
use Rattle.std.proofs.lemmas.List.{take_all}
use Rattle.std.proofs.lemmas.List.Folds.{list_any-append}
use Rattle.std.proofs.lemmas.Map.Made.{is_some-lookup, length-le_from_is_member}
use Rattle.std.proofs.lemmas.Option.{slice_get-map}
use Rattle.hd_terms.specs.declared.errors.Cause.TheVariants as causes
use Rattle.hd_terms.specs.declared.errors.ReadFault.{ReadFault}
use Rattle.hd_terms.specs.declared.Load.{Load}
use Rattle.hd_terms.specs.ReadFaults.{fault}
use Rattle.hd_terms.specs.SubRecords.{ClassItem, Sub}
use Rattle.hd_terms.specs.Classes.{ClassTable, ResolvedClass, never_ends, resolved_class, text_of_id, first_classes, class_table}
use Rattle.hd_terms.specs.HeapFaults.{class_faults}
use Rattle.hd_records.specs.declared.records.Records.{Records}
use Rattle.hd_classes.specs.declared.source.Source.{Source}
use Rattle.hd_classes.specs.declared.first_class.FirstClass as declared_first
use Rattle.hd_classes.specs.Known.{AreClassesOf, IsClassFaultOrMemory}
use Rattle.hd_classes.specs.FirstClass.{PlacedClass, placed_classes, entry_of, first_class_view, HasFirstClasses}
use Rattle.hd_classes.specs.Sources.{IsSource, IsSourceOf, table_of}
use Rattle.hd_classes.specs.Links.{Row, views, is_kept}
use Rattle.hd_classes.specs.Naming.{named_classes_of}
use Rattle.hd_classes.specs.Building.{IsSettled, AddsClass, AreResolved, HasAllKnown, is_among, cycle_at, IsCycleOrMemory, IsFirstCycleOrMemory}
use Rattle.hd_classes.proofs.FirstClassLemmas.{first_classes-places, class_faults-places, length-places}
use Rattle.hd_classes.proofs.SearchLemmas.{map-twice, first-at, none-at}
use Rattle.hd_classes.proofs.NameLemmas.{take-next}
use Rattle.hd_classes.proofs.LinkLemmas.{views-length}
use Rattle.hd_classes.proofs.ChainLemmas.{absent-chain}
use Rattle.hd_classes.proofs.ResolvedLemmas.{resolved-none}
use Rattle.hd_classes.proofs.KeptLemmas.{kept-known}
use Rattle.hd_classes.proofs.PathLemmas.{or-cases}

none-some : {A : Type 0} (a : A) → ◌≡◌ {A = Option A} None (Some a) → ⊥
none-some a e = cc

cycle-none : (t : ClassTable) (x : PlacedClass) → never_ends t.classes x.class.id ≡ false → cycle_at t x ≡ None
cycle-none t x ends = ap (λ (b : Bool). cond b (Some (fault causes.ClassCycle x.offset)) None) ends

-- the class at a place
map-same : {X : Type 0} (xs : List X) → map (λ (x : X). x) xs ≡ xs
map-same [] = refl
map-same {X} (x ∷ xs) = ap (λ (ys : List X). x ∷ ys) (map-same xs)

pub place-at : (list : List Sub) (entries : List (ℕ × declared_first.FirstClass)) (i : ℕ) (x : declared_first.FirstClass) → HasFirstClasses list entries
    → slice_get (values_of entries) i ≡ Some x
    → slice_get (placed_classes list) i ≡ Some (first_class_view x)
place-at list entries i x kept at =
    let snd : ℕ × PlacedClass → PlacedClass = λ (p : ℕ × PlacedClass). p.1 in
    let places : map first_class_view (values_of entries) ≡ placed_classes list =
    map-twice (λ (e : ℕ × declared_first.FirstClass). e.1) first_class_view entries
    ∙ sym (map-twice (λ (e : ℕ × declared_first.FirstClass). (e.0, first_class_view e.1)) snd entries)
    ∙ ap (map snd) kept
    ∙ map-twice entry_of snd (placed_classes list)
    ∙ map-same (placed_classes list) in
    ap (λ (xs : List PlacedClass). slice_get xs i) (sym places) ∙ slice_get-map first_class_view (values_of entries) i ∙ ap (option_map first_class_view) at

-- the class at a place, after those before it
module _ (t : ClassTable) (before : List PlacedClass) (x : PlacedClass) (rows rows' : List Row) (ids ids' : List ℕ) where
  settled-next : AreResolved t before rows ids → AddsClass t x rows rows' ids' → (id : ℕ) → is_among (before ++ x ∷ []) id ≡ true → IsSettled t rows' id
  settled-next h more id among k is =
      by (or-cases (is_among before id) (eqb id x.class.id) (sym (list_any-append (λ (y : PlacedClass). eqb id y.class.id) before (x ∷ [])) ∙ among))
    where
      by : (is_among before id ≡ true) ⊎ (eqb id x.class.id ≡ true) → is_kept rows' id ≡ true
      by (inl old) = more.more id (h.settled id old k is)
      by (inr new) =
          let same : id ≡ x.class.id = eqb-true id x.class.id new in
          ap (is_kept rows') same ∙ more.settled k (sym (ap (resolved_class t) same) ∙ is)

pub resolved-next : (s : Source) (i : ℕ) (x : PlacedClass) (rows rows' : List Row) (ids ids' : List ℕ) → slice_get (placed_classes s.list.now) i ≡ Some x
    → AreResolved (table_of s) (take i (placed_classes s.list.now)) rows ids → AddsClass (table_of s) x rows rows' ids'
    → AreResolved (table_of s) (take (i + 1) (placed_classes s.list.now)) rows' ids'
resolved-next s i x rows rows' ids ids' at h more =
    let t = table_of s in
    let before = take i (placed_classes s.list.now) in
    let grown : take (i + 1) (placed_classes s.list.now) ≡ before ++ x ∷ [] = take-next (placed_classes s.list.now) i x at in
    record {
      kept = more.kept;
      broken = more.broken;
      settled = λ id among. settled-next t before x rows rows' ids ids' h more id (sym (ap (λ (xs : List PlacedClass). is_among xs id) grown) ∙ among);
      no_cycle = none-at (cycle_at t) (placed_classes s.list.now) i x at h.no_cycle (cycle-none t x more.ends);
    }

-- one fault is the first of all
pub fault-first : (s : Source) (i : ℕ) (x : PlacedClass) (f : ReadFault) → slice_get (placed_classes s.list.now) i ≡ Some x
    → filter_map (cycle_at (table_of s)) (take i (placed_classes s.list.now)) ≡ []
    → IsCycleOrMemory (table_of s) x f → IsFirstCycleOrMemory s f
fault-first s i x f at none (inl memory) = inl memory
fault-first s i x f at none (inr cycle) = inr (first-at (cycle_at (table_of s)) (placed_classes s.list.now) i x at f none cycle)

-- no class has an ID that none of them has
none-among : (id : ℕ) (xs : List PlacedClass) → is_among xs id ≡ false → find (λ (c : ClassItem). eqb id c.id) (map (λ (x : PlacedClass). x.class) xs) ≡ None
none-among id [] none = refl
none-among id (x ∷ xs) none =
    let parts = or_parts (eqb id x.class.id) (is_among xs id) none in
    ap (λ (b : Bool). cond b (Some x.class) (find (λ (c : ClassItem). eqb id c.id) (map (λ (y : PlacedClass). y.class) xs))) parts.0 ∙ none-among id xs parts.1

absent-class : (b : Bool) (o : Option ClassItem) → o ≡ None → cond b None o ≡ None
absent-class true o e = refl
absent-class false o e = e

unknown : (s : Source) (id : ℕ) → is_among (placed_classes s.list.now) id ≡ false → resolved_class (table_of s) id ≡ None
unknown s id none =
    let missing : find (λ (c : ClassItem). eqb id c.id) (first_classes s.list.now) ≡ None =
    ap (find (λ (c : ClassItem). eqb id c.id)) (first_classes-places s.list.now) ∙ none-among id (placed_classes s.list.now) none in
    resolved-none (table_of s) id (absent-chain (first_classes s.list.now) id (absent-class (eqb id 0) _ missing))

among-known : (s : Source) (id : ℕ) (k : ResolvedClass) → resolved_class (table_of s) id ≡ Some k → (b : Bool) → is_among (placed_classes s.list.now) id ≡ b
    → b ≡ true
among-known s id k is true e = refl
among-known s id k is false e = absurd (none-some k (sym (unknown s id e) ∙ is))

-- all classes are resolved
module _ (s : Source) (rows : List Row) (ids : List ℕ) (h : AreResolved (table_of s) (placed_classes s.list.now) rows ids) where
  looked-none : (id : ℕ) → lookup (λ (x : ℕ). eqb id x) (views rows) ≡ None → (o : Option ResolvedClass) → resolved_class (table_of s) id ≡ o → o ≡ None
  looked-none id none None is = refl
  looked-none id none (Some k) is =
      let known = kept-known rows id (h.settled id (among-known s id k is (is_among (placed_classes s.list.now) id) refl) k is) in
      absurd (none-some known.0 (sym none ∙ known.1))

  looked : (id : ℕ) (o : Option ResolvedClass) → lookup (λ (x : ℕ). eqb id x) (views rows) ≡ o → o ≡ resolved_class (table_of s) id
  looked id None e = sym (looked-none id e (resolved_class (table_of s) id) refl)
  looked id (Some k) e = sym (h.kept.known id k e)

  pub all-known : HasAllKnown s rows
  all-known = record { kept = h.kept; known = λ id. looked id (lookup (λ (x : ℕ). eqb id x) (views rows)) refl; no_cycle = h.no_cycle }

pub known-all : (s : Source) (i : ℕ) (rows : List Row) (ids : List ℕ) → length s.classes.entries ≤ i → HasFirstClasses s.list.now s.classes.entries
    → AreResolved (table_of s) (take i (placed_classes s.list.now)) rows ids → HasAllKnown s rows
known-all s i rows ids le kept h =
    let all : take i (placed_classes s.list.now) ≡ placed_classes s.list.now =
    take_all i (placed_classes s.list.now) (omega (arith, length-places s.list.now s.classes.entries kept, le)) in
    let P : List PlacedClass → Type 0 = λ (xs : List PlacedClass). AreResolved (table_of s) xs rows ids in
    all-known s rows ids (subst P all h)

-- each class that is kept is one of the file's, so they are no more than these
module _ (s : Source) (rows : List Row) (is : IsSource s) (h : HasAllKnown s rows) where
  abbrev places : List PlacedClass
  places = placed_classes s.list.now

  among-ids : (id : ℕ) (xs : List PlacedClass) → list_any (λ (x : ℕ). eqb id x) (map (λ (x : PlacedClass). x.class.id) xs) ≡ is_among xs id
  among-ids id [] = refl
  among-ids id (x ∷ xs) = ap (λ (b : Bool). eqb id x.class.id || b) (among-ids id xs)

  length-map : {X Y : Type 0} (f : X → Y) (xs : List X) → length (map f xs) ≡ length xs
  length-map f [] = refl
  length-map f (x ∷ xs) = omega (arith, length-map f xs)

  member : (id : ℕ) → list_any (λ (x : ℕ). eqb id x) (keys_of rows) ≡ true
      → list_any (λ (x : ℕ). eqb id x) (map (λ (x : PlacedClass). x.class.id) places) ≡ true
  member id there =
      let known = kept-known rows id (is_some-lookup (λ (x : ℕ). eqb id x) rows ∙ there) in
      among-ids id places ∙ among-known s id known.0 (h.kept.known id known.0 known.1) (is_among places id) refl

  few : length (views rows) ≤ length (first_classes s.list.now)
  few = omega (
    arith,
    length-le_from_is_member nat_eq_equiv (keys_of rows) (map (λ (x : PlacedClass). x.class.id) places) h.kept.distinct member,
    length-map (λ (r : Row). r.0) rows,
    length-map (λ (x : PlacedClass). x.class.id) places,
    views-length rows [],
    ap (λ (cs : List ClassItem). length cs) (first_classes-places s.list.now),
    length-map (λ (x : PlacedClass). x.class) places,
  )

  case-name : (o : Option Load) → option_and_then (λ (name : ℕ). lookup (λ (x : ℕ). eqb name x) s.texts) (option_map (λ (l : Load). l.name) o) ≡ option_and_then
      (λ (l : Load). text_of_id (table_of s) l.name) o
  case-name None = refl
  case-name (Some l) = is.texts l.name

  pub are-classes : AreClassesOf (table_of s) (record { texts = s.texts; names = s.names.entries; classes = views rows; repeated = s.repeated })
  are-classes = record {
    names = λ (id : ℕ).
        ap (option_and_then (λ (name : ℕ). lookup (λ (x : ℕ). eqb name x) s.texts)) (is.names id)
        ∙ case-name (find (λ (l : Load). eqb id l.class) s.records.now.loads);
    known = h.known;
    few = few;
    short = h.kept.short;
    repeated = is.repeated;
  }

-- the classes of a file
module _ (bytes : List ℕ) (records : Records) (list : List Sub) (s : Source) (is : IsSourceOf bytes records list s) where
  abbrev table : ClassTable
  table = class_table bytes records.strings records.loads list

  table-is : table_of s ≡ table
  table-is =
      ap (λ (b : List ℕ). class_table b s.records.now.strings s.records.now.loads s.list.now) is.of_bytes
      ∙ ap (λ (r : Records). class_table bytes r.strings r.loads s.list.now) is.of_records
      ∙ ap (λ (l : List Sub). class_table bytes records.strings records.loads l) is.of_list

  faults-are : filter_map (cycle_at (table_of s)) (placed_classes s.list.now) ≡ class_faults table list
  faults-are =
      sym (class_faults-places (table_of s) s.list.now) ∙ ap (λ (t : ClassTable). class_faults t s.list.now) table-is ∙ ap (class_faults table) is.of_list

  pub classes-of_file : (rows : List Row) → HasAllKnown s rows
      → AreClassesOf table (record { texts = s.texts; names = s.names.entries; classes = views rows; repeated = s.repeated })
  classes-of_file rows h =
      let P : ClassTable → Type 0 =
      λ (t : ClassTable). AreClassesOf t (record { texts = s.texts; names = s.names.entries; classes = views rows; repeated = s.repeated }) in
      subst P table-is (are-classes s rows is.kept h)

  pub names-of_file : named_classes_of (table_of s) ≡ named_classes_of table
  names-of_file = ap named_classes_of table-is

  pub no-faults : (rows : List Row) → HasAllKnown s rows → class_faults table list ≡ []
  no-faults rows h = sym faults-are ∙ h.no_cycle

  pub fault-of_file : (f : ReadFault) → IsFirstCycleOrMemory s f → IsClassFaultOrMemory table list f
  fault-of_file f (inl memory) = inl memory
  fault-of_file f (inr first) = inr (ap (λ (fs : List ReadFault). slice_get fs 0) (sym faults-are) ∙ first)
