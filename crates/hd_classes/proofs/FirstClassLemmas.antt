-- Lemmas on the classes that stand.
use Rattle.std.proofs.Common.{◌≡◌, ◌∙◌, ℕ, suc, List, [], ◌∷◌, ◌++◌, length, map, take, drop, Option, Some, None, Bool, true, false, ◌||◌, cond, not, eqb}
use Rattle.std.proofs.Common.{eqb-true, ne_eqb, refl, sym, ap}
use Rattle.std.specs.List.{list_any, filter_map, cons_option, find}
use Rattle.std.specs.Option.{option_map, option_map_or}
use Rattle.std.specs.Map.{lookup}
use Rattle.std.proofs.lemmas.Bool.{or_parts, false≢true}
use Rattle.std.proofs.lemmas.List.{append-nil, map-append, take-append-drop}
use Rattle.std.proofs.lemmas.List.Elements.{filter_map-append}
use Rattle.std.proofs.lemmas.List.Folds.{list_any-append}
use Rattle.std.proofs.lemmas.Map.Made.{lookup-map_values}
use Rattle.indexmap.specs.IndexMap.{insert_entry}
use Rattle.hd_terms.specs.declared.errors.Cause.TheVariants as causes
use Rattle.hd_terms.specs.declared.errors.ReadFault.{ReadFault}
use Rattle.hd_terms.specs.SubRecords.{ClassItem, Item, Instance, ObjArray, PrimArray, Sub}
use Rattle.hd_terms.specs.SubRecords as subs
use Rattle.hd_terms.specs.FirstRecords.{id_of_item, object_sub, first_subs, first_of_each}
use Rattle.hd_terms.specs.Classes.{ClassTable, class_of_item, first_classes, class_at, never_ends}
use Rattle.hd_terms.specs.HeapFaults.{fault_if, class_fault, class_faults}
use Rattle.hd_subs.specs.ClassSubs.{class_of_sub}
use Rattle.hd_classes.specs.declared.first_class.FirstClass as declared_first
use Rattle.hd_classes.specs.FirstClass.{PlacedClass, placed_class, placed_classes, entry_of, first_class_view, HasFirstClasses, AreFirstClasses}
use Rattle.hd_classes.specs.Building.{cycle_at}
use Rattle.hd_classes.specs.Firsts.{firsts_from}
use Rattle.hd_classes.proofs.FirstLemmas.{is_known, if_new, first_of_each-firsts, first_of_each-append}
use Rattle.hd_classes.proofs.NameLemmas.{none-from_map}

abbrev pub Entry : Type 0
Entry = ℕ × Sub

abbrev id_of : Entry → ℕ
id_of p = p.0

abbrev pub objects : List Sub → List Entry
objects list = filter_map object_sub list

abbrev pub place_of : Entry → Option PlacedClass
place_of p = placed_class p.1

-- the classes of the definition
case-classes : (s : Sub) (o : Option ClassItem) (R : List ClassItem) (S : List PlacedClass) → R ≡ map (λ (x : PlacedClass). x.class) S
    → cons_option o R ≡ map (λ (x : PlacedClass). x.class) (cons_option (option_map (λ (c : ClassItem). record { class = c; offset = s.offset }) o) S)
case-classes s None R S e = e
case-classes s (Some c) R S e = ap (λ (r : List ClassItem). c ∷ r) e

classes-of : (ps : List Entry) → filter_map (λ (p : Entry). class_of_item p.1.item) ps ≡ map (λ (x : PlacedClass). x.class) (filter_map place_of ps)
classes-of [] = refl
classes-of (p ∷ ps) = case-classes p.1 (class_of_item p.1.item) _ _ (classes-of ps)

pub first_classes-places : (list : List Sub) → first_classes list ≡ map (λ (x : PlacedClass). x.class) (placed_classes list)
first_classes-places list = classes-of (first_subs list)

-- the faults of the definition
case-faults : (t : ClassTable) (s : Sub) (o : Option ClassItem) (R : List ReadFault) (ps : List PlacedClass) → R ≡ filter_map (cycle_at t) ps
    → cons_option (fault_if (option_map_or (λ (c : ClassItem). never_ends t.classes c.id) o false) causes.ClassCycle s) R
    ≡ filter_map (cycle_at t) (cons_option (option_map (λ (c : ClassItem). record { class = c; offset = s.offset }) o) ps)
case-faults t s None R ps e = e
case-faults t s (Some c) R ps e = ap (cons_option (cycle_at t (record { class = c; offset = s.offset }))) e

faults-of : (t : ClassTable) (ps : List Entry) → filter_map (class_fault t) ps ≡ filter_map (cycle_at t) (filter_map place_of ps)
faults-of t [] = refl
faults-of t (p ∷ ps) = case-faults t p.1 (class_of_item p.1.item) _ _ (faults-of t ps)

pub class_faults-places : (t : ClassTable) (list : List Sub) → class_faults t list ≡ filter_map (cycle_at t) (placed_classes list)
class_faults-places t list = faults-of t (first_subs list)

-- one class by its ID
module _ (id : ℕ) where
  case-found : (b : Bool) (x : PlacedClass) (o : Option PlacedClass) (p : Option ClassItem) → option_map (λ (y : PlacedClass). y.class) o ≡ p
      → option_map (λ (y : PlacedClass). y.class) (cond b (Some x) o) ≡ cond b (Some x.class) p
  case-found true x o p e = refl
  case-found false x o p e = e

  found-place : (xs : List PlacedClass) → option_map (λ (x : PlacedClass). x.class) (lookup (λ (k : ℕ). eqb id k) (map entry_of xs)) ≡ find
      (λ (c : ClassItem). eqb id c.id) (map (λ (x : PlacedClass). x.class) xs)
  found-place [] = refl
  found-place (x ∷ xs) = case-found (eqb id x.class.id) x _ _ (found-place xs)

  case-map : {A B C : Type 0} (f : A → B) (g : B → C) (o : Option A) → option_map g (option_map f o) ≡ option_map (λ (a : A). g (f a)) o
  case-map f g None = refl
  case-map f g (Some a) = refl

  -- the class that is kept by an ID is the definition's
  pub class-found : (list : List Sub) (entries : List (ℕ × declared_first.FirstClass)) → HasFirstClasses list entries
      → option_map (λ (s : declared_first.FirstClass). (first_class_view s).class) (lookup (λ (k : ℕ). eqb id k) entries) ≡ find
      (λ (c : ClassItem). eqb id c.id) (first_classes list)
  class-found list entries kept =
      sym (case-map first_class_view (λ (x : PlacedClass). x.class) (lookup (λ (k : ℕ). eqb id k) entries))
      ∙ ap (option_map (λ (x : PlacedClass). x.class)) (sym (lookup-map_values first_class_view (λ (k : ℕ). eqb id k) entries)
      ∙ ap (lookup (λ (k : ℕ). eqb id k)) kept)
      ∙ found-place (placed_classes list)
      ∙ ap (find (λ (c : ClassItem). eqb id c.id)) (sym (first_classes-places list))

-- no class has an ID that no object has
some-same : {A : Type 0} (a b : A) → Some a ≡ Some b → a ≡ b
some-same a b e = cc

none-some : {A : Type 0} (a : A) → ◌≡◌ {A = Option A} None (Some a) → ⊥
none-some a e = cc

class-id : (i : Item) (c : ClassItem) (n : ℕ) → class_of_item i ≡ Some c → id_of_item i ≡ Some n → c.id ≡ n
class-id (subs.Root kind id) c n e f = absurd (none-some n f)
class-id (subs.Class d) c n e f = ap (λ (x : ClassItem). x.id) (sym (some-same d c e)) ∙ some-same d.id n f
class-id (Instance id class values) c n e f = absurd (none-some c e)
class-id (ObjArray id class elements) c n e f = absurd (none-some c e)
class-id (PrimArray id element count) c n e f = absurd (none-some c e)

-- the objects of sub-records have the IDs of their items
abbrev AreTied : List Entry → Type 0
AreTied [] = Unit {0}
AreTied (p ∷ ps) = (id_of_item p.1.item ≡ Some p.0) × AreTied ps

case-tied : (s : Sub) (o : Option ℕ) → id_of_item s.item ≡ o → (ps : List Entry) → AreTied ps → AreTied (cons_option (option_map (λ (id : ℕ). (id, s)) o) ps)
case-tied s None is ps h = h
case-tied s (Some n) is ps h = (is, h)

objects-tied : (list : List Sub) → AreTied (objects list)
objects-tied [] = tt
objects-tied (s ∷ list) = case-tied s (id_of_item s.item) refl (objects list) (objects-tied list)

module _ (id : ℕ) where
  abbrev kept_by : List PlacedClass → Option PlacedClass
  kept_by xs = lookup (λ (k : ℕ). eqb id k) (map entry_of xs)

  case-absent : (p : Entry) (o : Option ClassItem) → class_of_item p.1.item ≡ o → id_of_item p.1.item ≡ Some p.0 → eqb id p.0 ≡ false
      → (rest : List PlacedClass) → kept_by rest ≡ None
      → kept_by (cons_option (option_map (λ (c : ClassItem). record { class = c; offset = p.1.offset }) o) rest) ≡ None
  case-absent p None is tied other rest h = h
  case-absent p (Some c) is tied other rest h =
      ap (λ (b : Bool). cond b (Some (record { class = c; offset = p.1.offset })) (kept_by rest)) (ap (λ (n : ℕ). eqb id n) (class-id p.1.item c p.0 is tied)
      ∙ other) ∙ h

  case-known : (p : Entry) (b : Bool) (rest : List Entry) → id_of_item p.1.item ≡ Some p.0 → eqb id p.0 ≡ false → kept_by (filter_map place_of rest) ≡ None
      → kept_by (filter_map place_of (cond b rest (p ∷ rest))) ≡ None
  case-known p true rest tied other h = h
  case-known p false rest tied other h = case-absent p (class_of_item p.1.item) refl tied other (filter_map place_of rest) h

  absent-from : (before ps : List Entry) → AreTied ps → list_any (λ (p : Entry). eqb id p.0) ps ≡ false
      → kept_by (filter_map place_of (firsts_from id_of before ps)) ≡ None
  absent-from before [] tied none = refl
  absent-from before (p ∷ ps) tied none =
      let parts = or_parts (eqb id p.0) (list_any (λ (q : Entry). eqb id q.0) ps) none in
      case-known p (is_known id_of before p) (firsts_from id_of (before ++ p ∷ []) ps) tied.0 parts.0 (absent-from (before ++ p ∷ []) ps tied.1 parts.1)

  pub absent : (list : List Sub) (entries : List (ℕ × declared_first.FirstClass)) → HasFirstClasses list entries
      → list_any (λ (p : Entry). eqb id p.0) (objects list) ≡ false
      → lookup (λ (k : ℕ). eqb id k) entries ≡ None
  absent list entries kept none =
      none-from_map first_class_view (lookup (λ (k : ℕ). eqb id k) entries)
      (sym (lookup-map_values first_class_view (λ (k : ℕ). eqb id k) entries) ∙ ap (lookup (λ (k : ℕ). eqb id k)) kept
      ∙ ap (λ (ps : List Entry). kept_by (filter_map place_of ps)) (first_of_each-firsts id_of (objects list))
      ∙ absent-from [] (objects list) (objects-tied list) none)

-- noting one ID more
module _ (id : ℕ) (ids : List ℕ) where
  case-or : (a b : Bool) → (b ≡ true → a ≡ true) → a ≡ (a || (b || false))
  case-or true b h = refl
  case-or false true h = h refl
  case-or false false h = refl

  pub known-noted : (q : ℕ) (b : Bool) → list_any (λ (k : ℕ). eqb id k) ids ≡ b → list_any (λ (k : ℕ). eqb q k) (cond b ids (ids ++ id ∷ [])) ≡
      (list_any (λ (k : ℕ). eqb q k) ids || (eqb q id || false))
  known-noted q true e = case-or (list_any (λ (k : ℕ). eqb q k) ids) (eqb q id)
      (λ (same_id : eqb q id ≡ true). ap (λ (n : ℕ). list_any (λ (k : ℕ). eqb n k) ids) (eqb-true q id same_id) ∙ e)
  known-noted q false e = list_any-append (λ (k : ℕ). eqb q k) ids (id ∷ [])

abbrev Standings : Type 0
Standings = List (ℕ × declared_first.FirstClass)

-- an entry of a new key stands last
case-inserts : {X : Type 0} (k : ℕ) (x : X) (e : ℕ × X) (es : List (ℕ × X)) (b : Bool) → cond b (Some e.1) (lookup (λ (y : ℕ). eqb k y) es) ≡ None
    → (lookup (λ (y : ℕ). eqb k y) es ≡ None → insert_entry eqb es k x ≡ es ++ (k, x) ∷ [])
    → cond b ((e.0, x) ∷ es) (e ∷ insert_entry eqb es k x) ≡ e ∷ (es ++ (k, x) ∷ [])
case-inserts k x e es true none more = absurd (none-some e.1 (sym none))
case-inserts {X} k x e es false none more = ap (λ (ys : List (ℕ × X)). e ∷ ys) (more none)

pub insert-absent : {X : Type 0} (k : ℕ) (x : X) (es : List (ℕ × X)) → lookup (λ (y : ℕ). eqb k y) es ≡ None → insert_entry eqb es k x ≡ es ++ (k, x) ∷ []
insert-absent k x [] none = refl
insert-absent k x (e ∷ es) none = case-inserts k x e es (eqb k e.0) none (insert-absent k x es)

pub is-known : (b r : Bool) → r ≡ not b → r ≡ false → b ≡ true
is-known true r e f = refl
is-known false r e f = absurd (false≢true (sym f ∙ e))

pub is-new : (b r : Bool) → r ≡ not b → r ≡ true → b ≡ false
is-new false r e t = refl
is-new true r e t = absurd (false≢true (sym e ∙ t))

-- one sub-record more: of no object
pub plain-push : (front : List Sub) (s : Sub) (ids : List ℕ) (entries : Standings) → object_sub s ≡ None → AreFirstClasses front ids entries
    → AreFirstClasses (front ++ s ∷ []) ids entries
plain-push front s ids entries none h =
    let same : objects (front ++ s ∷ []) ≡ objects front = filter_map-append object_sub front (s ∷ [])
    ∙ ap (λ (o : Option Entry). objects front ++ cons_option o []) none ∙ append-nil (objects front) in
    record {
      noted = λ (q : ℕ). h.noted q ∙ ap (list_any (λ (p : Entry). eqb q p.0)) (sym same);
      kept = h.kept ∙ ap (λ (ps : List Entry). map entry_of (filter_map place_of (first_of_each id_of ps))) (sym same);
    }

module _ (front : List Sub) (s : Sub) (id : ℕ) (ids : List ℕ) (entries : Standings) (is : object_sub s ≡ Some (id, s))
    (h : AreFirstClasses front ids entries) where
  more : objects (front ++ s ∷ []) ≡ objects front ++ (id, s) ∷ []
  more = filter_map-append object_sub front (s ∷ []) ∙ ap (λ (o : Option Entry). objects front ++ cons_option o []) is

  noted-push : (ids' : List ℕ) → ids' ≡ cond (list_any (λ (k : ℕ). eqb id k) ids) ids (ids ++ id ∷ []) → (q : ℕ)
      → list_any (λ (k : ℕ). eqb q k) ids' ≡ list_any (λ (p : Entry). eqb q p.0) (objects (front ++ s ∷ []))
  noted-push ids' e q =
      ap (list_any (λ (k : ℕ). eqb q k)) e
      ∙ known-noted id ids q (list_any (λ (k : ℕ). eqb id k) ids) refl
      ∙ ap (λ (b : Bool). b || (eqb q id || false)) (h.noted q)
      ∙ sym (list_any-append (λ (p : Entry). eqb q p.0) (objects front) ((id, s) ∷ []))
      ∙ ap (list_any (λ (p : Entry). eqb q p.0)) (sym more)

  places-push : (known : Bool) → list_any (λ (k : ℕ). eqb id k) ids ≡ known → placed_classes (front ++ s ∷ []) ≡ placed_classes front
      ++ filter_map place_of (if_new id_of known (id, s))
  places-push known e =
      ap (λ (ps : List Entry). filter_map place_of (first_of_each id_of ps)) more
      ∙ ap (filter_map place_of) (first_of_each-append id_of (objects front) ((id, s) ∷ []))
      ∙ filter_map-append place_of (first_of_each id_of (objects front)) (if_new id_of (is_known id_of (objects front) (id, s)) (id, s))
      ∙ ap (λ (b : Bool). placed_classes front ++ filter_map place_of (if_new id_of b (id, s))) (sym (h.noted id) ∙ e)

  -- of an object that is no class, or one whose ID is known
  case-other : (known : Bool) → placed_class s ≡ None → filter_map place_of (if_new id_of known (id, s)) ≡ []
  case-other true none = refl
  case-other false none = ap (λ (o : Option PlacedClass). cons_option o []) none

  kept-same : (added : List PlacedClass) → placed_classes (front ++ s ∷ []) ≡ placed_classes front ++ added → added ≡ []
      → HasFirstClasses (front ++ s ∷ []) entries
  kept-same added e none =
      h.kept ∙ ap (map entry_of) (sym (e ∙ ap (λ (xs : List PlacedClass). placed_classes front ++ xs) none ∙ append-nil (placed_classes front)))

  pub other-push : (ids' : List ℕ) → ids' ≡ cond (list_any (λ (k : ℕ). eqb id k) ids) ids (ids ++ id ∷ []) → placed_class s ≡ None
      → AreFirstClasses (front ++ s ∷ []) ids' entries
  other-push ids' e none = record {
    noted = noted-push ids' e;
    kept = kept-same _ (places-push (list_any (λ (k : ℕ). eqb id k) ids) refl) (case-other (list_any (λ (k : ℕ). eqb id k) ids) none);
  }

  pub known-push : (ids' : List ℕ) → ids' ≡ cond (list_any (λ (k : ℕ). eqb id k) ids) ids (ids ++ id ∷ []) → list_any (λ (k : ℕ). eqb id k) ids ≡ true
      → AreFirstClasses (front ++ s ∷ []) ids' entries
  known-push ids' e known = record { noted = noted-push ids' e; kept = kept-same _ (places-push true known) refl }

  -- the ID of a new object is none of those that are kept
  pub new-absent : list_any (λ (k : ℕ). eqb id k) ids ≡ false → lookup (λ (k : ℕ). eqb id k) entries ≡ None
  new-absent new = absent id front entries h.kept (sym (h.noted id) ∙ new)

  -- of a class with a new ID
  pub class-push : (ids' : List ℕ) → ids' ≡ cond (list_any (λ (k : ℕ). eqb id k) ids) ids (ids ++ id ∷ []) → list_any (λ (k : ℕ). eqb id k) ids ≡ false
      → (x : declared_first.FirstClass) → placed_class s ≡ Some (first_class_view x) → (first_class_view x).class.id ≡ id → (entries' : Standings)
      → entries' ≡ insert_entry eqb entries id x
      → AreFirstClasses (front ++ s ∷ []) ids' entries'
  class-push ids' e new x place same_id entries' grown = record {
    noted = noted-push ids' e;
    kept =
        ap (map (λ (y : ℕ × declared_first.FirstClass). (y.0, first_class_view y.1))) (grown ∙ insert-absent id x entries (new-absent new))
        ∙ map-append (λ (y : ℕ × declared_first.FirstClass). (y.0, first_class_view y.1)) entries ((id, x) ∷ [])
        ∙ ap (λ (ys : List (ℕ × PlacedClass)). ys ++ (id, first_class_view x) ∷ []) h.kept
        ∙ ap (λ (n : ℕ). map entry_of (placed_classes front) ++ (n, first_class_view x) ∷ []) (sym same_id)
        ∙ sym (map-append entry_of (placed_classes front) (first_class_view x ∷ []))
        ∙ ap (map entry_of) (sym (places-push false new ∙ ap (λ (o : Option PlacedClass). placed_classes front ++ cons_option o []) place));
  }

-- no class behind the last one
case-nothing : {A : Type 0} (o : Option A) (xs : List A) → cons_option o xs ≡ [] → (o ≡ None) × (xs ≡ [])
case-nothing None xs e = (refl, e)
case-nothing (Some a) xs e = cc

case-nil : (b : Bool) (p : Entry) (rest : List Entry) → place_of p ≡ None → filter_map place_of rest ≡ [] → filter_map place_of (cond b rest (p ∷ rest)) ≡ []
case-nil true p rest none e = e
case-nil false p rest none e = ap (λ (o : Option PlacedClass). cons_option o (filter_map place_of rest)) none ∙ e

module _ (s : Sub) (list : List Sub) (none : placed_class s ≡ None) where
  case-behind : (o : Option ℕ) → ((before : List Entry) → filter_map place_of (firsts_from id_of before (objects list)) ≡ []) → (before : List Entry)
      → filter_map place_of (firsts_from id_of before (cons_option (option_map (λ (id : ℕ). (id, s)) o) (objects list))) ≡ []
  case-behind None more before = more before
  case-behind (Some id) more before = case-nil (is_known id_of before (id, s)) (id, s) (firsts_from id_of (before ++ (id, s) ∷ []) (objects list)) none
      (more (before ++ (id, s) ∷ []))

none-behind : (list : List Sub) → filter_map placed_class list ≡ [] → (before : List Entry) → filter_map place_of (firsts_from id_of before (objects list)) ≡ []
none-behind [] e before = refl
none-behind (s ∷ list) e before =
    let parts = case-nothing (placed_class s) (filter_map placed_class list) e in
    case-behind s list parts.0 (id_of_item s.item) (none-behind list parts.1) before

pub places-front : (list : List Sub) (n : ℕ) → filter_map placed_class (drop n list) ≡ [] → placed_classes (take n list) ≡ placed_classes list
places-front list n none =
    let whole = take-append-drop n list in
    sym (
    ap placed_classes (sym whole)
    ∙ ap (λ (ps : List Entry). filter_map place_of (first_of_each id_of ps)) (filter_map-append object_sub (take n list) (drop n list))
    ∙ ap (filter_map place_of) (first_of_each-append id_of (objects (take n list)) (objects (drop n list)))
    ∙ filter_map-append place_of (first_of_each id_of (objects (take n list))) (firsts_from id_of (objects (take n list)) (objects (drop n list)))
    ∙ ap (λ (xs : List PlacedClass). placed_classes (take n list) ++ xs) (none-behind (drop n list) none (objects (take n list)))
    ∙ append-nil (placed_classes (take n list))
    )

-- those that aren't classes have no places
pub none-placed : (list : List Sub) → filter_map class_of_sub list ≡ [] → filter_map placed_class list ≡ []
none-placed [] none = refl
none-placed (s ∷ list) none =
    let parts = case-nothing (class_of_sub s) (filter_map class_of_sub list) none in
    ap (λ (o : Option ClassItem). cons_option (option_map (λ (c : ClassItem). record { class = c; offset = s.offset }) o) (filter_map placed_class list))
    parts.0
    ∙ none-placed list parts.1

-- they are as many as the definition's
length-map : {X Y : Type 0} (f : X → Y) (xs : List X) → length (map f xs) ≡ length xs
length-map f [] = refl
length-map f (x ∷ xs) = ap suc (length-map f xs)

pub length-places : (list : List Sub) (entries : Standings) → HasFirstClasses list entries → length entries ≡ length (placed_classes list)
length-places list entries kept =
    sym (length-map (λ (y : ℕ × declared_first.FirstClass). (y.0, first_class_view y.1)) entries) ∙ ap (λ (ys : List (ℕ × PlacedClass)). length ys) kept
    ∙ length-map entry_of (placed_classes list)

pub length-standing : (list : List Sub) (entries : Standings) → HasFirstClasses list entries → length entries ≡ length (first_classes list)
length-standing list entries kept =
    length-places list entries kept
    ∙ sym (ap (λ (cs : List ClassItem). length cs) (first_classes-places list) ∙ length-map (λ (x : PlacedClass). x.class) (placed_classes list))

pub class_at-some : (classes : List ClassItem) (id : ℕ) → (id ≡ 0 → ⊥) → class_at classes id ≡ find (λ (c : ClassItem). eqb id c.id) classes
class_at-some classes id some = ap (λ (b : Bool). cond b None (find (λ (c : ClassItem). eqb id c.id) classes)) (ne_eqb id 0 some)
