-- Numbering objects, one sub-record after another.
use Rattle.std.proofs.Common.{◌≡◌, ◌∙◌, ℕ, ◌+◌, ◌<◌, ◌≤◌, inl, inr, List, [], ◌∷◌, ◌++◌, length, map, take, drop, Option, Some, None, Bool, true, false, ◌&&◌}
use Rattle.std.proofs.Common.{◌||◌, cond, eqb, eq-eqb, ne_eqb, refl, sym, ap, subst, arith, All, append_assoc, true≢false}
use Rattle.std.specs.Prelude.{count_by, not}
use Rattle.std.specs.Option.{option_map}
use Rattle.std.specs.List.{list_any, filter_map, cons_option, slice_get}
use Rattle.std.proofs.lemmas.List.{append-nil, map-append, take_more, take-append-drop, length-take}
use Rattle.std.proofs.lemmas.List.Elements.{filter_map-append, All-push, All-nil, All-head, All-tail}
use Rattle.std.proofs.lemmas.List.Sums.{sum_by-append, count_by-le-length}
use Rattle.std.proofs.lemmas.Option.{get_or_from_slice_get, slice_get_within}
use Rattle.hd_terms.specs.declared.IdSize.{IdSize}
use Rattle.hd_terms.specs.declared.errors.Cause.TheVariants as causes
use Rattle.hd_terms.specs.declared.errors.ReadFault.{ReadFault}
use Rattle.hd_terms.specs.SubRecords.{Sub, Item}
use Rattle.hd_terms.specs.SubRecords as subs
use Rattle.hd_terms.specs.FirstRecords.{id_of_item, object_sub, first_subs, repeats}
use Rattle.hd_terms.specs.HeapFaults.{fault_if, is_size_mismatch, object_fault, object_faults}
use Rattle.hd_terms.specs.Classes.{KnownClasses}
use Rattle.hd_terms.specs.Objects.{is_opaque}
use Rattle.hd_graph.specs.declared.graph.StoredRoot.{StoredRoot}
use Rattle.hd_graph.specs.declared.number.Tally.{Tally}
use Rattle.hd_graph.specs.GraphInside.{root_of_row}
use Rattle.hd_graph.specs.ArrayRows.{object_id, roots_in}
use Rattle.hd_classes.specs.Firsts.{firsts, firsts_from}
use Rattle.hd_ids.specs.Noted.{is_noted}
use Rattle.hd_classes.specs.Repeats.{NotesId}
use Rattle.hd_graph.specs.Numbering.{IsNumbered, NotesObject, IsNullIdOrMemory, IsObjectStop, memory, null, size_mismatch, StopsAt, IsObjectFaultOrMemory}
use Rattle.hd_classes.proofs.FirstLemmas.{first_of_each-firsts, firsts-push, firsts_from-append, firsts-le, is_known, if_new, known-map, filter_map-le}
use Rattle.hd_classes.proofs.RepeatLemmas.{noted-push, repeats-le}

abbrev same : ℕ → ℕ
same id = id

-- the ID of a sub-record of an object
abbrev pub sub_key : ℕ × Sub → ℕ
sub_key p = p.0

-- those of a list that are objects'
abbrev pub object_subs : List Sub → List (ℕ × Sub)
object_subs list = filter_map object_sub list

-- their IDs
pub ids-of-subs : (list : List Sub) → filter_map object_id list ≡ map sub_key (object_subs list)
ids-of-subs [] = refl
ids-of-subs (s ∷ list) = by_id (id_of_item s.item) (ids-of-subs list)
  where
    by_id : (o : Option ℕ) → filter_map object_id list ≡ map sub_key (object_subs list) → cons_option o (filter_map object_id list) ≡ map sub_key
        (cons_option (option_map (λ (id : ℕ). let p : ℕ × Sub = (id, s) in p) o) (object_subs list))
    by_id None e = e
    by_id (Some id) e = ap (λ (xs : List ℕ). id ∷ xs) e

-- those that stand are the first of each ID
pub standing-firsts : (list : List Sub) → first_subs list ≡ firsts sub_key (object_subs list)
standing-firsts list = first_of_each-firsts sub_key (object_subs list)

-- whether one is the first of its ID
subs-push : (front : List Sub) (s : Sub) (id : ℕ) → object_id s ≡ Some id → object_subs (front ++ s ∷ []) ≡ object_subs front ++ (id, s) ∷ []
subs-push front s id is = filter_map-append object_sub front (s ∷ [])
    ∙ ap (λ (o : Option ℕ). object_subs front ++ cons_option (option_map (λ (x : ℕ). let p : ℕ × Sub = (x, s) in p) o) []) is

standing-push : (front : List Sub) (s : Sub) (id : ℕ) → object_id s ≡ Some id → first_subs (front ++ s ∷ []) ≡ first_subs front
    ++ if_new sub_key (is_known sub_key (object_subs front) (id, s)) (id, s)
standing-push front s id is =
    standing-firsts (front ++ s ∷ [])
    ∙ ap (λ (xs : List (ℕ × Sub)). firsts sub_key xs) (subs-push front s id is)
    ∙ firsts-push sub_key (object_subs front) (id, s)
    ∙ ap (λ (xs : List (ℕ × Sub)). xs ++ if_new sub_key (is_known sub_key (object_subs front) (id, s)) (id, s)) (sym (standing-firsts front))

standing-root : (front : List Sub) (s : Sub) → object_id s ≡ None → first_subs (front ++ s ∷ []) ≡ first_subs front
standing-root front s is =
    let none : object_subs (front ++ s ∷ []) ≡ object_subs front =
    filter_map-append object_sub front (s ∷ [])
    ∙ ap (λ (o : Option ℕ). object_subs front ++ cons_option (option_map (λ (x : ℕ). let p : ℕ × Sub = (x, s) in p) o) []) is
    ∙ append-nil (object_subs front) in
    standing-firsts (front ++ s ∷ []) ∙ ap (λ (xs : List (ℕ × Sub)). firsts sub_key xs) none ∙ sym (standing-firsts front)

module _ (known : KnownClasses) (size : IdSize) where
  abbrev opaque_one : ℕ × Sub → Bool
  opaque_one p = is_opaque known p.1.item

  pub begin : IsNumbered known size [] [] [] (record { repeated = 0; opaque = 0 })
  begin = record {
    ids_are = refl;
    known_ids = λ id. refl;
    repeated_is = refl;
    opaque_is = refl;
    roots_are = refl;
    no_null = All-nil (λ id. 0 < id);
    no_fault =
        refl;
  }

  -- a root
  pub root-push : (front : List Sub) (ids : List ℕ) (roots : List StoredRoot) (tally : Tally) (h : IsNumbered known size front ids roots tally) (at : ℕ)
      (row : StoredRoot)
      → IsNumbered known size (front ++ (record { offset = at; item = subs.Root row.kind row.id }) ∷ []) ids (roots ++ row ∷ []) tally
  root-push front ids roots tally h at row =
      let s : Sub = record { offset = at; item = subs.Root row.kind row.id } in
      let none : filter_map object_id (front ++ s ∷ []) ≡ filter_map object_id front = filter_map-append object_id front (s ∷ [])
      ∙ append-nil (filter_map object_id front) in
      let stand : first_subs (front ++ s ∷ []) ≡ first_subs front = standing-root front s refl in
      record {
        ids_are = h.ids_are ∙ ap (λ (xs : List ℕ). firsts same xs) (sym none);
        known_ids = λ id. h.known_ids id ∙ ap (list_any (λ k. eqb id k)) (sym none);
        repeated_is = h.repeated_is ∙ ap (repeats same) (sym none);
        opaque_is = h.opaque_is ∙ ap (λ (xs : List (ℕ × Sub)). count_by opaque_one xs) (sym stand);
        roots_are = map-append root_of_row roots (row ∷ []) ∙ ap (λ xs. xs ++ root_of_row row ∷ []) h.roots_are ∙ sym (filter_map-append _ front (s ∷ []));
        no_null = h.no_null;
        no_fault = ap (λ (xs : List (ℕ × Sub)). filter_map (object_fault known size) xs) stand ∙ h.no_fault;
      }

  -- an object whose ID is among those that are there, or isn't
  module _ (ids : List ℕ) (id : ℕ) where
    case-ids : (b : Bool) → cond b ids (ids ++ id ∷ []) ≡ ids ++ cond b [] (id ∷ [])
    case-ids true = sym (append-nil ids)
    case-ids false = refl

    case-positive : (b : Bool) → All (λ k. 0 < k) ids → 0 < id → All (λ k. 0 < k) (cond b ids (ids ++ id ∷ []))
    case-positive true all pos = all
    case-positive false all pos = All-push (λ k. 0 < k) ids id all pos

  -- whether an ID is noted is whether an object of it stands before
  noted-is : (front : List Sub) (ids : List ℕ) (roots : List StoredRoot) (tally : Tally) → IsNumbered known size front ids roots tally → (s : Sub) (id : ℕ)
      → is_noted ids id ≡ is_known sub_key (object_subs front) (id, s)
  noted-is front ids roots tally h s id = h.known_ids id ∙ ap (list_any (λ k. eqb id k)) (ids-of-subs front)
      ∙ known-map same sub_key (object_subs front) (id, s)

  case-fault : (s : Sub) (id : ℕ) (b : Bool) → 0 < id → (b ≡ false → is_size_mismatch known size s.item ≡ false)
      → filter_map (object_fault known size) (if_new sub_key b (id, s)) ≡ []
  case-fault s id true some fits = refl
  case-fault s id false some fits =
      ap (λ (z : Bool). cons_option (cond z (fault_if true causes.NullObject s) (fault_if (is_size_mismatch known size s.item) causes.InstanceSize s)) [])
      (ne_eqb id 0 (λ e. omega (arith, e, some)))
      ∙ ap (λ (m : Bool). cons_option (fault_if m causes.InstanceSize s) []) (fits refl)

  case-opaque : (s : Sub) (id : ℕ) (b : Bool) → count_by opaque_one (if_new sub_key b (id, s)) ≡ cond (not b && is_opaque known s.item) 1 0
  case-opaque s id true = refl
  case-opaque s id false = by_item (is_opaque known s.item)
    where
      by_item : (o : Bool) → 0 + cond o 1 0 ≡ cond (true && o) 1 0
      by_item true = refl
      by_item false = refl

  -- an object
  pub object-push : (front : List Sub) (ids : List ℕ) (roots : List StoredRoot) (tally : Tally) (h : IsNumbered known size front ids roots tally) (s : Sub)
      (id : ℕ) (ids' : List ℕ) (tally' : Tally)
      → NotesObject known size s.item id ids tally ids' tally' → object_id s ≡ Some id → roots_in (s ∷ []) ≡ []
      → IsNumbered known size (front ++ s ∷ []) ids' roots tally'
  object-push front ids roots tally h s id ids' tally' notes is no_root =
      let old = filter_map object_id front in
      let objects : filter_map object_id (front ++ s ∷ []) ≡ old ++ id ∷ [] = filter_map-append object_id front (s ∷ [])
      ∙ ap (λ (o : Option ℕ). old ++ cons_option o []) is in
      let b = list_any (λ k. eqb id k) ids in
      let noted = noted-push same old id ids tally.repeated ids' tally'.repeated (record { known = h.known_ids; count = h.repeated_is }) notes.noted in
      let there : b ≡ is_known sub_key (object_subs front) (id, s) = noted-is front ids roots tally h s id in
      let stand : first_subs (front ++ s ∷ []) ≡ first_subs front ++ if_new sub_key b (id, s) = standing-push front s id is
      ∙ ap (λ (c : Bool). first_subs front ++ if_new sub_key c (id, s)) (sym there) in
      record {
        ids_are = notes.noted.noted ∙ case-ids ids id b
            ∙ ap (λ (c : Bool). ids ++ cond c [] (id ∷ [])) (h.known_ids id)
            ∙ ap (λ (xs : List ℕ). xs ++ if_new same (is_known same old id) id) h.ids_are
            ∙ sym (firsts-push same old id)
            ∙ ap (λ (xs : List ℕ). firsts same xs) (sym objects);
        known_ids = λ q. noted.known q ∙ ap (list_any (λ k. eqb q k)) (sym objects);
        repeated_is = noted.count ∙ ap (repeats same) (sym objects);
        opaque_is = notes.opaque
            ∙ ap (λ (n : ℕ). n + cond (not b && is_opaque known s.item) 1 0) h.opaque_is
            ∙ ap (λ (n : ℕ). count_by opaque_one (first_subs front) + n) (sym (case-opaque s id b))
            ∙ sym (sum_by-append (λ (p : ℕ × Sub). cond (opaque_one p) 1 0) (first_subs front) (if_new sub_key b (id, s)))
            ∙ ap (λ (xs : List (ℕ × Sub)). count_by opaque_one xs) (sym stand);
        roots_are = h.roots_are ∙ sym (append-nil (roots_in front)) ∙ ap (λ xs. roots_in front ++ xs) (sym no_root) ∙ sym (filter_map-append _ front (s ∷ []));
        no_null = rw notes.noted.noted (case-positive ids id b h.no_null notes.some);
        no_fault = ap (λ (xs : List (ℕ × Sub)). filter_map (object_fault known size) xs) stand
            ∙ filter_map-append (object_fault known size) (first_subs front) (if_new sub_key b (id, s))
            ∙ ap (λ (fs : List ReadFault). fs ++ filter_map (object_fault known size) (if_new sub_key b (id, s))) h.no_fault
            ∙ case-fault s id b notes.some notes.fits;
      }

  -- an object that is no instance
  pub plain-notes : (item : Item) (id : ℕ) (ids : List ℕ) (tally : Tally) (ids' : List ℕ) (tally' : Tally) → 0 < id
      → NotesId id ids tally.repeated ids' tally'.repeated → tally'.opaque ≡ tally.opaque
      → is_size_mismatch known size item ≡ false → is_opaque known item ≡ false → NotesObject known size item id ids tally ids' tally'
  plain-notes item id ids tally ids' tally' some noted opaque fits plain = record {
    some = some;
    noted = noted;
    fits = λ e. fits;
    opaque = by_noted (is_noted ids id);
  }
    where
      by_noted : (b : Bool) → tally'.opaque ≡ tally.opaque + cond (not b && is_opaque known item) 1 0
      by_noted true = omega (arith, opaque)
      by_noted false = let none : cond (is_opaque known item) 1 0 ≡ 0 = ap (λ (o : Bool). let n : ℕ = cond o 1 0 in n) plain in omega (arith, opaque, none)

  -- an object of an ID that was noted before
  pub noted-notes : (item : Item) (id : ℕ) (ids : List ℕ) (tally : Tally) (ids' : List ℕ) (tally' : Tally) → 0 < id
      → NotesId id ids tally.repeated ids' tally'.repeated → tally'.opaque ≡ tally.opaque
      → is_noted ids id ≡ true → NotesObject known size item id ids tally ids' tally'
  noted-notes item id ids tally ids' tally' some noted opaque old = record {
    some = some;
    noted = noted;
    fits = λ new. absurd (true≢false (sym old ∙ new));
    opaque = opaque ∙ by_noted (is_noted ids id) old;
  }
    where
      by_noted : (b : Bool) → b ≡ true → tally.opaque ≡ tally.opaque + cond (not b && is_opaque known item) 1 0
      by_noted true e = omega arith
      by_noted false e = absurd (true≢false (sym e))

  -- one of a new ID that fits
  pub new-notes : (item : Item) (id : ℕ) (ids : List ℕ) (tally : Tally) (ids' : List ℕ) (tally' : Tally) (o : Bool) → 0 < id
      → NotesId id ids tally.repeated ids' tally'.repeated → is_opaque known item ≡ o → tally'.opaque ≡ tally.opaque + cond o 1 0
      → is_noted ids id ≡ false → is_size_mismatch known size item ≡ false → NotesObject known size item id ids tally ids' tally'
  new-notes item id ids tally ids' tally' o some noted is counted new fits = record {
    some = some;
    noted = noted;
    fits = λ e. fits;
    opaque = counted ∙ ap (λ (b : Bool). tally.opaque + cond (true && b) 1 0) (sym is)
        ∙ ap (λ (b : Bool). tally.opaque + cond (not b && is_opaque known item) 1 0) (sym new);
  }

  -- no noted ID is 0
  null-new : (ids : List ℕ) → All (λ k. 0 < k) ids → list_any (λ k. eqb 0 k) ids ≡ false
  null-new [] all = refl
  null-new (k ∷ ids) all =
      let here : eqb 0 k ≡ false = ne_eqb 0 k (λ e. omega (arith, e, All-head (λ k. 0 < k) k ids all)) in
      or_false (eqb 0 k) (list_any (λ k. eqb 0 k) ids) here (null-new ids (All-tail (λ k. 0 < k) k ids all))
    where
      or_false : (a b : Bool) → a ≡ false → b ≡ false → (a || b) ≡ false
      or_false true b e f = absurd cc
      or_false false true e f = absurd cc
      or_false false false e f = refl

  -- a fault behind sub-records that were numbered is the first of all
  first-fault : (front : List Sub) (s : Sub) (after : List Sub) (id : ℕ) (f : ReadFault) → object_faults known size front ≡ [] → object_id s ≡ Some id
      → is_known sub_key (object_subs front) (id, s) ≡ false
      → object_fault known size (id, s) ≡ Some f → slice_get (object_faults known size (front ++ s ∷ after)) 0 ≡ Some f
  first-fault front s after id f none is new here =
      let A = object_subs front in
      let B = object_subs after in
      let R = firsts_from sub_key (A ++ (id, s) ∷ []) B in
      let objects : object_subs (front ++ s ∷ after) ≡ A ++ (id, s) ∷ B =
      filter_map-append object_sub front (s ∷ after) ∙ ap (λ (o : Option ℕ). A ++ cons_option (option_map (λ (x : ℕ). let p : ℕ × Sub = (x, s) in p) o) B) is in
      let stand : first_subs (front ++ s ∷ after) ≡ first_subs front ++ (id, s) ∷ R =
      standing-firsts (front ++ s ∷ after)
      ∙ ap (λ (xs : List (ℕ × Sub)). firsts sub_key xs) objects
      ∙ firsts_from-append sub_key [] A ((id, s) ∷ B)
      ∙ ap (λ (b : Bool). firsts sub_key A ++ cond b R ((id, s) ∷ R)) new
      ∙ ap (λ (xs : List (ℕ × Sub)). xs ++ (id, s) ∷ R) (sym (standing-firsts front)) in
      let faults : object_faults known size (front ++ s ∷ after) ≡ cons_option (object_fault known size (id, s)) (filter_map (object_fault known size) R) =
      ap (λ (xs : List (ℕ × Sub)). filter_map (object_fault known size) xs) stand
      ∙ filter_map-append (object_fault known size) (first_subs front) ((id, s) ∷ R)
      ∙ ap (λ (fs : List ReadFault). fs ++ filter_map (object_fault known size) ((id, s) ∷ R)) none in
      ap (λ (fs : List ReadFault). slice_get fs 0) faults
      ∙ ap (λ (o : Option ReadFault). slice_get (cons_option o (filter_map (object_fault known size) R)) 0) here

  stop-fault : (front : List Sub) (s : Sub) (after : List Sub) (ids : List ℕ) (roots : List StoredRoot) (tally : Tally)
      → IsNumbered known size front ids roots tally
      → (id : ℕ) → object_id s ≡ Some id → (f : ReadFault) → IsObjectStop known size s.item id s.offset ids f
      → IsObjectFaultOrMemory known size (front ++ s ∷ after) f
  stop-fault front s after ids roots tally h id is _ memory = inl refl
  stop-fault front s after ids roots tally h id is _ (null zero_id) =
      let new : is_known sub_key (object_subs front) (id, s) ≡ false = sym (noted-is front ids roots tally h s id)
      ∙ ap (λ (x : ℕ). list_any (λ k. eqb x k) ids) zero_id ∙ null-new ids h.no_null in
      inr (first-fault front s after id _ h.no_fault is new
      (ap (λ (b : Bool). cond b (fault_if true causes.NullObject s) (fault_if (is_size_mismatch known size s.item) causes.InstanceSize s))
      (eq-eqb id 0 zero_id)))
  stop-fault front s after ids roots tally h id is _ (size_mismatch some new wrong) =
      inr (first-fault front s after id _ h.no_fault is (sym (noted-is front ids roots tally h s id) ∙ new)
      (ap (λ (b : Bool). cond b (fault_if true causes.NullObject s) (fault_if (is_size_mismatch known size s.item) causes.InstanceSize s))
      (ne_eqb id 0 (λ e. omega (arith, e, some)))
      ∙ ap (λ (m : Bool). fault_if m causes.InstanceSize s) wrong))

-- the sub-record at an index is the one after those before it
pub take-next : (list : List Sub) (i : ℕ) (s : Sub) → slice_get list i ≡ Some s → take (i + 1) list ≡ take i list ++ s ∷ []
take-next list i s is = take_more list i s (slice_get_within list i s is) ∙ ap (λ (x : Sub). take i list ++ x ∷ []) (get_or_from_slice_get list i s s is)

-- an ID that is new
pub not-noted : (new noted : Bool) → new ≡ not noted → new ≡ true → noted ≡ false
not-noted true true e f = absurd cc
not-noted true false e f = refl
not-noted false noted e f = absurd cc

-- an ID that isn't
pub was-noted : (new noted : Bool) → new ≡ not noted → new ≡ false → noted ≡ true
was-noted false false e f = absurd cc
was-noted false true e f = refl
was-noted true noted e f = absurd cc

-- the ID 0 stops an object of any kind
pub null-stop : (known : KnownClasses) (size : IdSize) (item : Item) (id offset : ℕ) (ids : List ℕ) (f : ReadFault) → IsNullIdOrMemory id offset f
    → IsObjectStop known size item id offset ids f
null-stop known size item id offset ids f (inl e) = subst (IsObjectStop known size item id offset ids) (sym e) memory
null-stop known size item id offset ids f (inr (zero_id, e)) = subst (IsObjectStop known size item id offset ids) (sym e) (null zero_id)

-- a list is what stands before an index, what stands there, and what stands after it
pub split-here : (list : List Sub) (i : ℕ) (s : Sub) → slice_get list i ≡ Some s → list ≡ take i list ++ s ∷ drop (i + 1) list
split-here list i s is = sym (take-append-drop (i + 1) list) ∙ ap (λ (xs : List Sub). xs ++ drop (i + 1) list) (take-next list i s is)
    ∙ append_assoc (take i list) (s ∷ []) (drop (i + 1) list)

-- a fault of the sub-record at an index is the first of all
pub lifted : (known : KnownClasses) (size : IdSize) (list : List Sub) (i : ℕ) (s : Sub) (ids : List ℕ) (roots : List StoredRoot) (tally : Tally) (f : ReadFault)
    → slice_get list i ≡ Some s
    → IsNumbered known size (take i list) ids roots tally → StopsAt known size s ids f → IsObjectFaultOrMemory known size list f
lifted known size list i s ids roots tally f is h (inl out_of_memory_reply) = inl out_of_memory_reply
lifted known size list i s ids roots tally f is h (inr (id, at, stop)) =
    subst (λ (l : List Sub). IsObjectFaultOrMemory known size l f) (sym (split-here list i s is))
    (stop-fault known size (take i list) s (drop (i + 1) list) ids roots tally h id at f stop)

-- no more are repeated or opaque than there are sub-records
pub repeated-le : (known : KnownClasses) (size : IdSize) (list : List Sub) (i : ℕ) (ids : List ℕ) (roots : List StoredRoot) (tally : Tally)
    → IsNumbered known size (take i list) ids roots tally → tally.repeated ≤ i
repeated-le known size list i ids roots tally h =
    omega (arith, h.repeated_is, repeats-le same (filter_map object_id (take i list)), filter_map-le object_id (take i list), length-take i list)

pub opaque-le : (known : KnownClasses) (size : IdSize) (list : List Sub) (i : ℕ) (ids : List ℕ) (roots : List StoredRoot) (tally : Tally)
    → IsNumbered known size (take i list) ids roots tally → tally.opaque ≤ i
opaque-le known size list i ids roots tally h =
    omega (
      arith,
      h.opaque_is,
      count_by-le-length (λ (p : ℕ × Sub). is_opaque known p.1.item) (first_subs (take i list)),
      ap (λ (xs : List (ℕ × Sub)). length xs) (standing-firsts (take i list)),
      firsts-le sub_key [] (object_subs (take i list)),
      filter_map-le object_sub (take i list),
      length-take i list,
    )
