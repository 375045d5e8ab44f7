-- Adding the IDs among values to a row, one value after another.
use Rattle.std.proofs.Common.{◌≡◌, ◌∙◌, ℕ, zero, suc, ◌+◌, ◌<◌, ◌≤◌, List, [], ◌∷◌, ◌++◌, length, get_or, take, drop, map, Bool, true, false, cond, refl, sym}
use Rattle.std.proofs.Common.{ap, subst, arith, append_assoc, length-append, add-zero}
use Rattle.std.proofs.lemmas.List.{append-nil, take_more, take_all, length-take, take-append-drop, map-append}
use Rattle.std.proofs.lemmas.List.Sums.{sum_by-append}
use Rattle.byteorder.specs.Endian.{big_number}
use Rattle.hd_terms.specs.declared.IdSize.{IdSize}
use Rattle.hd_terms.specs.declared.Span.{Span}
use Rattle.hd_terms.specs.declared.Slot.{Slot}
use Rattle.hd_terms.specs.Types.{is_id_type}
use Rattle.hd_terms.specs.Records.{id_len}
use Rattle.hd_terms.specs.SubRecords.{StaticItem}
use Rattle.hd_subs.specs.declared.class.Static.{Static}
use Rattle.hd_subs.specs.declared.class.Constant.{Constant}
use Rattle.hd_subs.specs.Views.{static_view, constant_view}
use Rattle.hd_slots.specs.Table.{Table}
use Rattle.hd_graph.specs.ArrayRows.{values_of_statics, values_of_constants, value_ids, value_names, static_bytes}
use Rattle.hd_graph.specs.Building.{GrowsBy}
use Rattle.hd_graph.proofs.GrownLemmas.{IsOver, grown-over, ids-over}

-- the type and the value at an index
pub static-at : (xs : List Static) (i : ℕ) (d : Static) → get_or (values_of_statics (map static_view xs)) i (d.code, d.value) ≡
    ((get_or xs i d).code, (get_or xs i d).value)
static-at [] i d = refl
static-at (x ∷ xs) zero d = refl
static-at (x ∷ xs) (suc i) d = static-at xs i d

pub constant-at : (xs : List Constant) (i : ℕ) (d : Constant) → get_or (values_of_constants (map constant_view xs)) i (d.code, d.value) ≡
    ((get_or xs i d).code, (get_or xs i d).value)
constant-at [] i d = refl
constant-at (x ∷ xs) zero d = refl
constant-at (x ∷ xs) (suc i) d = constant-at xs i d

pub length-static-values : (xs : List Static) → length (values_of_statics (map static_view xs)) ≡ length xs
length-static-values [] = refl
length-static-values (x ∷ xs) = ap suc (length-static-values xs)

pub length-constant-values : (xs : List Constant) → length (values_of_constants (map constant_view xs)) ≡ length xs
length-constant-values [] = refl
length-constant-values (x ∷ xs) = ap suc (length-constant-values xs)

module _ (bytes : List ℕ) (size : IdSize) where
  pub ids-append : (xs ys : List (ℕ × Span)) → value_ids bytes size (xs ++ ys) ≡ value_ids bytes size xs ++ value_ids bytes size ys
  ids-append [] ys = refl
  ids-append (x ∷ xs) ys = by_type (is_id_type x.0) (ids-append xs ys)
    where
      by_type : (b : Bool) → value_ids bytes size (xs ++ ys) ≡ value_ids bytes size xs ++ value_ids bytes size ys
          → cond b (big_number (id_len size) (drop x.1.start bytes) ∷ value_ids bytes size (xs ++ ys)) (value_ids bytes size (xs ++ ys)) ≡ cond b
          (big_number (id_len size) (drop x.1.start bytes) ∷ value_ids bytes size xs) (value_ids bytes size xs) ++ value_ids bytes size ys
      by_type true e = ap (λ (is : List ℕ). big_number (id_len size) (drop x.1.start bytes) ∷ is) e
      by_type false e = e

  pub ids-le : (xs : List (ℕ × Span)) → length (value_ids bytes size xs) ≤ length xs
  ids-le [] = omega arith
  ids-le (x ∷ xs) = by_type (is_id_type x.0) (ids-le xs)
    where
      by_type : (b : Bool) → length (value_ids bytes size xs) ≤ length xs
          → length (cond b (big_number (id_len size) (drop x.1.start bytes) ∷ value_ids bytes size xs) (value_ids bytes size xs)) ≤ suc (length xs)
      by_type true le = omega (arith, le)
      by_type false le = omega (arith, le)

-- the name of one value's slot
abbrev name_of : Slot → ℕ → List Slot
name_of slot code = cond (is_id_type code) (slot ∷ []) []

names-push : (slot : ℕ → Slot) (k : ℕ) (xs : List (ℕ × Span)) (v : ℕ × Span) → value_names slot k (xs ++ v ∷ []) ≡ value_names slot k xs
    ++ name_of (slot (k + length xs)) v.0
names-push slot k [] v = ap (λ (n : ℕ). name_of (slot n) v.0) (sym (add-zero k))
names-push slot k (x ∷ xs) v =
    let index : k + 1 + length xs ≡ k + suc (length xs) = omega arith in
    by_type (is_id_type x.0) (names-push slot (k + 1) xs v ∙ ap (λ (n : ℕ). value_names slot (k + 1) xs ++ name_of (slot n) v.0) index)
  where
    by_type : (b : Bool) → value_names slot (k + 1) (xs ++ v ∷ []) ≡ value_names slot (k + 1) xs ++ name_of (slot (k + suc (length xs))) v.0
        → cond b (slot k ∷ value_names slot (k + 1) (xs ++ v ∷ [])) (value_names slot (k + 1) (xs ++ v ∷ [])) ≡ cond b (slot k ∷ value_names slot (k + 1) xs)
        (value_names slot (k + 1) xs) ++ name_of (slot (k + suc (length xs))) v.0
    by_type true e = ap (λ (ns : List Slot). slot k ∷ ns) e
    by_type false e = e

-- the IDs of the values so far were added
abbrev pub AreIdsSoFar : List (ℕ × Span) → ℕ → Table → Table → Type 0
AreIdsSoFar vs i first now = GrowsBy (value_ids first.bytes first.size (take i vs)) first now

-- so were the names of their slots
abbrev pub AreNamesSoFar : (ℕ → Slot) → List (ℕ × Span) → ℕ → List Slot → List Slot → Type 0
AreNamesSoFar slot vs i before names = names ≡ before ++ value_names slot 0 (take i vs)

pub no-ids : (vs : List (ℕ × Span)) (first : Table) → AreIdsSoFar vs 0 first first
no-ids vs first = ap (λ (f : List ℕ). record first { filling = f; count = first.count }) (sym (append-nil first.filling))
    ∙ ap (λ (n : ℕ). record first { filling = first.filling ++ []; count = n }) (sym (add-zero first.count))

-- they are over the same file
pub over-so-far : (vs : List (ℕ × Span)) (i : ℕ) (first now : Table) → AreIdsSoFar vs i first now → IsOver first now
over-so-far vs i first now h = grown-over (value_ids first.bytes first.size (take i vs)) first now h

pub one-id : (vs : List (ℕ × Span)) (i : ℕ) (d : ℕ × Span) (first now next : Table) → i < length vs → AreIdsSoFar vs i first now
    → (v : ℕ × Span) → get_or vs i d ≡ v → GrowsBy (value_ids now.bytes now.size (v ∷ [])) now next → AreIdsSoFar vs (i + 1) first next
one-id vs i d first now next lt h v is grows =
    let old = value_ids first.bytes first.size (take i vs) in
    let one = value_ids first.bytes first.size (v ∷ []) in
    let more : take (i + 1) vs ≡ take i vs ++ v ∷ [] = take_more vs i d lt ∙ ap (λ (x : ℕ × Span). take i vs ++ x ∷ []) is in
    let ids : value_ids first.bytes first.size (take (i + 1) vs) ≡ old ++ one = ap (value_ids first.bytes first.size) more
    ∙ ids-append first.bytes first.size (take i vs) (v ∷ []) in
    let count : first.count + length old + length one ≡ first.count + length (old ++ one) = omega (arith, length-append old one) in
    ids-over (v ∷ []) first now next (over-so-far vs i first now h) grows
    ∙ ap (λ (t : Table). record t { filling = t.filling ++ one; count = t.count + length one }) h
    ∙ ap (λ (f : List ℕ). record first { filling = f; count = first.count + length old + length one }) (append_assoc first.filling old one)
    ∙ ap (λ (n : ℕ). record first { filling = first.filling ++ (old ++ one); count = n }) count
    ∙ ap (λ (xs : List ℕ). record first { filling = first.filling ++ xs; count = first.count + length xs }) (sym ids)

pub one-name : (slot : ℕ → Slot) (vs : List (ℕ × Span)) (i : ℕ) (d : ℕ × Span) (before names names' : List Slot) → i < length vs
    → AreNamesSoFar slot vs i before names
    → (v : ℕ × Span) → get_or vs i d ≡ v → names' ≡ names ++ name_of (slot i) v.0 → AreNamesSoFar slot vs (i + 1) before names'
one-name slot vs i d before names names' lt h v is named =
    let more : take (i + 1) vs ≡ take i vs ++ v ∷ [] = take_more vs i d lt ∙ ap (λ (x : ℕ × Span). take i vs ++ x ∷ []) is in
    let long : 0 + length (take i vs) ≡ i = omega (arith, length-take i vs) in
    named
    ∙ ap (λ (ns : List Slot). ns ++ name_of (slot i) v.0) h
    ∙ append_assoc before (value_names slot 0 (take i vs)) (name_of (slot i) v.0)
    ∙ ap (λ (n : ℕ). before ++ (value_names slot 0 (take i vs) ++ name_of (slot n) v.0)) (sym long)
    ∙ ap (λ (ns : List Slot). before ++ ns) (sym (names-push slot 0 (take i vs) v) ∙ ap (value_names slot 0) (sym more))

pub room-so-far : (vs : List (ℕ × Span)) (i : ℕ) (first now : Table) → AreIdsSoFar vs i first now → (length now.ids ≡ length first.ids)
    × (now.count ≤ first.count + i)
room-so-far vs i first now h =
    (ap (λ (t : Table). length t.ids) h, omega (arith, ap (λ (t : Table). t.count) h, ids-le first.bytes first.size (take i vs), length-take i vs))

pub all-ids : (vs : List (ℕ × Span)) (i : ℕ) (first now : Table) → length vs ≤ i → AreIdsSoFar vs i first now
    → GrowsBy (value_ids first.bytes first.size vs) first now
all-ids vs i first now past h = subst (λ (xs : List (ℕ × Span)). GrowsBy (value_ids first.bytes first.size xs) first now) (take_all i vs past) h

pub all-names : (slot : ℕ → Slot) (vs : List (ℕ × Span)) (i : ℕ) (before names : List Slot) → length vs ≤ i → AreNamesSoFar slot vs i before names
    → names ≡ before ++ value_names slot 0 vs
all-names slot vs i before names past h = h ∙ ap (λ (xs : List (ℕ × Span)). before ++ value_names slot 0 xs) (take_all i vs past)

-- the bytes of statics, one after another
bytes-append : (xs ys : List Static) → static_bytes (map static_view (xs ++ ys)) ≡ static_bytes (map static_view xs) + static_bytes (map static_view ys)
bytes-append xs ys = ap static_bytes (map-append static_view xs ys) ∙ sum_by-append (λ (s : StaticItem). s.value.len) (map static_view xs) (map static_view ys)

pub bytes-more : (xs : List Static) (i : ℕ) (d : Static) → i < length xs → static_bytes (map static_view (take (i + 1) xs)) ≡ static_bytes
    (map static_view (take i xs)) + (get_or xs i d).value.len
bytes-more xs i d lt = omega (
  arith,
  ap (λ (ys : List Static). static_bytes (map static_view ys)) (take_more xs i d lt),
  bytes-append (take i xs)
      (get_or xs i d ∷ []),
)

pub bytes-part : (xs : List Static) (i : ℕ) → static_bytes (map static_view (take i xs)) ≤ static_bytes (map static_view xs)
bytes-part xs i = omega (arith, ap (λ (ys : List Static). static_bytes (map static_view ys)) (take-append-drop i xs), bytes-append (take i xs) (drop i xs))
