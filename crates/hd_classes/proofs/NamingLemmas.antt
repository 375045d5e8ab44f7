-- Lemmas on numbering the names of fields and statics.
use Rattle.std.proofs.Common.{◌≡◌, ◌≢◌, ◌∙◌, ◌⊎◌, inl, inr, ℕ, zero, suc, ◌+◌, ◌<◌, ◌≤◌, ◌^◌, List, [], ◌∷◌, ◌++◌, length, get_or, map, take, Option, Some}
use Rattle.std.proofs.Common.{None, Bool, true, false, not, cond, eqb, ltb, refl, sym, ap, subst, arith, append_assoc}
use Rattle.std.specs.List.{slice_get, position, prefix_len}
use Rattle.std.specs.Map.{lookup, keys_of}
use Rattle.std.proofs.lemmas.Bool.Decides.{eqb_tells}
use Rattle.std.proofs.lemmas.List.{append-nil, map-append, take_all, take_more}
use Rattle.std.proofs.lemmas.Option.{slice_get_past}
use Rattle.hd_terms.specs.Classes.{ClassTable}
use Rattle.hd_terms.specs.Objects.{text_in}
use Rattle.hd_classes.proofs.NameLemmas.{take-next}
use Rattle.hd_classes.specs.declared.name_numbers.NameNumbers.{NameNumbers}
use Rattle.hd_classes.specs.Naming.{GoesOn, IsNumber, AreNumbers, AreLists, AreNoted, NotesMore}

-- texts that go on
pub goes-nowhere : (texts : List (List ℕ)) → length texts < 2 ^ 32 → GoesOn texts texts
goes-nowhere texts few = record { more = []; is = sym (append-nil texts); few = few }

pub goes-further : (a b c : List (List ℕ)) → GoesOn a b → GoesOn b c → GoesOn a c
goes-further a b c p q =
    record { more = p.more ++ q.more; is = q.is ∙ ap (λ (xs : List (List ℕ)). xs ++ q.more) p.is ∙ append_assoc a p.more q.more; few = q.few }

pub notes-nothing : (t : ClassTable) (names : NameNumbers) → AreNoted t names → NotesMore t names names
notes-nothing t names noted = record { noted = noted; more = goes-nowhere names.texts noted.few }

pub notes-further : (t : ClassTable) (a b c : NameNumbers) → NotesMore t a b → NotesMore t b c → NotesMore t a c
notes-further t a b c p q = record { noted = q.noted; more = goes-further a.texts b.texts c.texts p.more q.more }

get-middle : {X : Type 0} (xs : List X) (x : X) (ys : List X) → slice_get (xs ++ x ∷ ys) (length xs) ≡ Some x
get-middle [] x ys = refl
get-middle (y ∷ xs) x ys = get-middle xs x ys

-- a text is copied
module _ (t : ClassTable) (old new : NameNumbers) (id n : ℕ) (text : List ℕ) (noted : AreNoted t old) (grown : new.texts ≡ old.texts ++ text ∷ [])
    (few : length new.texts < 2 ^ 32) (at : n ≡ length old.texts)
    (is : Some text ≡ text_in t id) (updates : (k : ℕ)
    → lookup (λ (x : ℕ). eqb k x) new.numbers.entries ≡ cond (eqb id k) (Some n) (lookup (λ (x : ℕ). eqb k x) old.numbers.entries)) where
  more : GoesOn old.texts new.texts
  more = record { more = text ∷ []; is = grown; few = few }

  pub number-new : IsNumber t new.texts id n
  number-new texts' on =
      ap (λ (xs : List (List ℕ)). slice_get xs n) (on.is ∙ ap (λ (xs : List (List ℕ)). xs ++ on.more) grown ∙ append_assoc old.texts (text ∷ []) on.more)
      ∙ ap (slice_get (old.texts ++ text ∷ on.more)) at
      ∙ get-middle old.texts text on.more
      ∙ is

  by-id : (k m : ℕ) → ((eqb id k ≡ true) × (id ≡ k)) ⊎ ((eqb id k ≡ false) × (id ≢ k))
      → cond (eqb id k) (Some n) (lookup (λ (x : ℕ). eqb k x) old.numbers.entries) ≡ Some m → IsNumber t new.texts k m
  by-id k m (inl (yes_so, e)) found =
      let here : Some n ≡ Some m = ap (λ (b : Bool). cond b (Some n) (lookup (λ (x : ℕ). eqb k x) old.numbers.entries)) (sym yes_so) ∙ found in
      let same : n ≡ m = cc in
      subst (λ (i : ℕ). IsNumber t new.texts i m) e (subst (IsNumber t new.texts id) same number-new)
  by-id k m (inr (no_so, ne)) found = λ texts' on.
      noted.numbers k m (ap (λ (b : Bool). cond b (Some n) (lookup (λ (x : ℕ). eqb k x) old.numbers.entries)) (sym no_so) ∙ found) texts'
      (goes-further old.texts new.texts texts' more on)

  pub notes-new : NotesMore t old new
  notes-new = record {
    noted = record { few = few; numbers = λ k m found. by-id k m (eqb_tells id k) (sym (updates k) ∙ found) };
    more = more;
  }

-- the number of no text
pub number-none : (t : ClassTable) (texts : List (List ℕ)) (id : ℕ) → None ≡ text_in t id → IsNumber t texts id 4294967295
number-none t texts id none texts' on = slice_get_past texts' 4294967295 (omega (arith, on.few)) ∙ none

-- one number more, and one list more
pub numbers-push : (t : ClassTable) (texts texts2 : List (List ℕ)) (ids ns : List ℕ) (id n : ℕ) → AreNumbers t texts ids ns → GoesOn texts texts2
    → IsNumber t texts2 id n → AreNumbers t texts2 (ids ++ id ∷ []) (ns ++ n ∷ [])
numbers-push t texts texts2 ids ns id n are more is texts' on =
    map-append (slice_get texts') ns (n ∷ [])
    ∙ ap (λ (xs : List (Option (List ℕ))). xs ++ slice_get texts' n ∷ []) (are texts' (goes-further texts texts2 texts' more on))
    ∙ ap (λ (x : Option (List ℕ)). map (text_in t) ids ++ x ∷ []) (is texts' on)
    ∙ sym (map-append (text_in t) ids (id ∷ []))

pub lists-push : (t : ClassTable) (texts texts2 : List (List ℕ)) (idss nss : List (List ℕ)) (ids ns : List ℕ) → AreLists t texts idss nss
    → GoesOn texts texts2 → AreNumbers t texts2 ids ns
    → AreLists t texts2 (idss ++ ids ∷ []) (nss ++ ns ∷ [])
lists-push t texts texts2 idss nss ids ns are more is texts' on =
    map-append (map (slice_get texts')) nss (ns ∷ [])
    ∙ ap (λ (xs : List (List (Option (List ℕ)))). xs ++ map (slice_get texts') ns ∷ []) (are texts' (goes-further texts texts2 texts' more on))
    ∙ ap (λ (x : List (Option (List ℕ))). map (map (text_in t)) idss ++ x ∷ []) (is texts' on)
    ∙ sym (map-append (map (text_in t)) idss (ids ∷ []))

-- what is made of the first `i` elements, and of one more
pub map-next : {X Y : Type 0} (f : X → Y) (xs : List X) (i : ℕ) (x : X) → slice_get xs i ≡ Some x → map f (take (i + 1) xs) ≡ map f (take i xs) ++ f x ∷ []
map-next f xs i x at = ap (map f) (take-next xs i x at) ∙ map-append f (take i xs) (x ∷ [])

past-end : {X : Type 0} (xs : List X) (i : ℕ) → slice_get xs i ≡ None → length xs ≤ i
past-end [] i e = omega arith
past-end (x ∷ xs) zero e = cc
past-end (x ∷ xs) (suc i) e = let rest = past-end xs i e in omega arith

pub take-whole : {X : Type 0} (xs : List X) (i : ℕ) → slice_get xs i ≡ None → take i xs ≡ xs
take-whole xs i none = take_all i xs (past-end xs i none)

pub numbers-next : {X : Type 0} (t : ClassTable) (texts texts2 : List (List ℕ)) (f : X → ℕ) (xs : List X) (i : ℕ) (d : X) (ns ns2 : List ℕ) (n : ℕ)
    → i < length xs → AreNumbers t texts (map f (take i xs)) ns → GoesOn texts texts2
    → IsNumber t texts2 (f (get_or xs i d)) n → ns2 ≡ ns ++ n ∷ [] → AreNumbers t texts2 (map f (take (i + 1) xs)) ns2
numbers-next t texts texts2 f xs i d ns ns2 n lt are more is grown =
    let ids : map f (take (i + 1) xs) ≡ map f (take i xs) ++ f (get_or xs i d) ∷ [] =
    ap (map f) (take_more xs i d lt) ∙ map-append f (take i xs) (get_or xs i d ∷ []) in
    subst (λ (ms : List ℕ). AreNumbers t texts2 (map f (take (i + 1) xs)) ms) (sym grown)
    (subst (λ (ks : List ℕ). AreNumbers t texts2 ks (ns ++ n ∷ [])) (sym ids)
    (numbers-push t texts texts2 (map f (take i xs)) ns (f (get_or xs i d)) n are more is))

pub lists-next : {X : Type 0} (t : ClassTable) (texts texts2 : List (List ℕ)) (f : X
    → List ℕ) (xs : List X) (i : ℕ) (x : X) (nss nss2 : List (List ℕ)) (ns : List ℕ) → slice_get xs i ≡ Some x → AreLists t texts (map f (take i xs)) nss
    → GoesOn texts texts2 → AreNumbers t texts2 (f x) ns → nss2 ≡ nss ++ ns ∷ [] → AreLists t texts2 (map f (take (i + 1) xs)) nss2
lists-next t texts texts2 f xs i x nss nss2 ns at are more is grown =
    subst (λ (ms : List (List ℕ)). AreLists t texts2 (map f (take (i + 1) xs)) ms) (sym grown)
    (subst (λ (ks : List (List ℕ)). AreLists t texts2 ks (nss ++ ns ∷ [])) (sym (map-next f xs i x at))
    (lists-push t texts texts2 (map f (take i xs)) nss (f x) ns are more is))

case-place : (b : Bool) (n i : ℕ) → cond b (Some n) None ≡ Some i → n ≡ i
case-place true n i e = cc
case-place false n i e = cc

-- no entry before the first of an ID has the ID
module _ {X Y : Type 0} (id : ℕ) (g : ℕ → Y) where
  abbrev made : List (ℕ × X) → List (ℕ × Y)
  made es = map (λ (e : ℕ × X). (e.0, g e.0)) es

  case-absent : (b : Bool) (e : ℕ × X) (es : List (ℕ × X)) (n : ℕ) → eqb id e.0 ≡ b → lookup (λ (x : ℕ). eqb id x) (made (take n es)) ≡ None
      → lookup (λ (x : ℕ). eqb id x) (made (take (cond (not b) (1 + n) 0) (e ∷ es))) ≡ None
  case-absent true e es n is none = refl
  case-absent false e es n is none =
      let more : 1 + n ≡ suc n = omega arith in
      ap (λ (k : ℕ). lookup (λ (x : ℕ). eqb id x) (made (take k (e ∷ es)))) more
      ∙ ap (λ (b : Bool). cond b (Some (g e.0)) (lookup (λ (x : ℕ). eqb id x) (made (take n es)))) is
      ∙ none

  absent-prefix : (es : List (ℕ × X)) → lookup (λ (x : ℕ). eqb id x) (made (take (prefix_len (λ (x : ℕ). not (eqb id x)) (keys_of es)) es)) ≡ None
  absent-prefix [] = refl
  absent-prefix (e ∷ es) = case-absent (eqb id e.0) e es (prefix_len (λ (x : ℕ). not (eqb id x)) (keys_of es)) refl (absent-prefix es)

  pub absent-before : (es : List (ℕ × X)) (i : ℕ) → position (λ (x : ℕ). eqb id x) (keys_of es) ≡ Some i
      → lookup (λ (x : ℕ). eqb id x) (made (take i es)) ≡ None
  absent-before es i at =
      let n = prefix_len (λ (x : ℕ). not (eqb id x)) (keys_of es) in
      ap (λ (k : ℕ). lookup (λ (x : ℕ). eqb id x) (made (take k es))) (sym (case-place (ltb n (length (keys_of es))) n i at)) ∙ absent-prefix es
