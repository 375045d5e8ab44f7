-- Lemmas on the names of classes: copies of texts, and one loaded class after another.
use Rattle.std.proofs.Common.{◌≡◌, ◌≢◌, ◌∙◌, ◌⊎◌, inl, inr, ℕ, ◌+◌, ◌<◌, ◌≤◌, List, [], ◌∷◌, ◌++◌, length, get_or, take, drop, Option, Some, None, is_some}
use Rattle.std.proofs.Common.{Bool, true, false, ◌||◌, cond, eqb, eqb-true, refl, sym, ap, subst, arith, All, length-append}
use Rattle.std.specs.Option.{option_map, option_and_then}
use Rattle.std.specs.List.{find, filter_map, cons_option, list_any}
use Rattle.std.specs.Map.{lookup}
use Rattle.std.proofs.lemmas.Bool.Decides.{eqb_tells}
use Rattle.std.proofs.lemmas.List.{append-nil, map-append, take_more, take_all, take-append-le, drop-append-le, length-drop, length-take}
use Rattle.std.proofs.lemmas.List.Elements.{filter_map-append, All-nil, All-cons, All-head, All-tail, All-append}
use Rattle.std.proofs.lemmas.List.Folds.{list_any-append}
use Rattle.std.proofs.Math.Seq.{drop-append_seam}
use Rattle.hd_terms.specs.declared.Span.{Span}
use Rattle.hd_terms.specs.declared.Load.{Load}
use Rattle.hd_terms.specs.Classes.{ClassTable, text_of_id, bytes_of_span}
use Rattle.hd_terms.specs.Objects.{loaded_name, names_of}
use Rattle.hd_classes.specs.Known.{Known, name_at, AreClassesOf, IsTextWithin}
use Rattle.hd_classes.specs.Firsts.{firsts}
use Rattle.hd_classes.proofs.FirstLemmas.{if_new, firsts-push, first_of_each-firsts}
use Rattle.hd_classes.proofs.SearchLemmas.{text-within}
use Rattle.hd_classes.specs.declared.class_names.CopiedNames.{CopiedNames}
use Rattle.hd_classes.specs.Names.{known_name, known_names, first_names, IsCopy, AreCopies, CopiesText, names_by, ArePartsOf, HasNames, AddsName}

-- a part of a text stays when the text goes on
pub part-stays : (text more : List ℕ) (part : Span) → part.start + part.len ≤ length text → bytes_of_span (text ++ more) part ≡ bytes_of_span text part
part-stays text more part within =
    ap (λ (xs : List ℕ). take part.len xs) (drop-append-le part.start text more (omega arith))
    ∙ take-append-le part.len (drop part.start text) more (omega (arith, length-drop part.start text))

-- a span at the end of a text
length-span : (bytes : List ℕ) (span : Span) → span.start + span.len ≤ length bytes → length (bytes_of_span bytes span) ≡ span.len
length-span bytes span within = omega (arith, length-take span.len (drop span.start bytes), length-drop span.start bytes)

pub copied-at-end : (bytes text : List ℕ) (span : Span) → span.start + span.len ≤ length bytes → IsCopy bytes (text ++ bytes_of_span bytes span) span
    (record { start = length text; len = span.len })
copied-at-end bytes text span within = record {
  within = omega (arith, length-append text (bytes_of_span bytes span), length-span bytes span within);
  same =
      ap (λ (xs : List ℕ). take span.len xs) (drop-append_seam text (bytes_of_span bytes span))
      ∙ take_all span.len (bytes_of_span bytes span) (omega (arith, length-span bytes span within));
}

pub copy-stays : (bytes text more : List ℕ) (span part : Span) → IsCopy bytes text span part → IsCopy bytes (text ++ more) span part
copy-stays bytes text more span part h = record {
  within = omega (arith, length-append text more, h.within);
  same = part-stays text more part h.within ∙ h.same;
}

-- one entry more is found, or those that were there
one-more : (P : ℕ → Span → Type 0) (key id : ℕ) (value part : Span) (old : Option Span) → P key value → (old ≡ Some part → P id part)
    → ((eqb key id ≡ true) × (key ≡ id)) ⊎ ((eqb key id ≡ false) × (key ≢ id)) → cond (eqb key id) (Some value) old ≡ Some part → P id part
one-more P key id value part old here there (inl (t, e)) is =
    let found : Some value ≡ Some part = ap (λ (b : Bool). cond b (Some value) old) (sym t) ∙ is in
    let same : value ≡ part = cc in
    subst (λ (k : ℕ). P k part) e (subst (P key) same here)
one-more P key id value part old here there (inr (f, ne)) is = there (ap (λ (b : Bool). cond b (Some value) old) (sym f) ∙ is)

-- a span that was copied before
pub copied-before : (bytes text : List ℕ) (copies : List (ℕ × Span)) (span part : Span) → AreCopies bytes text copies
    → lookup (λ (x : ℕ). eqb span.start x) copies ≡ Some part → part.len ≡ span.len
    → CopiesText bytes span part text text copies
copied-before bytes text copies span part known there long = record {
  copy = subst (λ (n : ℕ). IsCopy bytes text (record { start = span.start; len = n }) part) long (known span.start part there);
  more = [];
  goes_on = sym (append-nil text);
  known = known;
}

-- a span that is copied now
pub copied-now : (bytes text text' : List ℕ) (copies copies' : List (ℕ × Span)) (span part : Span) → span.start + span.len ≤ length bytes
    → AreCopies bytes text copies → part ≡ record { start = length text; len = span.len }
    → text' ≡ text ++ bytes_of_span bytes span
    → ((id : ℕ) → lookup (λ (x : ℕ). eqb id x) copies' ≡ cond (eqb span.start id) (Some part) (lookup (λ (x : ℕ). eqb id x) copies))
    → CopiesText bytes span part text text' copies'
copied-now bytes text text' copies copies' span part within known at_end is updates =
    let front : List ℕ = text ++ bytes_of_span bytes span in
    let here : IsCopy bytes front span part = subst (λ (p : Span). IsCopy bytes front span p) (sym at_end) (copied-at-end bytes text span within) in
    let long : part.len ≡ span.len = ap (λ (p : Span). p.len) at_end in
    let P : ℕ → Span → Type 0 = λ (offset : ℕ) (q : Span). IsCopy bytes front (record { start = offset; len = q.len }) q in
    let first : P span.start part = subst (λ (n : ℕ). IsCopy bytes front (record { start = span.start; len = n }) part) (sym long) here in
    let more : AreCopies bytes front copies' =
    λ (offset : ℕ) (q : Span) (there : lookup (λ (x : ℕ). eqb offset x) copies' ≡ Some q).
    one-more P span.start offset part q (lookup (λ (x : ℕ). eqb offset x) copies) first
    (λ (old : lookup (λ (x : ℕ). eqb offset x) copies ≡ Some q). copy-stays bytes text (bytes_of_span bytes span) (record { start = offset; len = q.len }) q
    (known offset q old))
    (eqb_tells span.start offset) (sym (updates offset) ∙ there) in
    record {
      copy = subst (λ (xs : List ℕ). IsCopy bytes xs span part) (sym is) here;
      more = bytes_of_span bytes span;
      goes_on = is;
      known = subst (λ (xs : List ℕ). AreCopies bytes xs copies') (sym is) more;
    }

-- what is found by a key

-- of names, what the part says that is found
found-name : (b : Bool) (f : Span → List ℕ) (part : Span) (o : Option Span) (r : Option (List ℕ)) → r ≡ option_map f o
    → cond b (Some (f part)) r ≡ option_map f (cond b (Some part) o)
found-name true f part o r e = refl
found-name false f part o r e = e

pub lookup-names : (text : List ℕ) (parts : List (ℕ × Span)) (id : ℕ) → lookup (λ (x : ℕ). eqb id x) (names_by text parts) ≡ option_map (bytes_of_span text)
    (lookup (λ (x : ℕ). eqb id x) parts)
lookup-names text [] id = refl
lookup-names text (p ∷ parts) id = found-name (eqb id p.0) (bytes_of_span text) p.1 (lookup (λ (x : ℕ). eqb id x) parts) _ (lookup-names text parts id)

found-part : (b : Bool) (P : Span → Type 0) (here part : Span) (o : Option Span) → P here → (o ≡ Some part → P part) → cond b (Some here) o ≡ Some part → P part
found-part true P here part o p more is = let same : here ≡ part = cc in subst P same p
found-part false P here part o p more is = more is

pub part-within : (text : List ℕ) (parts : List (ℕ × Span)) (id : ℕ) (part : Span) → ArePartsOf text parts → lookup (λ (x : ℕ). eqb id x) parts ≡ Some part
    → part.start + part.len ≤ length text
part-within text [] id part all is = cc
part-within text (p ∷ parts) id part all is =
    let P : ℕ × Span → Type 0 = λ (q : ℕ × Span). q.1.start + q.1.len ≤ length text in
    found-part (eqb id p.0) (λ (s : Span). s.start + s.len ≤ length text) p.1 part (lookup (λ (x : ℕ). eqb id x) parts) (All-head P p parts all)
    (part-within text parts id part (All-tail P p parts all)) is

-- one entry more
is_some-push : (b : Bool) (v : Span) → is_some (cond b (Some v) None) ≡ (false || (b || false))
is_some-push true v = refl
is_some-push false v = refl

is_some-cons : (b : Bool) (v : Span) (o : Option Span) (c d : Bool) → is_some o ≡ (c || d)
    → is_some (cond b (Some v) o) ≡ (is_some (cond b (Some v) None) || (c || d))
is_some-cons true v o c d e = refl
is_some-cons false v o c d e = e

or-again : (b : Bool) (v : Span) (o : Option Span) (d : Bool) → (is_some (cond b (Some v) None) || (is_some o || d)) ≡ (is_some (cond b (Some v) o) || d)
or-again true v o d = refl
or-again false v o d = refl

lookup-push : (test : ℕ → Bool) (es : List (ℕ × Span)) (k : ℕ) (v : Span)
    → is_some (lookup test (es ++ (k, v) ∷ [])) ≡ (is_some (lookup test es) || (test k || false))
lookup-push test [] k v = is_some-push (test k) v
lookup-push test (e ∷ es) k v =
    is_some-cons (test e.0) e.1 (lookup test (es ++ (k, v) ∷ [])) (is_some (lookup test es)) (test k || false) (lookup-push test es k v)
    ∙ or-again (test e.0) e.1 (lookup test es) (test k || false)

-- parts stay when the text goes on
pub names-stay : (text more : List ℕ) (parts : List (ℕ × Span)) → ArePartsOf text parts → names_by (text ++ more) parts ≡ names_by text parts
names-stay text more [] all = refl
names-stay text more (p ∷ parts) all =
    let P : ℕ × Span → Type 0 = λ (q : ℕ × Span). q.1.start + q.1.len ≤ length text in
    ap (λ (xs : List ℕ). (p.0, xs) ∷ names_by (text ++ more) parts) (part-stays text more p.1 (All-head P p parts all))
    ∙ ap (λ (ns : List (ℕ × List ℕ)). (p.0, bytes_of_span text p.1) ∷ ns) (names-stay text more parts (All-tail P p parts all))

parts-stay : (text more : List ℕ) (parts : List (ℕ × Span)) → ArePartsOf text parts → ArePartsOf (text ++ more) parts
parts-stay text more [] all = All-nil (λ (q : ℕ × Span). q.1.start + q.1.len ≤ length (text ++ more))
parts-stay text more (p ∷ parts) all =
    let P : ℕ × Span → Type 0 = λ (q : ℕ × Span). q.1.start + q.1.len ≤ length text in
    let here : p.1.start + p.1.len ≤ length text = All-head P p parts all in
    All-cons (λ (q : ℕ × Span). q.1.start + q.1.len ≤ length (text ++ more)) p parts (omega (arith, length-append text more))
    (parts-stay text more parts (All-tail P p parts all))

-- one load more
case-or : (a b : Bool) → (b ≡ true → a ≡ true) → a ≡ (a || (b || false))
case-or true b h = refl
case-or false true h = h refl
case-or false false h = refl

abbrev class_of : ℕ × List ℕ → ℕ
class_of n = n.0

module _ (bytes : List ℕ) (k : Known) (loads : List Load) (l : Load) where
  -- a class without a name
  pub no-name : (c : CopiedNames) → name_at k l.class ≡ None → HasNames bytes k loads c → HasNames bytes k (loads ++ l ∷ []) c
  no-name c none h =
      let same : known_names bytes k loads ≡ known_names bytes k (loads ++ l ∷ []) =
      sym
      (filter_map-append (known_name bytes k) loads (l ∷ [])
      ∙ ap (λ (o : Option Span). known_names bytes k loads ++ cons_option (option_map (λ (s : Span). (l.class, bytes_of_span bytes s)) o) []) none
      ∙ append-nil (known_names bytes k loads)) in
      record {
        known = h.known;
        within = h.within;
        names = h.names ∙ ap (firsts class_of) same;
        seen = λ (id : ℕ). h.seen id ∙ ap (list_any (λ (n : ℕ × List ℕ). eqb id n.0)) same;
      }

  -- a class with a name
  module _ (span : Span) (is : name_at k l.class ≡ Some span) where
    abbrev x : ℕ × List ℕ
    x = (l.class, bytes_of_span bytes span)

    names-next : known_names bytes k (loads ++ l ∷ []) ≡ known_names bytes k loads ++ x ∷ []
    names-next =
        filter_map-append (known_name bytes k) loads (l ∷ [])
        ∙ ap (λ (o : Option Span). known_names bytes k loads ++ cons_option (option_map (λ (s : Span). (l.class, bytes_of_span bytes s)) o) []) is

    firsts-next : (b : Bool) → list_any (λ (n : ℕ × List ℕ). eqb l.class n.0) (known_names bytes k loads) ≡ b
        → first_names bytes k (loads ++ l ∷ []) ≡ first_names bytes k loads ++ if_new class_of b x
    firsts-next b e =
        ap (firsts class_of) names-next ∙ firsts-push class_of (known_names bytes k loads) x
        ∙ ap (λ (known : Bool). first_names bytes k loads ++ if_new class_of known x) e

    seen-next : (id : ℕ) → list_any (λ (n : ℕ × List ℕ). eqb id n.0) (known_names bytes k (loads ++ l ∷ [])) ≡
        (list_any (λ (n : ℕ × List ℕ). eqb id n.0) (known_names bytes k loads) || (eqb id l.class || false))
    seen-next id = ap (list_any (λ (n : ℕ × List ℕ). eqb id n.0)) names-next ∙ list_any-append (λ (n : ℕ × List ℕ). eqb id n.0) (known_names bytes k loads)
        (x ∷ [])

    -- it was loaded before
    pub name-again : (c : CopiedNames) → is_some (lookup (λ (y : ℕ). eqb l.class y) c.parts.entries) ≡ true → HasNames bytes k loads c
        → HasNames bytes k (loads ++ l ∷ []) c
    name-again c there h =
        let known : list_any (λ (n : ℕ × List ℕ). eqb l.class n.0) (known_names bytes k loads) ≡ true = sym (h.seen l.class) ∙ there in
        let before : (id : ℕ) → eqb id l.class ≡ true → list_any (λ (n : ℕ × List ℕ). eqb id n.0) (known_names bytes k loads) ≡ true =
        λ (id : ℕ) (e : eqb id l.class ≡ true). ap (λ (i : ℕ). list_any (λ (n : ℕ × List ℕ). eqb i n.0) (known_names bytes k loads)) (eqb-true id l.class e)
        ∙ known in
        record {
          known = h.known;
          within = h.within;
          names = h.names ∙ sym (append-nil (first_names bytes k loads)) ∙ sym (firsts-next true known);
          seen = λ (id : ℕ). h.seen id ∙ case-or (list_any (λ (n : ℕ × List ℕ). eqb id n.0) (known_names bytes k loads)) (eqb id l.class) (before id)
              ∙ sym (seen-next id);
        }

    -- it is loaded for the first time
    pub name-added : (c c' : CopiedNames) (part : Span) → is_some (lookup (λ (y : ℕ). eqb l.class y) c.parts.entries) ≡ false
        → CopiesText bytes span part c.text.items c'.text.items c'.copies.entries
        → c'.parts.entries ≡ c.parts.entries ++ (l.class, part) ∷ [] → HasNames bytes k loads c → HasNames bytes k (loads ++ l ∷ []) c'
    name-added c c' part new copied entries h =
        let text : List ℕ = c.text.items in
        let text' : List ℕ = c'.text.items in
        let parts : List (ℕ × Span) = c.parts.entries in
        let known : list_any (λ (n : ℕ × List ℕ). eqb l.class n.0) (known_names bytes k loads) ≡ false = sym (h.seen l.class) ∙ new in
        let P : ℕ × Span → Type 0 = λ (q : ℕ × Span). q.1.start + q.1.len ≤ length text' in
        let old : ArePartsOf text' parts = subst (λ (xs : List ℕ). ArePartsOf xs parts) (sym copied.goes_on) (parts-stay text copied.more parts h.within) in
        let all : ArePartsOf text' (parts ++ (l.class, part) ∷ []) =
        All-append P parts ((l.class, part) ∷ []) old (All-cons P (l.class, part) [] copied.copy.within (All-nil P)) in
        let still : names_by text' parts ≡ first_names bytes k loads = ap (λ (xs : List ℕ). names_by xs parts) copied.goes_on
        ∙ names-stay text copied.more parts h.within ∙ h.names in
        record {
          known = copied.known;
          within = subst (ArePartsOf text') (sym entries) all;
          names =
              ap (names_by text') entries
              ∙ map-append (λ (p : ℕ × Span). (p.0, bytes_of_span text' p.1)) parts ((l.class, part) ∷ [])
              ∙ ap (λ (ns : List (ℕ × List ℕ)). ns ++ (l.class, bytes_of_span text' part) ∷ []) still
              ∙ ap (λ (xs : List ℕ). first_names bytes k loads ++ (l.class, xs) ∷ []) copied.copy.same
              ∙ sym (firsts-next false known);
          seen =
              λ (id : ℕ).
              ap (λ (es : List (ℕ × Span)). is_some (lookup (λ (y : ℕ). eqb id y) es)) entries
              ∙ lookup-push (λ (y : ℕ). eqb id y) parts l.class part
              ∙ ap (λ (b : Bool). b || (eqb id l.class || false)) (h.seen id)
              ∙ sym (seen-next id);
        }

-- no name yet
pub no-names : (bytes : List ℕ) (k : Known) (c : CopiedNames) → c.copies.entries ≡ [] → c.parts.entries ≡ [] → HasNames bytes k [] c
no-names bytes k c none_copied none = record {
  known = λ (offset : ℕ) (part : Span) there. let e : None ≡ Some part = ap (λ (es : List (ℕ × Span)). lookup (λ (x : ℕ). eqb offset x) es) (sym none_copied)
      ∙ there in cc;
  within = subst (ArePartsOf c.text.items) (sym none) (All-nil (λ (q : ℕ × Span). q.1.start + q.1.len ≤ length c.text.items));
  names = ap (names_by c.text.items) none;
  seen = λ (id : ℕ). ap (λ (es : List (ℕ × Span)). is_some (lookup (λ (x : ℕ). eqb id x) es)) none;
}

-- the load at an index, after those before it
pub load-next : (bytes : List ℕ) (k : Known) (xs : List Load) (i : ℕ) (d : Load) (name : Option Span) (c c' : CopiedNames) → i < length xs
    → name ≡ name_at k (get_or xs i d).class
    → AddsName bytes (get_or xs i d).class name c c' → HasNames bytes k (take i xs) c → HasNames bytes k (take (i + 1) xs) c'
load-next bytes k xs i d name c c' lt is adds h =
    let P : List Load → Type 0 = λ (ys : List Load). HasNames bytes k ys c' in
    subst P (sym (take_more xs i d lt)) (adds k (take i xs) (get_or xs i d) refl (sym is) h)

-- the names that are copied are those of the file
fun_ext : {A B : Type 0} {f g : A → B} → ((x : A) → f x ≡ g x) → f ≡ g
fun_ext h = λ i x. h x i

module _ (t : ClassTable) (k : Known) (h : AreClassesOf t k) where
  pub first-names : first_names t.bytes k t.loads ≡ names_of t
  first-names =
      ap (λ (f : Load → Option (ℕ × List ℕ)). firsts class_of (filter_map f t.loads))
      (fun_ext (λ (l : Load). ap (option_map (λ (s : Span). (l.class, bytes_of_span t.bytes s))) (h.names l.class)))
      ∙ sym (first_of_each-firsts class_of (filter_map (loaded_name t) t.loads))

  -- and they lie in it
  name-by : (n : ℕ) (o : Option Load) (span : Span) → All (IsTextWithin n) t.texts → option_and_then (λ (l : Load). text_of_id t l.name) o ≡ Some span
      → span.start + span.len ≤ n
  name-by n None span all is = cc
  name-by n (Some l) span all is = text-within n t.texts l.name span all (sym is)

  pub names-in-file : (n : ℕ) → All (IsTextWithin n) t.texts → (id : ℕ) (span : Span) → name_at k id ≡ Some span → span.start + span.len ≤ n
  names-in-file n all id span is = name-by n (find (λ (l : Load). eqb id l.class) t.loads) span all (sym (h.names id) ∙ is)
