-- Groups that are found by their names.
use Rattle.std.proofs.Common.{◌≡◌, ◌∙◌, ℕ, zero, suc, ◌+◌, ◌<◌, ◌≤◌, Bool, true, false, List, [], ◌∷◌, ◌++◌, length, map, take, drop, get_or, Option, Some}
use Rattle.std.proofs.Common.{None, refl, sym, ap, subst, arith, append_assoc, take-append-drop, length-append, true≢false, Ok}
use Rattle.std.specs.Prelude.{◌↔◌, All, Contains, filter, is_some}
use Rattle.std.specs.List.{AllPairs}
use Rattle.std.specs.List.Sorted.{IsStrictlyIncreasing}
use Rattle.std.specs.Str.Iter.{HasSubslice}
use Rattle.std.proofs.lemmas.Bool.{cond_both}
use Rattle.std.proofs.lemmas.List.{get_or-append-add, get_or_append_left, get_or-map, length-map}
use Rattle.std.proofs.lemmas.List.Elements.{Contains-append_right}
use Rattle.std.proofs.lemmas.List.Kept.{AllPairs-from_increasing, AllPairs-filter}
use Rattle.hd_terms.specs.declared.Event.{Event}
use Rattle.hd_terms.specs.declared.Group.{Group}
use Rattle.hd_terms.specs.declared.Strength.{Strength}
use Rattle.hd_terms.specs.Dump.{Dump}
use Rattle.hd_terms.specs.Listed.{AreNamedGroups, IsNamedGroup, group_key}
use Rattle.hd_terms.specs.Totals.{AreGroupCounts}
use Rattle.hd_lines.specs.Names.{IsNamedWith}
use Rattle.hd_lines.specs.Replies.{Answer, IsFound, found_line}
use Rattle.hd_analyst.specs.Found.{AreNamed, TellsFound, has_match, is_named}
use Rattle.memchr.specs.Find.{FindsNeedle, OccursAt}
use Rattle.memchr.proofs.lemmas.MatchLemmas.{OccursAt-split}
use Rattle.memchr.proofs.lemmas.ValueLemmas.{FindsNeedle-value}

-- where a text occurs in a name, the name contains it
occurs-in : (name text : List ℕ) (k : ℕ) → OccursAt name text k → HasSubslice name text
occurs-in name text k occurs =
    (take k name, drop (k + length text) name, sym (take-append-drop k name) ∙ ap (λ (rest : List ℕ). take k name ++ rest) (OccursAt-split name text k occurs))

-- and where the name contains it, it occurs
occurs-from : (name text : List ℕ) (h : HasSubslice name text) → OccursAt name text (length h.0)
occurs-from name text (a, b, is) = record {
  fits = omega (arith, ap (λ (l : List ℕ). length l) is, length-append a (text ++ b), length-append text b);
  reads = λ j lt. ap (λ (l : List ℕ). get_or l (length a + j) 0) is ∙ get_or-append-add a (text ++ b) j 0 ∙ get_or_append_left text b 0 j lt;
}

-- what a search answers
pub tells : (name text : List ℕ) (r : Option ℕ) → FindsNeedle name text 0 r → TellsFound name text (is_some r)
tells name text None h = record {
  match = ap is_some (FindsNeedle-value name text None h);
  contains = (
    λ e. absurd cc,
    λ has. absurd (h (length has.0) (omega arith) (let o = occurs-from name text has in let fits = o.fits in omega arith)
        (occurs-from name text has)),
  );
}
tells name text (Some k) h = record {
  match = ap is_some (FindsNeedle-value name text (Some k) h);
  contains = (λ e. occurs-in name text k h.1, λ has. refl);
}

-- groups whose keys rise
pairs : (groups : List Group) → IsStrictlyIncreasing (map group_key groups) → AllPairs (λ a b. group_key a < group_key b) groups
pairs groups rises i j d lt within =
    let all = AllPairs-from_increasing (map group_key groups) rises i j (group_key d) lt (omega (arith, within, length-map groups group_key)) in
    subst (λ (n : ℕ). n < group_key (get_or groups j d)) (get_or-map group_key groups i d (group_key d) (omega (arith, lt, within)))
    (subst (λ (n : ℕ). get_or (map group_key groups) i (group_key d) < n) (get_or-map group_key groups j d (group_key d) within) all)

rising : (groups : List Group) → AllPairs (λ a b. group_key a < group_key b) groups → IsStrictlyIncreasing (map group_key groups)
rising [] h k lt = absurd (omega arith)
rising (g ∷ groups) h k lt =
    let within : k + 1 < length (g ∷ groups) = omega (arith, lt, length-map (g ∷ groups) group_key) in
    let one = h k (k + 1) g (omega arith) within in
    subst (λ (n : ℕ). get_or (map group_key (g ∷ groups)) k 0 < n) (sym (get_or-map group_key (g ∷ groups) (k + 1) g 0 within))
    (subst (λ (n : ℕ). n < group_key (get_or (g ∷ groups) (k + 1) g)) (sym (get_or-map group_key (g ∷ groups) k g 0 (omega (arith, within)))) one)

-- what is in a filtered list is in the list, and passes
kept-from : {X : Type 0} (p : X → Bool) (xs : List X) (x : X) → Contains (filter p xs) x → Contains xs x × (p x ≡ true)
kept-from p [] x (k, lt, is) = absurd (omega arith)
kept-from {X} p (y ∷ ys) x c =
    let later : Contains (filter p ys) x → Contains ys x × (p x ≡ true) = λ at. kept-from p ys x at in
    cond_both (p y) (y ∷ filter p ys) (filter p ys) (λ (l : List X). Contains l x → Contains (y ∷ ys) x × (p x ≡ true))
    (λ passes at. here later passes at)
    (λ _ at. there (later at))
    c
  where
    there : Contains ys x × (p x ≡ true) → Contains (y ∷ ys) x × (p x ≡ true)
    there (at, passes) = (Contains-append_right (y ∷ []) ys x at, passes)

    here : (Contains (filter p ys) x → Contains ys x × (p x ≡ true)) → p y ≡ true → Contains (y ∷ filter p ys) x → Contains (y ∷ ys) x × (p x ≡ true)
    here later passes (zero, lt, is) = ((zero, omega arith, is), subst (λ (z : X). p z ≡ true) is passes)
    here later passes (suc k, lt, is) = there (later (k, omega arith, is))

-- what is in a list and passes is in the filtered list
kept-in : {X : Type 0} (p : X → Bool) (xs : List X) (x : X) → Contains xs x → p x ≡ true → Contains (filter p xs) x
kept-in p [] x (k, lt, is) passes = absurd (omega arith)
kept-in {X} p (y ∷ ys) x (zero, lt, is) passes = cond_both (p y) (y ∷ filter p ys) (filter p ys) (λ (l : List X). Contains l x)
    (λ _. (zero, omega arith, is))
    (λ fails. absurd (true≢false (sym (subst (λ (z : X). p z ≡ true) (sym is) passes) ∙ fails)))
kept-in {X} p (y ∷ ys) x (suc k, lt, is) passes =
    let rest = kept-in p ys x (k, omega arith, is) passes in
    cond_both (p y) (y ∷ filter p ys) (filter p ys) (λ (l : List X). Contains l x) (λ _. Contains-append_right (y ∷ []) (filter p ys) x rest) (λ _. rest)

-- those of the groups whose names contain the text
module _ (dump : Dump) (text : List ℕ) (groups named : List Group) (all : AreNamedGroups dump (λ group. Unit {0}) groups)
    (h : AreNamed dump text groups named) where
  abbrev test : Group → Bool
  test group = is_named dump text group

  tells-of : (group : Group) → Contains groups group → (test group ≡ true) ↔ IsNamedWith dump text group
  tells-of group (k, lt, is) = subst (λ (g : Group). (test g ≡ true) ↔ IsNamedWith dump text g) is (h.contains k group lt)

  from : (group : Group) → Contains (filter test groups) group → IsNamedGroup dump group × IsNamedWith dump text group
  from group at =
      let (there, passes) = kept-from test groups group at in
      (((all.are group).0 there).0, (tells-of group there).0 passes)

  to : (group : Group) → IsNamedGroup dump group × IsNamedWith dump text group → Contains (filter test groups) group
  to group (is, named) =
      let there = (all.are group).1 (is, tt) in
      kept-in test groups group there ((tells-of group there).1 named)

  pub found-groups : AreNamedGroups dump (IsNamedWith dump text) named
  found-groups = subst (AreNamedGroups dump (IsNamedWith dump text)) (sym h.is) (record {
    in_order = rising (filter test groups) (AllPairs-filter (λ a b. group_key a < group_key b) test groups (pairs groups all.in_order));
    are = λ group. (from group, to group);
  })

  -- the answer with their lines
  pub found : (log : List Event) (count : Group → Strength → ℕ) → AreGroupCounts dump log count → IsFound dump log text (Ok (map (found_line dump count) named))
  found log count counts = record { groups = named; count = count; are = found-groups; counts = counts; lines = refl }
