-- Numbers by objects: sorted, and found by their places.
use Rattle.std.proofs.Common.{◌≡◌, ◌∙◌, inl, inr, ℕ, ◌+◌, ◌-◌, ◌<◌, ◌≤◌, ◌==◌, nat_lt, nat_le, List, [], ◌∷◌, ◌++◌, length, map, take, drop, get_or, cond, not}
use Rattle.std.proofs.Common.{Bool, true, false, Option, Some, None, refl, sym, ap, arith, append-nil, add-zero, slice_get}
use Rattle.std.specs.Prelude.{◌&&◌}
use Rattle.std.specs.Option.{option_map, option_map_or}
use Rattle.std.specs.List.{filter, filter_map, cons_option, enumerate_from, insert, All}
use Rattle.std.specs.List.Sorted.{IsNonDecreasingBy, IsPartitionPoint, IsStableByKey, ties}
use Rattle.std.specs.Ordering.{is_lt, nat_cmp}
use Rattle.std.proofs.lemmas.Bool.{cases_lt, cases_order, eq-eqb, eqb-true, ne_eqb, lt-ltb, le-ltb, ltb-true, ltb-false, leb-true, leb-false}
use Rattle.std.proofs.lemmas.List.Sorted.{IsNonDecreasingBy-insert}
use Rattle.std.proofs.lemmas.List.{map-append, take-append-drop, length-take-le, length-drop, get_or-take, get_or-drop, drop-drop, take_more, length_push}
use Rattle.std.proofs.lemmas.List.Elements.{filter-append, filter_map-append, filter_agree, All-head, All-tail}
use Rattle.std.proofs.lemmas.Option.{get_or_from_slice_get, slice_get_within}
use Rattle.hd_terms.specs.Dump.{Root, Dump}
use Rattle.hd_terms.specs.Edges.{index_of}
use Rattle.hd_reverse.specs.declared.numbers.NumberOn.{NumberOn}
use Rattle.hd_reverse.specs.Referrers.{is_root_on}
use Rattle.hd_reverse.specs.Numbers.{numbers_on, root_number, IsEnd, IsRow}

module _ {X : Type 0} (p : X → Bool) where
  -- where none passes
  pub filter_fails : (xs : List X) → All (λ x. p x ≡ false) xs → filter p xs ≡ []
  filter_fails [] h = refl
  filter_fails (x ∷ xs) h = rw (All-head (λ y. p y ≡ false) x xs h) (filter_fails xs (All-tail (λ y. p y ≡ false) x xs h))

  -- where all pass
  pub filter_keeps : (xs : List X) → All (λ x. p x ≡ true) xs → filter p xs ≡ xs
  filter_keeps [] h = refl
  filter_keeps (x ∷ xs) h = rw (All-head (λ y. p y ≡ true) x xs h) (ap (λ (ys : List X). x ∷ ys) (filter_keeps xs (All-tail (λ y. p y ≡ true) x xs h)))

  -- what passes stands between two places
  pub filter_between : (xs : List X) (start end : ℕ) → start ≤ end → end ≤ length xs
      → ((k : ℕ) (d : X) → k < start → p (get_or xs k d) ≡ false)
      → ((k : ℕ) (d : X) → start ≤ k → k < end → p (get_or xs k d) ≡ true)
      → ((k : ℕ) (d : X) → end ≤ k → k < length xs → p (get_or xs k d) ≡ false)
      → filter p xs ≡ take (end - start) (drop start xs)
  filter_between xs start end le within before inside after =
      let row : List X = take (end - start) (drop start xs) in
      let rest : List X = drop (end - start) (drop start xs) in
      let front_len : length (take start xs) ≡ start = length-take-le start xs (omega arith) in
      let row_len : length row ≡ end - start = length-take-le (end - start) (drop start xs) (omega (arith, length-drop start xs)) in
      let rest_is : rest ≡ drop end xs = drop-drop (end - start) start xs
      ∙ (let e : start + (end - start) ≡ end = omega arith in ap (λ (n : ℕ). drop n xs) e) in
      let whole : xs ≡ take start xs ++ (row ++ rest) = sym (ap (λ (ys : List X). take start xs ++ ys) (take-append-drop (end - start) (drop start xs))
      ∙ take-append-drop start xs) in
      let none : filter p (take start xs) ≡ [] =
      filter_fails (take start xs) (λ k d lt. let k_lt : k < start = omega arith in ap p (get_or-take start xs k d k_lt) ∙ before k d k_lt) in
      let all : filter p row ≡ row =
      filter_keeps row
      (λ k d lt. let k_lt : k < end - start = omega arith in ap p (get_or-take (end - start) (drop start xs) k d k_lt ∙ get_or-drop start xs k d)
      ∙ inside (start + k) d (omega arith) (omega arith)) in
      let no_more : filter p rest ≡ [] =
      ap (filter p) rest_is
      ∙ filter_fails (drop end xs) (λ k d lt. ap p (get_or-drop end xs k d) ∙ after (end + k) d (omega arith) (omega (arith, length-drop end xs))) in
      ap (filter p) whole
      ∙ filter-append p (take start xs) (row ++ rest)
      ∙ ap (λ (ys : List X). ys ++ filter p (row ++ rest)) none
      ∙ filter-append p row rest
      ∙ ap (λ (ys : List X). ys ++ filter p rest) all
      ∙ ap (λ (ys : List X). row ++ ys) no_more
      ∙ append-nil row

-- a number is another where neither is below the other
same-by-order : (a o : ℕ) → (a == o) ≡ not (is_lt (nat_cmp o a)) && not (is_lt (nat_cmp a o))
same-by-order a o = elim (cases_order a o) [
  | inl same ↦ rw (eq-eqb a o same, eq-eqb o a (sym same), le-ltb a o (omega arith), le-ltb o a (omega arith)) refl
  | inr (inl below) ↦ rw (ne_eqb a o (λ e. omega arith), lt-ltb a o below, le-ltb o a (omega arith), ne_eqb o a (λ e. omega arith)) refl
  | inr (inr above) ↦ rw (ne_eqb a o (λ e. omega arith), lt-ltb o a above) refl
]

-- numbers that are sorted by their objects, those of one object kept in order
pub same_numbers : (before after : List NumberOn) → IsStableByKey (λ (n : NumberOn). n.object) nat_cmp before after → (o : ℕ)
    → numbers_on after o ≡ numbers_on before o
same_numbers before after stable o =
    let it : NumberOn = record { object = o; number = 0 } in
    let own : NumberOn → Bool = λ n. n.object == o in
    let tied : NumberOn → Bool = ties (λ (x y : NumberOn). is_lt (nat_cmp x.object y.object)) it in
    let agree : (n : NumberOn) → own n ≡ tied n = λ n. same-by-order n.object o in
    ap (map (λ (n : NumberOn). n.number)) (filter_agree own tied agree after ∙ stable it ∙ sym (filter_agree own tied agree before))

-- the row of an object, by the places that two searches found
pub row_found : (pairs : List NumberOn) (o start end : ℕ) → start ≤ length pairs → end ≤ length pairs
    → IsPartitionPoint (λ (n : NumberOn). (nat_lt n.object o) ≡ true) (λ (n : NumberOn). (nat_lt n.object o) ≡ false) pairs start
    → IsPartitionPoint (λ (n : NumberOn). (nat_le n.object o) ≡ true) (λ (n : NumberOn). (nat_le n.object o) ≡ false) pairs end
    → IsRow pairs o start end
row_found pairs o start end start_le end_le below upto =
    let none : NumberOn = record { object = 0; number = 0 } in
    let order : start ≤ end = elim (cases_lt end start) [
      | inl lt ↦ absurd (omega (
        arith,
        ltb-true (get_or pairs end none).object o (below.0 end none (omega arith) lt),
        leb-false (get_or pairs end none).object o
            (upto.1 end none (omega arith) (omega arith)),
      ))
      | inr le ↦ le
    ] in
    record {
      order = order;
      within = end_le;
      is =
          ap (map (λ (n : NumberOn). n.number))
          (filter_between (λ (n : NumberOn). n.object == o) pairs start end order end_le
          (λ k d lt. ne_eqb (get_or pairs k d).object o (λ e. omega (arith, ltb-true (get_or pairs k d).object o (below.0 k d (omega arith) lt))))
          (λ k d le lt. eq-eqb (get_or pairs k d).object o
          (omega (
            arith,
            ltb-false (get_or pairs k d).object o (below.1 k d le (omega arith)),
            leb-true (get_or pairs k d).object o
                (upto.0 k d (omega arith) lt),
          )))
          (λ k d le lt. ne_eqb (get_or pairs k d).object o (λ e. omega (arith, leb-false (get_or pairs k d).object o (upto.1 k d le lt)))));
    }

-- where the numbers of an object end, by the place that a search found
pub end_found : (pairs : List NumberOn) (o at : ℕ) → at ≤ length pairs
    → IsPartitionPoint (λ (n : NumberOn). (nat_le n.object o) ≡ true) (λ (n : NumberOn). (nat_le n.object o) ≡ false) pairs at
    → IsEnd pairs o at
end_found pairs o at within found = record {
  within = within;
  upto = λ k d lt. leb-true (get_or pairs k d).object o (found.0 k d (omega arith) lt);
  behind = λ k d le lt. leb-false (get_or pairs k d).object o (found.1 k d le lt);
}

-- one more pair, behind those of its object
module _ (pairs : List NumberOn) (pair : NumberOn) (at : ℕ) (end : IsEnd pairs pair.object at) where
  pub pair_sorted : IsNonDecreasingBy (λ (n : NumberOn). n.object) pairs → IsNonDecreasingBy (λ (n : NumberOn). n.object) (insert pairs at pair)
  pair_sorted rise =
      IsNonDecreasingBy-insert (λ (n : NumberOn). n.object) pairs at pair rise end.within end.upto (λ k d le lt. omega (arith, end.behind k d le lt))

  -- those of its object have it last, and those of others stay
  own-numbers : (o : ℕ) (b : Bool) → (pair.object == o) ≡ b
      → filter (λ (n : NumberOn). n.object == o) (insert pairs at pair) ≡ filter (λ (n : NumberOn). n.object == o) pairs ++ (cond b (pair ∷ []) [])
  own-numbers o true is =
      let p : NumberOn → Bool = λ n. n.object == o in
      let none : filter p (drop at pairs) ≡ [] =
      filter_fails p (drop at pairs)
      (λ k d lt. ap p (get_or-drop at pairs k d)
      ∙ ne_eqb (get_or pairs (at + k) d).object o
      (λ e. omega (arith, eqb-true pair.object o is, end.behind (at + k) d (omega arith) (omega (arith, length-drop at pairs))))) in
      let all : filter p pairs ≡ filter p (take at pairs) =
      ap (filter p) (sym (take-append-drop at pairs)) ∙ filter-append p (take at pairs) (drop at pairs)
      ∙ ap (λ (ys : List NumberOn). filter p (take at pairs) ++ ys) none ∙ append-nil (filter p (take at pairs)) in
      filter-append p (take at pairs) (pair ∷ drop at pairs)
      ∙ ap (λ (b : Bool). filter p (take at pairs) ++ cond b (pair ∷ filter p (drop at pairs)) (filter p (drop at pairs))) is
      ∙ ap (λ (ys : List NumberOn). filter p (take at pairs) ++ pair ∷ ys) none
      ∙ ap (λ (ys : List NumberOn). ys ++ pair ∷ []) (sym all)
  own-numbers o false is =
      let p : NumberOn → Bool = λ n. n.object == o in
      filter-append p (take at pairs) (pair ∷ drop at pairs)
      ∙ ap (λ (b : Bool). filter p (take at pairs) ++ cond b (pair ∷ filter p (drop at pairs)) (filter p (drop at pairs))) is
      ∙ sym (ap (filter p) (sym (take-append-drop at pairs)) ∙ filter-append p (take at pairs) (drop at pairs))
      ∙ sym (append-nil (filter p pairs))

  pub pair_numbers : (o : ℕ) → numbers_on (insert pairs at pair) o ≡ numbers_on pairs o ++ (cond (pair.object == o) (pair.number ∷ []) [])
  pair_numbers o =
      let number : NumberOn → ℕ = λ n. n.number in
      let own : List NumberOn = filter (λ (n : NumberOn). n.object == o) pairs in
      ap (map number) (own-numbers o (pair.object == o) refl)
      ∙ map-append number own (cond (pair.object == o) (pair ∷ []) [])
      ∙ ap (λ (ns : List ℕ). map number own ++ ns) (one-mapped (pair.object == o))
    where
      one-mapped : (b : Bool) → map (λ (n : NumberOn). n.number) (cond b (pair ∷ []) []) ≡ cond b (pair.number ∷ []) []
      one-mapped true = refl
      one-mapped false = refl

abbrev pub number_of : ℕ → ℕ → NumberOn
number_of r target = record { object = target; number = r }

-- the first roots of a dump that are on objects
pub record AreRootNumbers (dump : Dump) (r : ℕ) (numbers : List NumberOn) : Type 0 where
  pub are : numbers ≡ filter_map (root_number dump) (enumerate_from 0 (take r dump.roots))
  pub few : length numbers ≤ r

-- one more at the end of a numbered list
enumerate-push : {X : Type 0} (n : ℕ) (xs : List X) (x : X) → enumerate_from n (xs ++ x ∷ []) ≡ enumerate_from n xs ++ (n + length xs, x) ∷ []
enumerate-push n [] x = ap (λ (m : ℕ). (m, x) ∷ []) (sym (add-zero n))
enumerate-push n (y ∷ ys) x =
    ap (λ (ns : List (ℕ × _)). (n, y) ∷ ns)
    (enumerate-push (n + 1) ys x
    ∙ (let e : n + 1 + length ys ≡ n + length (y ∷ ys) = omega arith in ap (λ (m : ℕ). enumerate_from (n + 1) ys ++ (m, x) ∷ []) e))

-- the list of numbers with an entry more
filter_map-more : {X Y : Type 0} (f : X → Option Y) (xs : List X) (x : X) → filter_map f (xs ++ x ∷ []) ≡ filter_map f xs ++ cons_option (f x) []
filter_map-more f xs x = filter_map-append f xs (x ∷ [])

module _ (dump : Dump) (r : ℕ) (root : Root) (at : slice_get dump.roots r ≡ Some root) where
  entries-more : enumerate_from 0 (take (r + 1) dump.roots) ≡ enumerate_from 0 (take r dump.roots) ++ (r, root) ∷ []
  entries-more =
      ap (enumerate_from 0) (take_more dump.roots r root (slice_get_within dump.roots r root at) ∙ ap (λ (x : Root). take r dump.roots ++ x ∷ [])
      (get_or_from_slice_get dump.roots r root root at))
      ∙ enumerate-push 0 (take r dump.roots) root
      ∙ ap (λ (n : ℕ). enumerate_from 0 (take r dump.roots) ++ (n, root) ∷ [])
      (let len : length (take r dump.roots) ≡ r = length-take-le r dump.roots (omega (arith, slice_get_within dump.roots r root at)) in omega arith)

  numbers-more : (numbers : List NumberOn) → AreRootNumbers dump r numbers
      → filter_map (root_number dump) (enumerate_from 0 (take (r + 1) dump.roots)) ≡ numbers ++ cons_option (root_number dump (r, root)) []
  numbers-more numbers h =
      ap (filter_map (root_number dump)) entries-more
      ∙ filter_map-more (root_number dump) (enumerate_from 0 (take r dump.roots)) (r, root)
      ∙ ap (λ (ns : List NumberOn). ns ++ cons_option (root_number dump (r, root)) []) (sym h.are)

  -- a root on no object
  pub roots_kept : (numbers : List NumberOn) → AreRootNumbers dump r numbers → index_of dump.objects root.id ≡ None → AreRootNumbers dump (r + 1) numbers
  roots_kept numbers h none = record {
    are =
        sym (numbers-more numbers h
        ∙ ap (λ (t : Option ℕ). numbers ++ cons_option (option_map (λ (target : ℕ). number_of r target) t) []) none
        ∙ append-nil numbers);
    few = omega (arith, h.few);
  }

  -- a root on an object
  pub roots_more : (numbers : List NumberOn) (o : ℕ) → AreRootNumbers dump r numbers → index_of dump.objects root.id ≡ Some o
      → AreRootNumbers dump (r + 1) (numbers ++ number_of r o ∷ [])
  roots_more numbers o h some = record {
    are = sym (numbers-more numbers h ∙ ap (λ (t : Option ℕ). numbers ++ cons_option (option_map (λ (target : ℕ). number_of r target) t) []) some);
    few = omega (arith, h.few, length_push numbers (number_of r o));
  }

-- the numbers on an object are those of the roots on it
number-case : (b : Bool) (r o : ℕ) (ns : List NumberOn) → map (λ (n : NumberOn). n.number) (cond b (number_of r o ∷ ns) ns) ≡ cond b
    (r ∷ map (λ (n : NumberOn). n.number) ns) (map (λ (n : NumberOn). n.number) ns)
number-case true r o ns = refl
number-case false r o ns = refl

pub first_parts : {X : Type 0} (b : Bool) (n : ℕ × X) (ns : List (ℕ × X)) → map (λ (m : ℕ × X). m.0) (cond b (n ∷ ns) ns) ≡ cond b
    (n.0 ∷ map (λ (m : ℕ × X). m.0) ns) (map (λ (m : ℕ × X). m.0) ns)
first_parts true n ns = refl
first_parts false n ns = refl

pub one_number : (o r : ℕ) (t : Option ℕ) (ns : List NumberOn)
    → numbers_on (cons_option (option_map (λ (target : ℕ). number_of r target) t) ns) o
    ≡ cond (option_map_or (λ (target : ℕ). target == o) t false) (r ∷ numbers_on ns o) (numbers_on ns o)
one_number o r None ns = refl
one_number o r (Some u) ns = number-case (u == o) r u (filter (λ (n : NumberOn). n.object == o) ns)

pub numbers_of_roots : (dump : Dump) (o : ℕ) (ns : List (ℕ × Root)) → numbers_on (filter_map (root_number dump) ns) o ≡ map (λ (n : ℕ × Root). n.0)
    (filter (is_root_on dump o) ns)
numbers_of_roots dump o [] = refl
numbers_of_roots dump o ((r, root) ∷ ns) =
    one_number o r (index_of dump.objects root.id) (filter_map (root_number dump) ns)
    ∙ ap (λ (rest : List ℕ). cond (is_root_on dump o (r, root)) (r ∷ rest) rest) (numbers_of_roots dump o ns)
    ∙ sym (first_parts (is_root_on dump o (r, root)) (r, root) (filter (is_root_on dump o) ns))
