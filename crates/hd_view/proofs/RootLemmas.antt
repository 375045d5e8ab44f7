-- Roots on an object, by their numbers.
use Rattle.std.proofs.Common.{◌≡◌, ◌∙◌, inl, inr, ℕ, ◌+◌, ◌≤◌, ◌==◌, Bool, true, false, cond, List, [], ◌∷◌, ◌++◌, length, map, slice_get, Option, Some, None}
use Rattle.std.proofs.Common.{refl, sym, ap, arith}
use Rattle.std.specs.Option.{option_map, option_map_or}
use Rattle.std.specs.List.{filter, filter_map, cons_option, enumerate_from}
use Rattle.std.proofs.lemmas.Bool.{cases_eq, eq-eqb, ne_eqb}
use Rattle.std.proofs.lemmas.Option.{slice_get-map}
use Rattle.std.proofs.lemmas.List.{length-map, map-append}
use Rattle.std.proofs.lemmas.List.Elements.{filter-append, filter_map-append}
use Rattle.std.proofs.lemmas.List.Sums.{length-filter, count_by-le-length}
use Rattle.std.proofs.lemmas.List.FromFn.{length-enumerate_from}
use Rattle.hd_terms.specs.declared.Edit.TheVariants as edits
use Rattle.hd_terms.specs.declared.Event.{Event}
use Rattle.hd_terms.specs.declared.What.{What}
use Rattle.hd_terms.specs.declared.What.TheVariants as whats
use Rattle.hd_terms.specs.Paths.{RootEntry}
use Rattle.hd_terms.specs.Dump.{Root, Dump}
use Rattle.hd_terms.specs.Edges.{index_of}
use Rattle.hd_terms.specs.EditedDump.{RootOn, dump_root, root_added, added_root, root_stands}
use Rattle.hd_terms.specs.EdgeRows as rows
use Rattle.hd_terms.specs.EdgeRows.{MarkedRoot, marked_root}
use Rattle.hd_reverse.specs.declared.numbers.NumberOn.{NumberOn}
use Rattle.hd_reverse.specs.Numbers.{numbers_on}
use Rattle.hd_reverse.specs.Referrers.{is_root_on, roots_on}
use Rattle.hd_reverse.specs.Reverse.{Reverse, roots_in}
use Rattle.hd_reverse.proofs.NumberLemmas.{first_parts}
use Rattle.hd_view.specs.Added.{object_added, adds_on, events_on}
use Rattle.hd_view.specs.RootMarks.{numbers_of_roots, mark_of}

module _ (dump : Dump) (log : List Event) (o : ℕ) where
  abbrev test : MarkedRoot → Bool
  test m = m.root.target == o

  -- the root of a number on an object
  abbrev mark_on : ℕ → ℕ → MarkedRoot
  mark_on number target = record { root = record { number = number; target = target }; stands = root_stands (length dump.roots) log number }

  -- the same by the object of an ID
  abbrev mark_by : ℕ → Option ℕ → Option MarkedRoot
  mark_by number t = option_map (λ (x : RootEntry). record { root = x; stands = root_stands (length dump.roots) log number })
      (option_map (λ (target : ℕ). record { number = number; target = target }) t)

  -- a root that is or isn't on the object
  one-more : (number : ℕ) (t : Option ℕ) (rest : List MarkedRoot) (numbers : List ℕ) → filter test rest ≡ map (mark_of dump log o) numbers
      → filter test (cons_option (mark_by number t) rest) ≡ map (mark_of dump log o)
      (cond (option_map_or (λ (target : ℕ). target == o) t false) (number ∷ numbers) numbers)
  one-more number None rest numbers same = same
  one-more number (Some t) rest numbers same = elim (cases_eq t o) [
    | inl is ↦
        rw (eq-eqb t o is)
        (ap (λ (target : ℕ). mark_on number target ∷ filter test rest) is ∙ ap (λ (ms : List MarkedRoot). mark_on number o ∷ ms) same)
    | inr other ↦ rw (ne_eqb t o other) same
  ]

  dump-numbers : (ns : List (ℕ × Root)) → filter test (filter_map (marked_root dump log) (map dump_root ns)) ≡ map (mark_of dump log o)
      (map (λ (n : ℕ × Root). n.0) (filter (is_root_on dump o) ns))
  dump-numbers [] = refl
  dump-numbers ((r, root) ∷ ns) =
      one-more r (index_of dump.objects root.id) (filter_map (marked_root dump log) (map dump_root ns))
      (map (λ (n : ℕ × Root). n.0) (filter (is_root_on dump o) ns)) (dump-numbers ns)
      ∙ ap (map (mark_of dump log o)) (sym (first_parts (is_root_on dump o (r, root)) (r, root) (filter (is_root_on dump o) ns)))

  -- a root that an event adds, by what the event does
  by-what : (number : ℕ) (what : What) (rest : List RootOn) (numbers : List ℕ) → filter test (filter_map (marked_root dump log) rest) ≡ map
      (mark_of dump log o) numbers
      → filter test (filter_map (marked_root dump log) (cons_option (root_added number what) rest))
      ≡ map (mark_of dump log o) (cond (option_map_or (λ (target : ℕ). target == o) (object_added dump what) false) (number ∷ numbers) numbers)
  by-what number (whats.Do (edits.Cut id slot)) rest numbers same = same
  by-what number (whats.Do (edits.Clear id)) rest numbers same = same
  by-what number (whats.Do (edits.Drop r)) rest numbers same = same
  by-what number (whats.Do (edits.Add id)) rest numbers same = one-more number (index_of dump.objects id) (filter_map (marked_root dump log) rest) numbers same
  by-what number (whats.Do (edits.ClearAll kind)) rest numbers same = same
  by-what number (whats.Do (edits.CutAll class i)) rest numbers same = same
  by-what number (whats.Undo k) rest numbers same = same

  abbrev number_after : ℕ → ℕ
  number_after k = length dump.roots + k

  after-cond : (b : Bool) (k : ℕ) (ks : List ℕ) → map number_after (cond b (k ∷ ks) ks) ≡ cond b (number_after k ∷ map number_after ks) (map number_after ks)
  after-cond true k ks = refl
  after-cond false k ks = refl

  event-numbers : (ns : List (ℕ × Event)) → filter test (filter_map (marked_root dump log) (filter_map (added_root (length dump.roots)) ns))
      ≡ map (mark_of dump log o) (map number_after (map (λ (n : ℕ × Event). n.0) (filter (adds_on dump o) ns)))
  event-numbers [] = refl
  event-numbers ((k, event) ∷ ns) =
      let rest : List ℕ = map (λ (n : ℕ × Event). n.0) (filter (adds_on dump o) ns) in
      by-what (number_after k) event.what (filter_map (added_root (length dump.roots)) ns) (map number_after rest) (event-numbers ns)
      ∙ ap (map (mark_of dump log o))
      (sym (after-cond (adds_on dump o (k, event)) k rest)
      ∙ ap (map number_after) (sym (first_parts (adds_on dump o (k, event)) (k, event) (filter (adds_on dump o) ns))))

  -- the roots on an object by their numbers
  roots-are : rows.roots_on dump log o ≡ map (mark_of dump log o) (roots_on dump o ++ map number_after (events_on dump log o))
  roots-are =
      let own : List RootOn = map dump_root (enumerate_from 0 dump.roots) in
      let added : List RootOn = filter_map (added_root (length dump.roots)) (enumerate_from 0 log) in
      ap (filter test) (filter_map-append (marked_root dump log) own added)
      ∙ filter-append test (filter_map (marked_root dump log) own) (filter_map (marked_root dump log) added)
      ∙ ap (λ (ms : List MarkedRoot). ms ++ filter test (filter_map (marked_root dump log) added)) (dump-numbers (enumerate_from 0 dump.roots))
      ∙ ap (λ (ms : List MarkedRoot). map (mark_of dump log o) (roots_on dump o) ++ ms) (event-numbers (enumerate_from 0 log))
      ∙ sym (map-append (mark_of dump log o) (roots_on dump o) (map number_after (events_on dump log o)))

  module _ (reverse : Reverse) (added : List NumberOn) (own : roots_in reverse o ≡ roots_on dump o) (events : numbers_on added o ≡ events_on dump log o) where
    numbers-are : numbers_of_roots (length dump.roots) reverse added o ≡ roots_on dump o ++ map number_after (events_on dump log o)
    numbers-are =
        ap (λ (ns : List ℕ). ns ++ map number_after (numbers_on added o)) own ∙ ap (λ (ks : List ℕ). roots_on dump o ++ map number_after ks) events

    -- how many roots there are
    pub length_roots : length (rows.roots_on dump log o) ≡ length (numbers_of_roots (length dump.roots) reverse added o)
    length_roots =
        ap (λ (ms : List MarkedRoot). length ms) roots-are
        ∙ length-map (roots_on dump o ++ map number_after (events_on dump log o)) (mark_of dump log o)
        ∙ ap (λ (ns : List ℕ). length ns) (sym numbers-are)

    -- a root by its index
    pub root_there : (i number : ℕ) → slice_get (numbers_of_roots (length dump.roots) reverse added o) i ≡ Some number
        → slice_get (rows.roots_on dump log o) i ≡ Some (mark_of dump log o number)
    root_there i number at =
        ap (λ (ms : List MarkedRoot). slice_get ms i) roots-are
        ∙ slice_get-map (mark_of dump log o) (roots_on dump o ++ map number_after (events_on dump log o)) i
        ∙ ap (option_map (mark_of dump log o)) (ap (λ (ns : List ℕ). slice_get ns i) (sym numbers-are) ∙ at)

-- no more roots are on an object than there are
pub roots_few : (dump : Dump) (log : List Event) (o : ℕ) → length (roots_on dump o) + length (events_on dump log o) ≤ length dump.roots + length log
roots_few dump log o =
    omega (
      arith,
      length-map (filter (is_root_on dump o) (enumerate_from 0 dump.roots)) (λ (n : ℕ × Root). n.0),
      length-filter (is_root_on dump o) (enumerate_from 0 dump.roots),
      count_by-le-length (is_root_on dump o) (enumerate_from 0 dump.roots),
      length-enumerate_from 0 dump.roots,
      length-map (filter (adds_on dump o) (enumerate_from 0 log)) (λ (n : ℕ × Event). n.0),
      length-filter (adds_on dump o) (enumerate_from 0 log),
      count_by-le-length (adds_on dump o) (enumerate_from 0 log),
      length-enumerate_from 0 log,
    )
