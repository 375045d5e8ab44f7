-- The events that add roots, one after another.
use Rattle.std.proofs.Common.{◌≡◌, ◌∙◌, ℕ, ◌+◌, ◌<◌, ◌≤◌, ◌^◌, ◌==◌, Bool, true, false, cond, List, [], ◌∷◌, ◌++◌, length, map, take, slice_get, Option, Some}
use Rattle.std.proofs.Common.{None, refl, sym, ap, arith, append-nil}
use Rattle.std.specs.Option.{option_map, option_map_or}
use Rattle.std.specs.List.{filter, filter_map, cons_option, enumerate_from}
use Rattle.std.proofs.lemmas.List.{length_push, map-append}
use Rattle.std.proofs.lemmas.List.Elements.{filter-append, filter_map-append}
use Rattle.hd_log.proofs.LastLemmas.{numbered_more, enumerate-push}
use Rattle.hd_terms.proofs.LawfulLogs.{get-last}
use Rattle.hd_terms.specs.declared.Event.{Event}
use Rattle.hd_terms.specs.Dump.{Dump}
use Rattle.hd_reverse.specs.declared.numbers.NumberOn.{NumberOn}
use Rattle.hd_reverse.specs.Numbers.{numbers_on}
use Rattle.hd_reverse.proofs.NumberLemmas.{number_of, one_number, first_parts}
use Rattle.hd_view.specs.Added.{object_added, event_number, adds_on, events_on, IsAddedBy}

-- those of the first events that add a root on an object
pub record AreEventNumbers (dump : Dump) (log : List Event) (k : ℕ) (numbers : List NumberOn) : Type 0 where
  pub are : numbers ≡ filter_map (event_number dump) (enumerate_from 0 (take k log))
  pub few : length numbers ≤ k

module _ (dump : Dump) (log : List Event) (k : ℕ) (event : Event) (at : slice_get log k ≡ Some event) where
  numbers-more : (numbers : List NumberOn) → AreEventNumbers dump log k numbers → filter_map (event_number dump) (enumerate_from 0 (take (k + 1) log)) ≡ numbers
      ++ cons_option (event_number dump (k, event)) []
  numbers-more numbers h =
      ap (filter_map (event_number dump)) (numbered_more log k event at)
      ∙ filter_map-append (event_number dump) (enumerate_from 0 (take k log)) ((k, event) ∷ [])
      ∙ ap (λ (ns : List NumberOn). ns ++ cons_option (event_number dump (k, event)) []) (sym h.are)

  -- an event that adds no root on an object
  pub events_kept : (numbers : List NumberOn) → AreEventNumbers dump log k numbers → object_added dump event.what ≡ None
      → AreEventNumbers dump log (k + 1) numbers
  events_kept numbers h none = record {
    are =
        sym (numbers-more numbers h
        ∙ ap (λ (t : Option ℕ). numbers ++ cons_option (option_map (λ (target : ℕ). number_of k target) t) []) none
        ∙ append-nil numbers);
    few = omega (arith, h.few);
  }

  -- an event that adds one
  pub events_more : (numbers : List NumberOn) (o : ℕ) → AreEventNumbers dump log k numbers → object_added dump event.what ≡ Some o
      → AreEventNumbers dump log (k + 1) (numbers ++ number_of k o ∷ [])
  events_more numbers o h some = record {
    are = sym (numbers-more numbers h ∙ ap (λ (t : Option ℕ). numbers ++ cons_option (option_map (λ (target : ℕ). number_of k target) t) []) some);
    few = omega (arith, h.few, length_push numbers (number_of k o));
  }

-- the numbers on an object are those of the events that add a root on it
pub numbers_of_events : (dump : Dump) (o : ℕ) (ns : List (ℕ × Event)) → numbers_on (filter_map (event_number dump) ns) o ≡ map (λ (n : ℕ × Event). n.0)
    (filter (adds_on dump o) ns)
numbers_of_events dump o [] = refl
numbers_of_events dump o ((k, event) ∷ ns) =
    one_number o k (object_added dump event.what) (filter_map (event_number dump) ns)
    ∙ ap (λ (rest : List ℕ). cond (adds_on dump o (k, event)) (k ∷ rest) rest) (numbers_of_events dump o ns)
    ∙ sym (first_parts (adds_on dump o (k, event)) (k, event) (filter (adds_on dump o) ns))

-- one more event adds a root on one object, or none
module _ (dump : Dump) (before : List Event) (event : Event) where
  own-number : (b : Bool) (k : ℕ) → map (λ (n : ℕ × Event). n.0) (cond b ((k, event) ∷ []) []) ≡ cond b (k ∷ []) []
  own-number true k = refl
  own-number false k = refl

  events-more : (o : ℕ) → events_on dump (before ++ event ∷ []) o ≡ events_on dump before o
      ++ (cond (adds_on dump o (length before, event)) (length before ∷ []) [])
  events-more o =
      let test : ℕ × Event → Bool = adds_on dump o in
      let number : ℕ × Event → ℕ = λ n. n.0 in
      let all : List (ℕ × Event) = enumerate_from 0 before in
      let place : 0 + length before ≡ length before = omega arith in
      ap (λ (ns : List (ℕ × Event)). map number (filter test ns)) (enumerate-push 0 before event ∙ ap (λ (k : ℕ). all ++ (k, event) ∷ []) place)
      ∙ ap (map number) (filter-append test all ((length before, event) ∷ []))
      ∙ map-append number (filter test all) (filter test ((length before, event) ∷ []))
      ∙ ap (λ (ns : List ℕ). map number (filter test all) ++ ns) (own-number (test (length before, event)) (length before))

  -- the last event is the one that is read
  module _ (log : List Event) (is : log ≡ before ++ event ∷ []) (number : ℕ) (place : number + 1 ≡ length log) (read : Event)
      (at : slice_get log number ≡ Some read) where
    place-is : number ≡ length before
    place-is = omega (arith, place, ap length is, length_push before event)

    read-is : read ≡ event
    read-is =
        let same : Some read ≡ Some event = sym at ∙ ap (slice_get log) place-is ∙ ap (λ (es : List Event). slice_get es (length before)) is
        ∙ get-last before event in
        cc

    on-object : (o : ℕ) (t : Option ℕ) → object_added dump read.what ≡ t → adds_on dump o (length before, event) ≡ option_map_or
        (λ (target : ℕ). target == o) t false
    on-object o t added = ap (λ (e : Event). option_map_or (λ (target : ℕ). target == o) (object_added dump e.what) false) (sym read-is)
        ∙ ap (λ (x : Option ℕ). option_map_or (λ (target : ℕ). target == o) x false) added

    numbers-after : (o : ℕ) (t : Option ℕ) → object_added dump read.what ≡ t → events_on dump log o ≡ events_on dump before o
        ++ (cond (option_map_or (λ (target : ℕ). target == o) t false) (number ∷ []) [])
    numbers-after o t added =
        ap (λ (es : List Event). events_on dump es o) is
        ∙ events-more o
        ∙ ap (λ (b : Bool). events_on dump before o ++ (cond b (length before ∷ []) [])) (on-object o t added)
        ∙ ap (λ (k : ℕ). events_on dump before o ++ (cond (option_map_or (λ (target : ℕ). target == o) t false) (k ∷ []) [])) (sym place-is)

    pub none_added : (added : List NumberOn) → length dump.roots + length log < 2 ^ 32 → object_added dump read.what ≡ None → IsAddedBy dump before added
        → IsAddedBy dump log added
    none_added added few none are = record { events = λ o. are.events o ∙ sym (numbers-after o None none ∙ append-nil (events_on dump before o)); few = few }

    pub one_added : (object : ℕ) (added new : List NumberOn) → length dump.roots + length log < 2 ^ 32 → object_added dump read.what ≡ Some object
        → ((o : ℕ) → numbers_on new o ≡ numbers_on added o ++ (cond (object == o) (number ∷ []) []))
        → IsAddedBy dump before added → IsAddedBy dump log new
    one_added object added new few some more are = record {
      events = λ o.
          more o
          ∙ ap (λ (ns : List ℕ). ns ++ (cond (object == o) (number ∷ []) [])) (are.events o)
          ∙ sym (numbers-after o (Some object) some);
      few = few;
    }
