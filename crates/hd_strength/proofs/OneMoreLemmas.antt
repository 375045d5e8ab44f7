-- A log with one more event has one live edit more, or one fewer.
use Rattle.std.proofs.Common.{◌≡◌, ◌∙◌, ℕ, zero, suc, ◌+◌, ◌<◌, ◌≤◌, ◌||◌, Bool, true, false, cond, not, List, [], ◌∷◌, ◌++◌, length, Option, Some, None}
use Rattle.std.proofs.Common.{slice_get, refl, sym, ap, arith}
use Rattle.std.specs.Prelude.{count_by}
use Rattle.std.specs.List.{list_any, filter_map, cons_option, enumerate_from}
use Rattle.std.proofs.lemmas.Bool.{eq-eqb, ne_eqb}
use Rattle.std.proofs.lemmas.List.Elements.{filter_map-append}
use Rattle.std.proofs.lemmas.List.Folds.{list_any-append}
use Rattle.std.proofs.lemmas.List.Sums.{sum_by-append, sum_by-cons}
use Rattle.hd_terms.specs.declared.Edit.{Edit}
use Rattle.hd_terms.specs.declared.Event.{Event}
use Rattle.hd_terms.specs.declared.What.TheVariants as whats
use Rattle.hd_terms.specs.Log.{IsLawful, undoes_what, stays, edit_of, live_edit, live_edits}
use Rattle.hd_terms.proofs.LawfulLogs.{IsOwnLive, taken_back}
use Rattle.hd_log.proofs.LastLemmas.{enumerate-push}
use Rattle.hd_strength.specs.OneMore.{HasEditMore}

-- tests
or-last-true : (b : Bool) → not (b || true) ≡ false
or-last-true true = refl
or-last-true false = refl

or-last-false : (b : Bool) → not (b || false) ≡ not b
or-last-false true = refl
or-last-false false = refl

none-by : (b : Bool) → (b ≡ true → ⊥) → not b ≡ true
none-by true h = absurd (h refl)
none-by false h = refl

none-either : (b : Bool) → cond {A = Option Edit} b None None ≡ None
none-either true = refl
none-either false = refl

-- one by whether an edit passes a test
passes : (Edit → Bool) → Option Edit → ℕ
passes test None = 0
passes test (Some x) = cond (test x) 1 0

counted-option : (test : Edit → Bool) (o : Option Edit) (es : List Edit) → count_by test (cons_option o es) ≡ passes test o + count_by test es
unfolding passes
counted-option test None es = omega arith
counted-option test (Some x) es = sum_by-cons (λ (y : Edit). cond (test y) 1 0) x es

-- how many of the edits that numbered events have pass a test
abbrev counted : (Edit → Bool) → (ℕ × Event → Option Edit) → ℕ → List Event → ℕ
counted test f n log = count_by test (filter_map f (enumerate_from n log))

module _ (test : Edit → Bool) (f g : ℕ × Event → Option Edit) where
  -- where the edits are the same
  agree : (log : List Event) (n : ℕ) → ((k : ℕ) (e : Event) → n ≤ k → f (k, e) ≡ g (k, e)) → counted test f n log ≡ counted test g n log
  agree [] n same = refl
  agree (y ∷ log) n same =
      counted-option test (f (n, y)) (filter_map f (enumerate_from (n + 1) log))
      ∙ ap (λ (o : Option Edit). passes test o + counted test f (n + 1) log) (same n y (omega arith))
      ∙ ap (λ (m : ℕ). passes test (g (n, y)) + m) (agree log (n + 1) (λ k e le. same k e (omega arith)))
      ∙ sym (counted-option test (g (n, y)) (filter_map g (enumerate_from (n + 1) log)))

  -- where they are but for one event, which has none after
  module _ (t : ℕ) (event : Event) (x : Edit) (had : f (t, event) ≡ Some x) (none : g (t, event) ≡ None)
      (others : (k : ℕ) (e : Event) → (k ≡ t → ⊥) → f (k, e) ≡ g (k, e)) where
    one-fewer : (log : List Event) (n i : ℕ) → n + i ≡ t → slice_get log i ≡ Some event → counted test f n log ≡ counted test g n log + (cond (test x) 1 0)
    unfolding passes
    one-fewer [] n i at is = absurd cc
    one-fewer (y ∷ log) n zero at is =
        let place : n ≡ t = omega (arith, at) in
        let same : y ≡ event = cc in
        let here : f (n, y) ≡ Some x = ap (λ (k : ℕ). f (k, y)) place ∙ ap (λ (e : Event). f (t, e)) same ∙ had in
        let gone : g (n, y) ≡ None = ap (λ (k : ℕ). g (k, y)) place ∙ ap (λ (e : Event). g (t, e)) same ∙ none in
        omega (
          arith,
          counted-option test (f (n, y)) (filter_map f (enumerate_from (n + 1) log)),
          ap (passes test) here,
          agree log (n + 1) (λ k e le. others k e (λ eq. omega (arith, eq, place, le))),
          ap (passes test) gone,
          counted-option test (g (n, y)) (filter_map g (enumerate_from (n + 1) log)),
        )
    one-fewer (y ∷ log) n (suc j) at is =
        omega (
          arith,
          counted-option test (f (n, y)) (filter_map f (enumerate_from (n + 1) log)),
          ap (passes test) (others n y (λ eq. omega (arith, eq, at))),
          one-fewer log (n + 1) j (omega (arith, at)) is,
          counted-option test (g (n, y)) (filter_map g (enumerate_from (n + 1) log)),
        )

-- one event more
module _ (log : List Event) (event : Event) where
  abbrev after : List Event
  after = log ++ event ∷ []

  pub stays-not : (k : ℕ) → undoes_what k event.what ≡ true → stays after k ≡ false
  stays-not k is =
      let test : Event → Bool = λ e. undoes_what k e.what in
      ap not (list_any-append test log (event ∷ [])) ∙ ap (λ (b : Bool). not (list_any test log || (b || false))) is ∙ or-last-true (list_any test log)

  pub stays-still : (k : ℕ) → undoes_what k event.what ≡ false → stays after k ≡ stays log k
  stays-still k is =
      let test : Event → Bool = λ e. undoes_what k e.what in
      ap not (list_any-append test log (event ∷ [])) ∙ ap (λ (b : Bool). not (list_any test log || (b || false))) is ∙ or-last-false (list_any test log)

  live-still : (k : ℕ) (e : Event) → undoes_what k event.what ≡ false → live_edit after (k, e) ≡ live_edit log (k, e)
  live-still k e other = ap (λ (b : Bool). cond b (edit_of e.what) None) (stays-still k other)

  -- the live edits that pass a test, with the event's own
  counted-after : (test : Edit → Bool) → count_by test (live_edits after) ≡ counted test (live_edit after) 0 log + passes test
      (live_edit after (length log, event))
  counted-after test =
      let f : ℕ × Event → Option Edit = live_edit after in
      let number : 0 + length log ≡ length log = omega arith in
      let last : count_by test (filter_map f ((0 + length log, event) ∷ [])) ≡ passes test (f (length log, event)) + 0 =
      counted-option test (f (0 + length log, event)) [] ∙ ap (λ (k : ℕ). passes test (f (k, event)) + 0) number in
      omega (
        arith,
        ap (λ (ns : List (ℕ × Event)). count_by test (filter_map f ns)) (enumerate-push 0 log event),
        ap (count_by test) (filter_map-append f (enumerate_from 0 log) ((0 + length log, event) ∷ [])),
        sum_by-append (λ (x : Edit). cond (test x) 1 0) (filter_map f (enumerate_from 0 log)) (filter_map f ((0 + length log, event) ∷ [])),
        last,
      )

  -- nothing in a lawful log takes back the event that comes next
  next-stays : IsLawful log → stays log (length log) ≡ true
  next-stays lawful = none-by (list_any (λ (e : Event). undoes_what (length log) e.what) log) (λ any.
      let (j, w, lt, is) = taken_back log (length log) any in
      let earlier : length log < j = (lawful.undos j (length log) w is).earlier in
      omega (arith, lt, earlier))

  -- an edit is one live edit more
  pub edit_more : (edit : Edit) → IsLawful log → event.what ≡ whats.Do edit → HasEditMore log after edit
  unfolding passes
  edit_more edit lawful is test =
      let other : (k : ℕ) → undoes_what k event.what ≡ false = λ k. ap (undoes_what k) is in
      let own : live_edit after (length log, event) ≡ Some edit =
      live-still (length log) event (other (length log)) ∙ ap (λ (b : Bool). cond b (edit_of event.what) None) (next-stays lawful) ∙ ap edit_of is in
      omega (arith, counted-after test, agree test (live_edit after) (live_edit log) log 0 (λ k e le. live-still k e (other k)), ap (passes test) own)

  -- an undo of a live edit is one live edit fewer
  pub edit_fewer : (t who : ℕ) (own : IsOwnLive log t who) → event.what ≡ whats.Undo t → HasEditMore after log own.edit
  unfolding passes
  edit_fewer t who own is test =
      let e : Event = record { who = who; what = whats.Do own.edit } in
      let others : (k : ℕ) → (k ≡ t → ⊥) → undoes_what k event.what ≡ false = λ k ne. ap (undoes_what k) is ∙ ne_eqb t k (λ eq. ne (sym eq)) in
      let undone : undoes_what t event.what ≡ true = ap (undoes_what t) is ∙ eq-eqb t t refl in
      let had : live_edit log (t, e) ≡ Some own.edit = ap (λ (b : Bool). cond (not b) (Some own.edit) None) own.untouched in
      let gone : live_edit after (t, e) ≡ None = ap (λ (b : Bool). cond b (Some own.edit) None) (stays-not t undone) in
      let last : live_edit after (length log, event) ≡ None =
      ap (λ (o : Option Edit). cond (stays after (length log)) o None) (ap edit_of is) ∙ none-either (stays after (length log)) in
      omega (
        arith,
        counted-after test,
        ap (passes test) last,
        one-fewer test (live_edit log) (live_edit after) t e own.edit had gone (λ k x ne. sym (live-still k x (others k ne))) log 0 t (omega arith) own.own,
      )
