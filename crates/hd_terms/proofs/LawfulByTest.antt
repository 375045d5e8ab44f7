-- A test that computes whether a log is lawful, for examples.
use Rattle.std.proofs.Common.{◌≡◌, ◌∙◌, ℕ, zero, suc, ◌+◌, ◌<◌, ◌==◌, Bool, true, false, ◌&&◌, not, nat_lt, nat_le, List, [], ◌∷◌, length, slice_get, Option}
use Rattle.std.proofs.Common.{Some, None, subst, sym, ap, refl, eq-eqb, arith}
use Rattle.std.proofs.lemmas.Bool.{and_parts, eqb-true, leb-true, ltb-true}
use Rattle.hd_terms.specs.declared.Edit.{Edit}
use Rattle.hd_terms.specs.declared.Event.{Event}
use Rattle.hd_terms.specs.declared.What.{What}
use Rattle.hd_terms.specs.declared.What.TheVariants as whats
use Rattle.hd_terms.specs.Log.{largest_log, IsLawfulUndo, IsLawful, undoes_what}

-- an event
abbrev event : ℕ → What → Event
event who what = record { who = who; what = what }

-- what an event does is an edit
abbrev is_do : What → Bool
is_do (whats.Do edit) = true
is_do (whats.Undo k) = false

-- there is an event, and it is a `Do` of an analyst
abbrev is_do_by : ℕ → Option Event → Bool
is_do_by who None = false
is_do_by who (Some e) = (e.who == who) && is_do e.what

-- none of the first i events takes back event k
abbrev none_before : List Event → ℕ → ℕ → Bool
none_before [] i k = true
none_before (e ∷ es) zero k = true
none_before (e ∷ es) (suc i) k = not (undoes_what k e.what) && none_before es i k

-- `IsLawfulUndo` as a test, of what an analyst does at place i
abbrev is_lawful_at : List Event → ℕ → ℕ → What → Bool
is_lawful_at log i who (whats.Do edit) = true
is_lawful_at log i who (whats.Undo k) = nat_lt k i && (is_do_by who (slice_get log k) && none_before log i k)

-- the same of all events from a place on
abbrev are_lawful : List Event → ℕ → List Event → Bool
are_lawful log i [] = true
are_lawful log i (e ∷ es) = is_lawful_at log i e.who e.what && are_lawful log (i + 1) es

-- `IsLawful` as a test
abbrev pub is_lawful : List Event → Bool
is_lawful log = nat_le (length log) largest_log && are_lawful log 0 log

is_do-true : (what : What) → is_do what ≡ true → (edit : Edit) × (what ≡ whats.Do edit)
is_do-true (whats.Do edit) h = (edit, refl)
is_do-true (whats.Undo k) h = absurd cc

is_do_by-true : (who : ℕ) (o : Option Event) → is_do_by who o ≡ true → (edit : Edit) × (o ≡ Some (event who (whats.Do edit)))
is_do_by-true who None h = absurd cc
is_do_by-true who (Some e) h =
    let parts = and_parts (e.who == who) (is_do e.what) h in
    let done = is_do-true e.what parts.1 in
    (done.0, ap (λ (w : ℕ). Some (event w e.what)) (eqb-true e.who who parts.0) ∙ ap (λ (w : What). Some (event who w)) done.1)

none_before-true : (es : List Event) (i k : ℕ) → none_before es i k ≡ true → (j w : ℕ) → j < i → slice_get es j ≡ Some (event w (whats.Undo k)) → ⊥
none_before-true [] i k h j w lt is = cc
none_before-true (e ∷ es) zero k h j w lt is = omega arith
none_before-true (e ∷ es) (suc i) k h zero w lt is =
    let parts = and_parts (not (undoes_what k e.what)) (none_before es i k) h in
    let same : e ≡ event w (whats.Undo k) = cc in
    let takes : undoes_what k e.what ≡ true = ap (λ (x : Event). undoes_what k x.what) same ∙ eq-eqb k k refl in
    let none : not true ≡ true = ap not (sym takes) ∙ parts.0 in
    cc
none_before-true (e ∷ es) (suc i) k h (suc j) w lt is =
    none_before-true es i k (and_parts (not (undoes_what k e.what)) (none_before es i k) h).1 j w (omega arith) is

is_lawful_at-true : (log : List Event) (i who k : ℕ) → is_lawful_at log i who (whats.Undo k) ≡ true → IsLawfulUndo log i k who
is_lawful_at-true log i who k h =
    let a = and_parts (nat_lt k i) (is_do_by who (slice_get log k) && none_before log i k) h in
    let b = and_parts (is_do_by who (slice_get log k)) (none_before log i k) a.1 in
    let own = is_do_by-true who (slice_get log k) b.0 in
    record { earlier = ltb-true k i a.0; edit = own.0; own = own.1; first = none_before-true log i k b.1 }

are_lawful-true : (log : List Event) (n : ℕ) (es : List Event) → are_lawful log n es ≡ true → (i k who : ℕ) → slice_get es i ≡ Some (event who (whats.Undo k))
    → IsLawfulUndo log (n + i) k who
are_lawful-true log n [] h i k who is = absurd cc
are_lawful-true log n (e ∷ es) h zero k who is =
    let parts = and_parts (is_lawful_at log n e.who e.what) (are_lawful log (n + 1) es) h in
    let same : e ≡ event who (whats.Undo k) = cc in
    let here : is_lawful_at log n who (whats.Undo k) ≡ true = subst (λ (x : Event). is_lawful_at log n x.who x.what ≡ true) same parts.0 in
    let place : n ≡ n + 0 = omega arith in
    subst (λ (x : ℕ). IsLawfulUndo log x k who) place (is_lawful_at-true log n who k here)
are_lawful-true log n (e ∷ es) h (suc i) k who is =
    let parts = and_parts (is_lawful_at log n e.who e.what) (are_lawful log (n + 1) es) h in
    let place : (n + 1) + i ≡ n + suc i = omega arith in
    subst (λ (x : ℕ). IsLawfulUndo log x k who) place (are_lawful-true log (n + 1) es parts.1 i k who is)

-- what passes the test is lawful
pub lawful : (log : List Event) → is_lawful log ≡ true → IsLawful log
lawful log h =
    let parts = and_parts (nat_le (length log) largest_log) (are_lawful log 0 log) h in
    record {
      short = leb-true (length log) largest_log parts.0;
      undos = λ i k who is.
          let place : 0 + i ≡ i = omega arith in
          subst (λ (x : ℕ). IsLawfulUndo log x k who) place (are_lawful-true log 0 log parts.1 i k who is);
    }
