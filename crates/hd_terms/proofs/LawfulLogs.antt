-- A lawful log takes exactly the events that leave it lawful.
use Rattle.std.proofs.Common.{◌≡◌, ◌∙◌, ℕ, zero, suc, ◌<◌, ◌≤◌, ◌==◌, ◌⊎◌, inl, inr, Bool, true, false, ◌||◌, not, cond, nat_le, List, [], ◌∷◌, ◌++◌, length}
use Rattle.std.proofs.Common.{length-append, slice_get, Option, Some, None, subst, sym, ap, refl, arith}
use Rattle.std.specs.Option.{option_or}
use Rattle.std.specs.List.{list_any}
use Rattle.std.proofs.lemmas.Bool.{eqb-true, leb-true, leb-false, or_cases, eq-eqb, cases_lt}
use Rattle.std.proofs.lemmas.Option.{slice_get_within}
use Rattle.hd_terms.specs.declared.Edit.{Edit}
use Rattle.hd_terms.specs.declared.Event.{Event}
use Rattle.hd_terms.specs.declared.What.{What}
use Rattle.hd_terms.specs.declared.What.TheVariants as whats
use Rattle.hd_terms.specs.declared.errors.LogFault.{LogFault}
use Rattle.hd_terms.specs.declared.errors.LogFault.TheVariants as faults
use Rattle.hd_terms.specs.Log.{largest_log, IsEvent, IsLawfulUndo, IsLawful, undoes_what, stays, undo_fault_of, undo_fault, full_fault, log_fault_of, log_fault}

-- an event
abbrev event_by : ℕ → What → Event
event_by who what = record { who = who; what = what }

-- tests and faults
or_false_right : (a b : Bool) → (a || b) ≡ false → b ≡ false
or_false_right true b h = absurd cc
or_false_right false b h = h

not-true : (b : Bool) → not b ≡ true → b ≡ false
not-true true h = absurd cc
not-true false h = refl

not-false : (b : Bool) → not b ≡ false → b ≡ true
not-false true h = refl
not-false false h = absurd cc

-- a test that gives no fault fails
no_fault-false : (b : Bool) (f : LogFault) → cond {A = Option LogFault} b (Some f) None ≡ None → b ≡ false
no_fault-false true f h = absurd cc
no_fault-false false f h = refl

-- a test that gives a fault succeeds
fault-true : (b : Bool) (f g : LogFault) → cond {A = Option LogFault} b (Some f) None ≡ Some g → b ≡ true
fault-true true f g h = refl
fault-true false f g h = absurd cc

-- the event is the analyst's own and live where there is no fault
own-parts : (own live : Bool) → cond {A = Option LogFault} own (cond live None (Some faults.NotLive)) (Some faults.NotYours) ≡ None → (own ≡ true)
    × (live ≡ true)
own-parts true true h = (refl, refl)
own-parts true false h = absurd cc
own-parts false live h = absurd cc

-- one's own event that gives a fault isn't live
live-part : (own live : Bool) (f : LogFault) → own ≡ true → cond {A = Option LogFault} own (cond live None (Some faults.NotLive))
    (Some faults.NotYours) ≡ Some f → live ≡ false
live-part true true f e h = absurd cc
live-part true false f e h = refl
live-part false live f e h = absurd cc

-- two reasons, the first of them first
or_none : (a b : Option LogFault) → option_or a b ≡ None → (a ≡ None) × (b ≡ None)
or_none None b h = (refl, h)
or_none (Some f) b h = absurd cc

or_some : (a b : Option LogFault) (f : LogFault) → option_or a b ≡ Some f → (a ≡ Some f) ⊎ (b ≡ Some f)
or_some None b f h = inr h
or_some (Some g) b f h = inl h

-- an event before the last
pub get-before : (log : List Event) (e : Event) (i : ℕ) → i < length log → slice_get (log ++ e ∷ []) i ≡ slice_get log i
get-before [] e i lt = absurd (omega arith)
get-before (x ∷ log) e zero lt = refl
get-before (x ∷ log) e (suc i) lt = get-before log e i (omega arith)

-- the last event
pub get-last : (log : List Event) (e : Event) → slice_get (log ++ e ∷ []) (length log) ≡ Some e
get-last [] e = refl
get-last (x ∷ log) e = get-last log e

-- what takes back event k is an undo of k
undo-of : (k : ℕ) (what : What) → undoes_what k what ≡ true → what ≡ whats.Undo k
undo-of k (whats.Do edit) h = absurd cc
undo-of k (whats.Undo j) h = ap (λ (n : ℕ). whats.Undo n) (eqb-true j k h)

-- an undo of k takes it back
undoes-it : (k : ℕ) → undoes_what k (whats.Undo k) ≡ true
undoes-it k = eq-eqb k k refl

-- some event of a log takes back event k
pub taken_back : (log : List Event) (k : ℕ) → list_any (λ (e : Event). undoes_what k e.what) log ≡ true → (j : ℕ) × (w : ℕ) × (j < length log)
    × IsEvent log j (event_by w (whats.Undo k))
taken_back [] k h = absurd cc
taken_back (x ∷ log) k h = elim (or_cases (undoes_what k x.what) (list_any (λ (e : Event). undoes_what k e.what) log) h) [
  | inl here ↦ (0, x.who, omega arith, ap (λ (what : What). Some (event_by x.who what)) (undo-of k x.what here))
  | inr later ↦ let r : (j : ℕ) × (w : ℕ) × (j < length log) × IsEvent log j (event_by w (whats.Undo k)) = taken_back log k later in
      (suc r.0, r.1, omega (arith, r.2), r.3)
]

-- an event that takes back event k is one of the log
pub none_takes_back : (log : List Event) (k j w : ℕ) → list_any (λ (e : Event). undoes_what k e.what) log ≡ false → IsEvent log j (event_by w (whats.Undo k))
    → ⊥
none_takes_back [] k j w h is = cc
none_takes_back (x ∷ log) k zero w h is =
    let same : x ≡ event_by w (whats.Undo k) = cc in
    let takes : undoes_what k x.what ≡ true = ap (λ (e : Event). undoes_what k e.what) same ∙ undoes-it k in
    let both : true ≡ false = ap (λ (b : Bool). b || list_any (λ (e : Event). undoes_what k e.what) log) (sym takes) ∙ h in
    cc
none_takes_back (x ∷ log) k (suc j) w h is =
    none_takes_back log k j w (or_false_right (undoes_what k x.what) (list_any (λ (e : Event). undoes_what k e.what) log) h) is

-- a log that takes one more has room
room : (log : List Event) → full_fault log ≡ None → length log < largest_log
room log h = leb-false largest_log (length log) (no_fault-false (nat_le largest_log (length log)) faults.LogFull h)

-- a full log has none
full : (log : List Event) (f : LogFault) → full_fault log ≡ Some f → largest_log ≤ length log
full log f h = leb-true largest_log (length log) (fault-true (nat_le largest_log (length log)) faults.LogFull f h)

-- what an undo without a fault names
pub record IsOwnLive (log : List Event) (k who : ℕ) : Type 0 where
  pub edit : Edit
  pub own : IsEvent log k (event_by who (whats.Do edit))
  pub untouched : list_any (λ (e : Event). undoes_what k e.what) log ≡ false

own_live_of : (log : List Event) (k who owner : ℕ) (what : What) → slice_get log k ≡ Some (event_by owner what) → undo_fault_of log k who owner what ≡ None
    → IsOwnLive log k who
own_live_of log k who owner (whats.Undo j) is h = absurd cc
own_live_of log k who owner (whats.Do edit) is h =
    let parts = own-parts (owner == who) (stays log k) h in
    record {
      edit = edit;
      own = is ∙ ap (λ (w : ℕ). Some (event_by w (whats.Do edit))) (eqb-true owner who parts.0);
      untouched = not-true (list_any (λ (e : Event). undoes_what k e.what) log) parts.1;
    }

own_live_at : (log : List Event) (k who : ℕ) (at : Option Event) → slice_get log k ≡ at → undo_fault log k who at ≡ None → IsOwnLive log k who
own_live_at log k who None is h = absurd cc
own_live_at log k who (Some e) is h = own_live_of log k who e.who e.what is h

-- an undo without a fault names a live `Do` of its analyst
pub own_live_event : (log : List Event) (k who : ℕ) → undo_fault log k who (slice_get log k) ≡ None → IsOwnLive log k who
own_live_event log k who h = own_live_at log k who (slice_get log k) refl h

-- a log that takes an event has room, and what the event takes back is a live `Do` of its analyst
pub record IsTakenUp (log : List Event) (who : ℕ) (what : What) : Type 0 where
  pub room : length log < largest_log
  pub undo : (k : ℕ) → what ≡ whats.Undo k → IsOwnLive log k who

taken_up_by : (log : List Event) (who : ℕ) (what : What) → log_fault_of log who what ≡ None → IsTakenUp log who what
taken_up_by log who (whats.Do edit) h = record { room = room log h; undo = λ k same. absurd cc }
taken_up_by log who (whats.Undo j) h =
    let parts = or_none (undo_fault log j who (slice_get log j)) (full_fault log) h in
    record {
      room = room log parts.1;
      undo = λ k same. let is : j ≡ k = cc in subst (λ (n : ℕ). IsOwnLive log n who) is (own_live_event log j who parts.0);
    }

-- an undo of a log that is lawful in a longer one
longer : (log : List Event) (e : Event) (i k who : ℕ) → i ≤ length log → IsLawfulUndo log i k who → IsLawfulUndo (log ++ e ∷ []) i k who
longer log e i k who le h = record {
  earlier = h.earlier;
  edit = h.edit;
  own = get-before log e k (omega (arith, h.earlier)) ∙ h.own;
  first = λ j w lt is. h.first j w lt (sym (get-before log e j (omega arith)) ∙ is);
}

-- a log takes an event without a fault
pub takes : (log : List Event) (event : Event) → IsLawful log → log_fault log event ≡ None → IsLawful (log ++ event ∷ [])
takes log event h none =
    let up : IsTakenUp log event.who event.what = taken_up_by log event.who event.what none in
    record {
      short = omega (arith, length-append log (event ∷ []), up.room);
      undos = λ i k who is. elim (cases_lt i (length log)) [
        | inl lt ↦ longer log event i k who (omega arith) (h.undos i k who (sym (get-before log event i lt) ∙ is))
        | inr le ↦
            let within : i < length (log ++ event ∷ []) = slice_get_within (log ++ event ∷ []) i (event_by who (whats.Undo k)) is in
            let last : i ≡ length log = omega (arith, length-append log (event ∷ [])) in
            let same : Some event ≡ Some (event_by who (whats.Undo k)) = sym (get-last log event) ∙ sym (ap (slice_get (log ++ event ∷ [])) last) ∙ is in
            let whole : event ≡ event_by who (whats.Undo k) = cc in
            let live : IsOwnLive log k event.who = up.undo k (ap (λ (e : Event). e.what) whole) in
            let own : IsOwnLive log k who = subst (λ (w : ℕ). IsOwnLive log k w) (ap (λ (e : Event). e.who) whole) live in
            longer log event i k who (omega arith) (record {
              earlier = omega (arith, slice_get_within log k (event_by who (whats.Do own.edit)) own.own);
              edit = own.edit;
              own = own.own;
              first = λ j w lt at. none_takes_back log k j w own.untouched at;
            })
      ];
    }

-- why an analyst may not take back event k: it is no `Do` of theirs, or it is taken back already
refused_undo : (log : List Event) (k who owner : ℕ) (what : What) (f : LogFault) (edit : Edit) → undo_fault_of log k who owner what ≡ Some f
    → event_by owner what ≡ event_by who (whats.Do edit) → list_any (λ (e : Event). undoes_what k e.what) log ≡ true
refused_undo log k who owner (whats.Undo j) f edit h same = let no : whats.Undo j ≡ whats.Do edit = ap (λ (e : Event). e.what) same in absurd cc
refused_undo log k who owner (whats.Do done) f edit h same =
    not-false (list_any (λ (e : Event). undoes_what k e.what) log)
    (live-part (owner == who) (stays log k) f (eq-eqb owner who (ap (λ (e : Event). e.who) same)) h)

refused_undo_at : (log : List Event) (k who : ℕ) (at : Option Event) (f : LogFault) (edit : Edit) → undo_fault log k who at ≡ Some f
    → at ≡ Some (event_by who (whats.Do edit)) → list_any (λ (e : Event). undoes_what k e.what) log ≡ true
refused_undo_at log k who None f edit h same = absurd cc
refused_undo_at log k who (Some e) f edit h same = let is : e ≡ event_by who (whats.Do edit) = cc in refused_undo log k who e.who e.what f edit h is

-- a log with one more is no longer than the most
one_more : (log : List Event) (e : Event) → IsLawful (log ++ e ∷ []) → length log < largest_log
one_more log e h = omega (arith, h.short, length-append log (e ∷ []))

refuses_by : (log : List Event) (who : ℕ) (what : What) (f : LogFault) → log_fault_of log who what ≡ Some f → IsLawful (log ++ event_by who what ∷ []) → ⊥
refuses_by log who (whats.Do edit) f h law = omega (arith, full log f h, one_more log (event_by who (whats.Do edit)) law)
refuses_by log who (whats.Undo k) f h law = elim (or_some (undo_fault log k who (slice_get log k)) (full_fault log) f h) [
  | inl undo ↦
      let e : Event = event_by who (whats.Undo k) in
      let u : IsLawfulUndo (log ++ e ∷ []) (length log) k who = law.undos (length log) k who (get-last log e) in
      let own : slice_get log k ≡ Some (event_by who (whats.Do u.edit)) = sym (get-before log e k u.earlier) ∙ u.own in
      let taken : (j : ℕ) × (w : ℕ) × (j < length log) × IsEvent log j (event_by w (whats.Undo k)) =
      taken_back log k (refused_undo_at log k who (slice_get log k) f u.edit undo own) in
      u.first taken.0 taken.1 taken.2 (get-before log e taken.0 taken.2 ∙ taken.3)
  | inr more ↦ omega (arith, full log f more, one_more log (event_by who (whats.Undo k)) law)
]

-- a log with a fault at an event isn't lawful with it
pub refuses : (log : List Event) (event : Event) (f : LogFault) → log_fault log event ≡ Some f → IsLawful (log ++ event ∷ []) → ⊥
refuses log event f h law = refuses_by log event.who event.what f h law

-- the log with no event is lawful
pub empty_lawful : IsLawful []
empty_lawful = record { short = omega arith; undos = λ i k who is. absurd cc }
