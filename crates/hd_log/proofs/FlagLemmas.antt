-- Flags of events, as undos take edits back.
use Rattle.std.proofs.Common.{◌≡◌, ◌∙◌, ℕ, zero, suc, ◌+◌, ◌<◌, ◌≤◌, ◌==◌, Bool, true, false, ◌||◌, ◌&&◌, not, cond, List, [], ◌∷◌, ◌++◌, length, get_or, map}
use Rattle.std.proofs.Common.{set, Option, Some, None, slice_get, sym, ap, refl, arith, length-append}
use Rattle.std.specs.Prelude.{is_some, IsNone, ◌↔◌, if◌then◌else◌}
use Rattle.std.specs.Option.{option_or, option_and_then}
use Rattle.std.specs.List.{list_any, enumerate_from}
use Rattle.std.proofs.lemmas.Bool.{eq-eqb, eqb-true}
use Rattle.std.proofs.lemmas.List.{length-map, map-append, get_or-map}
use Rattle.std.proofs.lemmas.Option.{get_or_from_slice_get, slice_get_within, slice_get-get_or}
use Rattle.std.proofs.lemmas.List.Folds.{list_any-append}
use Rattle.std.proofs.lemmas.List.FromFn.{length-enumerate_from, get_or-enumerate_from}
use Rattle.hd_terms.specs.declared.Event.{Event}
use Rattle.hd_terms.specs.declared.What.{What}
use Rattle.hd_terms.specs.declared.What.TheVariants as whats
use Rattle.hd_terms.specs.declared.errors.LogFault.{LogFault}
use Rattle.hd_terms.specs.declared.errors.LogFault.TheVariants as faults
use Rattle.hd_terms.specs.declared.Edit.{Edit}
use Rattle.hd_terms.specs.EditedDump.{adds_root, live_edit_at}
use Rattle.hd_terms.specs.Log.{IsLawful, undoes_what, stays, edit_of, live_edit, is_live, live_flags, own_live, undo_fault_of, undo_fault, full_fault}
use Rattle.hd_terms.specs.Log.{log_fault_of, log_fault}
use Rattle.hd_terms.proofs.LawfulLogs.{IsOwnLive, own_live_event, taken_back, takes, refuses}
use Rattle.hd_log.proofs.LastLemmas.{enumerate-push}
use Rattle.hd_log.specs.Flags.{is_edit, is_live_of, flags_of, cleared, UndoesWithin}

-- an event takes back event k, as a test
abbrev undoes : ℕ → Event → Bool
undoes k e = undoes_what k e.what

or-last-true : (b : Bool) → not (b || true) ≡ false
or-last-true true = refl
or-last-true false = refl

or-last-false : (b : Bool) → not (b || false) ≡ not b
or-last-false true = refl
or-last-false false = refl

-- one more event that takes back event k
stays-not : (seen : List Event) (e : Event) (k : ℕ) → undoes k e ≡ true → stays (seen ++ e ∷ []) k ≡ false
stays-not seen e k h = ap not (list_any-append (undoes k) seen (e ∷ [])) ∙ ap (λ (b : Bool). not (list_any (undoes k) seen || (b || false))) h
    ∙ or-last-true (list_any (undoes k) seen)

-- one more event that doesn't
stays-still : (seen : List Event) (e : Event) (k : ℕ) → undoes k e ≡ false → stays (seen ++ e ∷ []) k ≡ stays seen k
stays-still seen e k h = ap not (list_any-append (undoes k) seen (e ∷ [])) ∙ ap (λ (b : Bool). not (list_any (undoes k) seen || (b || false))) h
    ∙ or-last-false (list_any (undoes k) seen)

-- flags of the numbered events from n on
abbrev flags_from : List Event → ℕ → List Event → List Bool
flags_from seen n log = map (is_live_of seen) (enumerate_from n log)

-- an event that takes back none of them
flags-still : (seen log : List Event) (e : Event) (n : ℕ) → ((k : ℕ) → n ≤ k → undoes k e ≡ false) → flags_from (seen ++ e ∷ []) n log ≡ flags_from seen n log
flags-still seen [] e n h = refl
flags-still seen (x ∷ log) e n h =
    let here : stays (seen ++ e ∷ []) n ≡ stays seen n = stays-still seen e n (h n (omega arith)) in
    let later : flags_from (seen ++ e ∷ []) (n + 1) log ≡ flags_from seen (n + 1) log = flags-still seen log e (n + 1) (λ k le. h k (omega arith)) in
    ap (λ (b : Bool). (b && is_edit x.what) ∷ flags_from (seen ++ e ∷ []) (n + 1) log) here
    ∙ ap (λ (bs : List Bool). (stays seen n && is_edit x.what) ∷ bs) later

not-eqb : (a b : ℕ) (t : Bool) → (a == b) ≡ t → (a ≡ b → ⊥) → (a == b) ≡ false
not-eqb a b true h ne = absurd (ne (eqb-true a b h))
not-eqb a b false h ne = h

-- an undo takes back no event but its own
other-undo : (k t : ℕ) (e : Event) → e.what ≡ whats.Undo t → (t ≡ k → ⊥) → undoes k e ≡ false
other-undo k t e is ne = ap (undoes_what k) is ∙ not-eqb t k (t == k) refl ne

-- the flag of the event that an undo takes back is cleared
flags-undone : (seen log : List Event) (e : Event) (n k t : ℕ) → n + k ≡ t → e.what ≡ whats.Undo t → set (flags_from seen n log) k false ≡ flags_from
    (seen ++ e ∷ []) n log
flags-undone seen [] e n k t at is = refl
flags-undone seen (x ∷ log) e n zero t at is =
    let same : n ≡ t = omega arith in
    let cleared : stays (seen ++ e ∷ []) n ≡ false = stays-not seen e n (ap (undoes_what n) is ∙ eq-eqb t n (sym same)) in
    let later : flags_from (seen ++ e ∷ []) (n + 1) log ≡ flags_from seen (n + 1) log =
    flags-still seen log e (n + 1) (λ k le. other-undo k t e is (λ eq. omega arith)) in
    ap (λ (bs : List Bool). false ∷ bs) (sym later) ∙ ap (λ (b : Bool). (b && is_edit x.what) ∷ flags_from (seen ++ e ∷ []) (n + 1) log) (sym cleared)
flags-undone seen (x ∷ log) e n (suc j) t at is =
    let here : stays (seen ++ e ∷ []) n ≡ stays seen n = stays-still seen e n (other-undo n t e is (λ eq. omega arith)) in
    let later : set (flags_from seen (n + 1) log) j false ≡ flags_from (seen ++ e ∷ []) (n + 1) log = flags-undone seen log e (n + 1) j t (omega arith) is in
    ap (λ (bs : List Bool). (stays seen n && is_edit x.what) ∷ bs) later ∙ ap (λ (b : Bool). (b && is_edit x.what) ∷ flags_from (seen ++ e ∷ []) (n + 1) log)
    (sym here)

-- after an undo of event k
pub flags_undone : (seen log : List Event) (e : Event) (k : ℕ) → e.what ≡ whats.Undo k → set (flags_of seen log) k false ≡ flags_of (seen ++ e ∷ []) log
flags_undone seen log e k is = flags-undone seen log e 0 k k (omega arith) is

-- after an edit
pub flags_kept : (seen log : List Event) (e : Event) → ((k : ℕ) → undoes_what k e.what ≡ false) → flags_of seen log ≡ flags_of (seen ++ e ∷ []) log
flags_kept seen log e h = sym (flags-still seen log e 0 (λ k le. h k))

-- one flag, as the definition has it
one-flag : (live : Bool) (what : What) → (live && is_edit what) ≡ is_some (cond live (edit_of what) None)
one-flag true (whats.Do edit) = refl
one-flag true (whats.Undo k) = refl
one-flag false what = refl

flags-all : (seen log : List Event) (n : ℕ) → flags_from seen n log ≡ map (is_live seen) (enumerate_from n log)
flags-all seen [] n = refl
flags-all seen (x ∷ log) n = ap (λ (b : Bool). b ∷ flags_from seen (n + 1) log) (one-flag (stays seen n) x.what)
    ∙ ap (λ (bs : List Bool). is_live seen (n, x) ∷ bs) (flags-all seen log (n + 1))

-- once all events are seen
pub flags_all : (log : List Event) → flags_of log log ≡ live_flags log
flags_all log = flags-all log log 0

-- as many flags as events
pub length-flags_of : (seen log : List Event) → length (flags_of seen log) ≡ length log
length-flags_of seen log = simp (length-map, length-enumerate_from)

-- an edit takes back nothing
pub edit_undoes_none : (what : What) → ((k : ℕ) → what ≡ whats.Undo k → ⊥) → (k : ℕ) → undoes_what k what ≡ false
edit_undoes_none (whats.Do edit) h k = refl
edit_undoes_none (whats.Undo j) h k = absurd (h j refl)

-- a log takes an event without a fault, and no other
takes_by : (log : List Event) (event : Event) (fault : Option LogFault) → IsLawful log → log_fault log event ≡ fault → IsNone fault
    ↔ IsLawful (log ++ event ∷ [])
takes_by log event None h is = (λ none. takes log event h is, λ law. refl)
takes_by log event (Some f) h is = (λ none. absurd cc, λ law. absurd (refuses log event f is law))

pub takes_or_refuses : (log : List Event) (event : Event) (fault : Option LogFault) → IsLawful log → fault ≡ log_fault log event → IsNone fault
    ↔ IsLawful (log ++ event ∷ [])
takes_or_refuses log event fault h is = takes_by log event fault h (sym is)

-- a test that doesn't hold
none-by : (b : Bool) → (b ≡ true → ⊥) → not b ≡ true
none-by true h = absurd (h refl)
none-by false h = refl

-- in a lawful log no event takes back the last one, or one past it
last-stays : (log : List Event) (k : ℕ) → IsLawful log → length log ≤ k + 1 → stays log k ≡ true
last-stays log k h le = none-by (list_any (undoes k) log) (λ any.
    let (j, w, lt, is) = taken_back log k any in
    let earlier : k < j = (h.undos j k w is).earlier in
    omega arith)

-- flags of the events seen, once one more is
flags-by : (log : List Event) (e : Event) (what : What) → e.what ≡ what → cleared what (flags_of log log) ≡ flags_of (log ++ e ∷ []) log
flags-by log e (whats.Do edit) is = flags_kept log log e (λ k. ap (undoes_what k) is)
flags-by log e (whats.Undo k) is = flags_undone log log e k is

-- of one more event, the flag is whether it is an edit
flags-last : (log : List Event) (e : Event) → IsLawful (log ++ e ∷ []) → flags_of (log ++ e ∷ []) (log ++ e ∷ []) ≡ flags_of (log ++ e ∷ []) log
    ++ is_edit e.what ∷ []
flags-last log e h =
    let number : 0 + length log ≡ length log = omega arith in
    let lives : stays (log ++ e ∷ []) (length log) ≡ true = last-stays (log ++ e ∷ []) (length log) h (omega (arith, length-append log (e ∷ []))) in
    ap (map (is_live_of (log ++ e ∷ []))) (enumerate-push 0 log e)
    ∙ map-append (is_live_of (log ++ e ∷ [])) (enumerate_from 0 log) ((0 + length log, e) ∷ [])
    ∙ ap (λ (n : ℕ). flags_of (log ++ e ∷ []) log ++ (stays (log ++ e ∷ []) n && is_edit e.what) ∷ []) number
    ∙ ap (λ (b : Bool). flags_of (log ++ e ∷ []) log ++ (b && is_edit e.what) ∷ []) lives

-- the flags with one more event
pub flags_with : (log : List Event) (e : Event) → IsLawful log → log_fault log e ≡ None → cleared e.what (live_flags log)
    ++ is_edit e.what ∷ [] ≡ live_flags (log ++ e ∷ [])
flags_with log e h none =
    ap (λ (bs : List Bool). cleared e.what bs ++ is_edit e.what ∷ []) (sym (flags_all log))
    ∙ ap (λ (bs : List Bool). bs ++ is_edit e.what ∷ []) (flags-by log e e.what refl)
    ∙ sym (flags-last log e (takes log e h none))
    ∙ flags_all (log ++ e ∷ [])

-- the first of two reasons
first-none : (a b : Option LogFault) → option_or a b ≡ None → a ≡ None
first-none None b none = refl
first-none (Some fault) b none = absurd cc

-- an undo that a log takes takes back one of its events
undo-within : (log : List Event) (who k : ℕ) (what : What) → log_fault_of log who what ≡ None → what ≡ whats.Undo k → k < length log
undo-within log who k (whats.Do edit) none is = absurd cc
undo-within log who k (whats.Undo j) none is =
    let own : IsOwnLive log j who = own_live_event log j who (first-none (undo_fault log j who (slice_get log j)) (full_fault log) none) in
    let same : j ≡ k = cc in
    omega (arith, same, slice_get_within log j (record { who = who; what = whats.Do own.edit }) own.own)

-- as many flags as events
pub length-live_flags : (log : List Event) → length (live_flags log) ≡ length log
length-live_flags log = simp (length-map, length-enumerate_from)

pub undoes_within : (log : List Event) (flags : List Bool) (e : Event) → flags ≡ live_flags log → log_fault log e ≡ None → UndoesWithin e (length flags)
undoes_within log flags e is none k undo = omega (arith, ap length is, length-live_flags log, undo-within log e.who k e.what none undo)

-- the flag of an event
pub flag_at : (log : List Event) (k : ℕ) (e : Event) (d : Bool) → slice_get log k ≡ Some e → get_or (live_flags log) k d ≡ is_live log (k, e)
flag_at log k e d at =
    let lt : k < length log = slice_get_within log k e at in
    let numbered : get_or (enumerate_from 0 log) k (k, e) ≡ (0 + k, get_or log k e) = get_or-enumerate_from 0 log k (k, e) lt in
    let number : 0 + k ≡ k = omega arith in
    get_or-map (is_live log) (enumerate_from 0 log) k (k, e) d (omega (arith, length-enumerate_from 0 log))
    ∙ ap (is_live log) (numbered ∙ ap (λ (n : ℕ). (n, get_or log k e)) number ∙ ap (λ (x : Event). (k, x)) (get_or_from_slice_get log k e e at))

-- whether an edit is live is whether it stays
is-stays : (b : Bool) (what : What) → is_edit what ≡ true → is_some (cond b (edit_of what) None) ≡ b
is-stays true (whats.Do edit) is = refl
is-stays true (whats.Undo k) is = absurd cc
is-stays false what is = refl

-- the flag of an edit
pub edit_flag : (log : List Event) (live : List Bool) (k : ℕ) (e : Event) (d : Bool) → live ≡ live_flags log → slice_get log k ≡ Some e → is_edit e.what ≡ true
    → get_or live k d ≡ stays log k
edit_flag log live k e d flags at is = ap (λ (bs : List Bool). get_or bs k d) flags ∙ flag_at log k e d at ∙ is-stays (stays log k) e.what is

-- an index among the flags
pub flag_within : (log : List Event) (live : List Bool) (k : ℕ) → live ≡ live_flags log → k < length log → k < length live
flag_within log live k flags lt = omega (arith, ap length flags, length-live_flags log)

-- the flag of an event that is read
flag-read : (log : List Event) (live : List Bool) (k : ℕ) (d : Event) (b : Bool) → live ≡ live_flags log → k < length log → get_or live k false ≡ b
    → is_live log (k, get_or log k d) ≡ b
flag-read log live k d b flags lt is = sym (flag_at log k (get_or log k d) false (slice_get-get_or log k d lt))
    ∙ ap (λ (bs : List Bool). get_or bs k false) (sym flags) ∙ is

-- whether a live edit adds a root
live-adds : (b : Bool) (what : What) → is_some (cond b (edit_of what) None) ≡ true → adds_root (edit_of what) ≡ adds_root (cond b (edit_of what) None)
live-adds true what live = refl
live-adds false what live = absurd cc

none-adds : (edit : Option Edit) → is_some edit ≡ false → false ≡ adds_root edit
none-adds None none = refl
none-adds (Some edit) none = absurd cc

at-read : (log : List Event) (k : ℕ) (d : Event) → k < length log → live_edit log (k, get_or log k d) ≡ live_edit_at log k
at-read log k d lt = sym (ap (option_and_then (λ (e : Event). live_edit log (k, e))) (slice_get-get_or log k d lt))

pub live_adds : (log : List Event) (live : List Bool) (k : ℕ) (d : Event) → live ≡ live_flags log → k < length log → get_or live k false ≡ true
    → adds_root (edit_of (get_or log k d).what) ≡ adds_root (live_edit_at log k)
live_adds log live k d flags lt is = live-adds (stays log k) (get_or log k d).what (flag-read log live k d true flags lt is) ∙ ap adds_root (at-read log k d lt)

pub dead_adds : (log : List Event) (live : List Bool) (k : ℕ) (d : Event) → live ≡ live_flags log → k < length log → get_or live k false ≡ false
    → false ≡ adds_root (live_edit_at log k)
dead_adds log live k d flags lt is = none-adds (live_edit log (k, get_or log k d)) (flag-read log live k d false flags lt is)
    ∙ ap adds_root (at-read log k d lt)

-- an analyst's live event, and one that isn't
module _ (log : List Event) (live : List Bool) (k who : ℕ) (d e : Event) (flags : live ≡ live_flags log) (at : slice_get log k ≡ Some e) where
  one-read : get_or log k d ≡ e
  one-read = get_or_from_slice_get log k e d at

  flag-is : (b : Bool) → get_or live k false ≡ b → is_live log (k, e) ≡ b
  flag-is b is = sym (flag_at log k e false at) ∙ ap (λ (bs : List Bool). get_or bs k false) (sym flags) ∙ is

  pub own_is : get_or live k false ≡ true → (get_or log k d).who ≡ who → Some k ≡ own_live log who (k, e)
  own_is is own =
      sym (ap (λ (b : Bool). if b && (e.who == who) then Some k else None) (flag-is true is)
      ∙ ap (λ (b : Bool). if b then Some k else None) (eq-eqb e.who who (ap (λ (x : Event). x.who) (sym one-read) ∙ own)))

  pub other_is : get_or live k false ≡ true → ((get_or log k d).who ≡ who → ⊥) → None ≡ own_live log who (k, e)
  other_is is other =
      sym (ap (λ (b : Bool). if b && (e.who == who) then Some k else None) (flag-is true is)
      ∙ ap (λ (b : Bool). if b then Some k else None) (not-eqb e.who who (e.who == who) refl (λ same. other (ap (λ (x : Event). x.who) one-read ∙ same))))

  pub dead_is : get_or live k false ≡ false → None ≡ own_live log who (k, e)
  dead_is is = sym (ap (λ (b : Bool). if b && (e.who == who) then Some k else None) (flag-is false is))

-- why an analyst may not take back an event, by what is read
module _ (log : List Event) (live : List Bool) (k who : ℕ) (d : Event) (flags : live ≡ live_flags log) (lt : k < length log) where
  fault-of : (what : What) (owned stays_so : Bool) → ((get_or log k d).who == who) ≡ owned → (get_or log k d).what ≡ what → stays log k ≡ stays_so
      → (edit : Edit) → what ≡ whats.Do edit
      → (if owned then (if stays_so then None else Some faults.NotLive) else Some faults.NotYours) ≡ undo_fault log k who (slice_get log k)
  fault-of what owned stays_so own is lives edit done =
      ap (λ (b : Bool). if owned then (if b then None else Some faults.NotLive) else Some faults.NotYours) (sym lives)
      ∙ ap (λ (b : Bool). if b then (if stays log k then None else Some faults.NotLive) else Some faults.NotYours) (sym own)
      ∙ ap (undo_fault_of log k who (get_or log k d).who) (sym (is ∙ done))
      ∙ sym (ap (undo_fault log k who) (slice_get-get_or log k d lt))

  edit-is : (what : What) → is_edit what ≡ true → (edit : Edit) × (what ≡ whats.Do edit)
  edit-is (whats.Do edit) is = (edit, refl)
  edit-is (whats.Undo j) is = absurd cc

  lives-by : (b : Bool) → is_edit (get_or log k d).what ≡ true → get_or live k false ≡ b → stays log k ≡ b
  lives-by b edit is = sym (edit_flag log live k (get_or log k d) false flags (slice_get-get_or log k d lt) edit) ∙ is

  pub fault_none : is_edit (get_or log k d).what ≡ true → (get_or log k d).who ≡ who → get_or live k false ≡ true
      → None ≡ undo_fault log k who (slice_get log k)
  fault_none edit own is = let (x, done) = edit-is (get_or log k d).what edit in
      fault-of (get_or log k d).what true true (eq-eqb (get_or log k d).who who own) refl (lives-by true edit is) x done

  pub fault_not_live : is_edit (get_or log k d).what ≡ true → (get_or log k d).who ≡ who → get_or live k false ≡ false
      → Some faults.NotLive ≡ undo_fault log k who (slice_get log k)
  fault_not_live edit own is = let (x, done) = edit-is (get_or log k d).what edit in
      fault-of (get_or log k d).what true false (eq-eqb (get_or log k d).who who own) refl (lives-by false edit is) x done
