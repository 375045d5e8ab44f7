-- One event more is one live edit more, or one fewer.
use Rattle.std.proofs.Common.{◌≡◌, ◌∙◌, inl, inr, ℕ, ◌+◌, ◌-◌, ◌<◌, ◌≤◌, ◌==◌, Bool, true, false, cond, not, List, [], ◌∷◌, ◌++◌}
use Rattle.std.proofs.Common.{length, take, Option, Some, None, slice_get}
use Rattle.std.proofs.Common.{refl, sym, ap, subst, arith, length-append}
use Rattle.std.specs.Option.{option_and_then, option_or}
use Rattle.std.proofs.lemmas.Bool.{cases_lt, cases_eq, eq-eqb, eqb-true}
use Rattle.std.proofs.lemmas.List.{length-take-le, take_all, take_more}
use Rattle.std.proofs.lemmas.Option.{get_or_from_slice_get, option_and_then_some}
use Rattle.hd_terms.specs.declared.Edit.{Edit}
use Rattle.hd_terms.specs.declared.Edit.TheVariants as edits
use Rattle.hd_terms.specs.declared.Event.{Event}
use Rattle.hd_terms.specs.declared.What.{What}
use Rattle.hd_terms.specs.declared.What.TheVariants as whats
use Rattle.hd_terms.specs.declared.errors.LogFault.{LogFault}
use Rattle.hd_terms.specs.EditedDump.{adds_root, live_edit_at}
use Rattle.hd_terms.specs.Log.{undoes_what, stays, edit_of, live_edit, undo_fault, full_fault, log_fault_of, log_fault, IsLawful}
use Rattle.hd_strength.specs.OneMore.{HasEditMore}
use Rattle.hd_strength.proofs.OneMoreLemmas.{stays-not, stays-still, edit_more, edit_fewer}
use Rattle.hd_terms.proofs.LawfulLogs.{IsOwnLive, get-before, get-last, own_live_event}
use Rattle.hd_view.specs.OneEdit.{HasOneMore}
use Rattle.hd_view.proofs.OneEditLemmas.{place-within, under-test}
use Rattle.hd_state.specs.declared.repairing.Moved.{Moved}
use Rattle.hd_state.specs.Moves.{ChangesEdits, IsEdit, IsMovedBack, Moves}
use Rattle.hd_state.specs.LastMove.{Restores}
use Rattle.hd_state.specs.Next.{IsNextLog}

-- an undo takes back no event but its own
other-event : (k t : ℕ) (b : Bool) → (t == k) ≡ b → (k ≡ t → ⊥) → b ≡ false
other-event k t true is other = absurd (other (sym (eqb-true t k is)))
other-event k t false is other = refl

-- one event more
module _ (log : List Event) (event : Event) where
  abbrev after : List Event
  after = log ++ event ∷ []

  abbrev undoes : ℕ → Event → Bool
  undoes k e = undoes_what k e.what

  -- at an earlier place that the event doesn't take back
  at-before : (k : ℕ) → k < length log → undoes k event ≡ false → live_edit_at after k ≡ live_edit_at log k
  at-before k lt other =
      ap (option_and_then (λ (e : Event). live_edit after (k, e))) (get-before log event k lt)
      ∙ ap (λ (b : Bool). option_and_then (λ (e : Event). cond b (edit_of e.what) None) (slice_get log k)) (stays-still log event k other)

  -- at the one that it takes back
  at-undone : (k : ℕ) (x : Edit) → undoes k event ≡ true → live_edit_at after k ≡ Some x → ⊥
  at-undone k x is live =
      option_and_then_some (λ (e : Event). live_edit after (k, e)) (slice_get after k) x live
      (λ e at here. let clash : false ≡ true = sym (stays-not log event k is) ∙ (under-test (stays after k) (edit_of e.what) x here).0 in absurd cc)

  -- at its own
  at-last : (k : ℕ) (x : Edit) → length log ≤ k → live_edit_at after k ≡ Some x → edit_of event.what ≡ Some x
  at-last k x le live =
      let lt : k < length after = place-within after k x live in
      let last : k ≡ length log = omega (arith, length-append log (event ∷ [])) in
      let here : live_edit after (k, event) ≡ Some x =
      sym (ap (option_and_then (λ (e : Event). live_edit after (k, e))) (ap (slice_get after) last ∙ get-last log event)) ∙ live in
      (under-test (stays after k) (edit_of event.what) x here).1

  -- an edit is one more live edit
  edit-more : (edit : Edit) → event.what ≡ whats.Do edit → HasOneMore log after (length log) edit
  edit-more edit is =
      let other : (k : ℕ) → undoes k event ≡ false = λ k. ap (undoes_what k) is in
      record {
        kept = λ k x live. at-before k (place-within log k x live) (other k) ∙ live;
        only = λ k x live. elim (cases_lt k (length log)) [
          | inl lt ↦ inl (sym (at-before k lt (other k)) ∙ live)
          | inr le ↦
              let lt : k < length after = place-within after k x live in
              let last : k ≡ length log = omega (arith, length-append log (event ∷ [])) in
              let same : Some edit ≡ Some x = sym (ap edit_of is) ∙ at-last k x le live in
              let one : x ≡ edit = cc in
              inr (last, one)
        ];
      }

  -- an undo of a live edit leaves one live edit fewer
  edit-fewer : (t who : ℕ) (own : IsOwnLive log t who) → event.what ≡ whats.Undo t → HasOneMore after log t own.edit
  edit-fewer t who own is =
      let undone : undoes t event ≡ true = ap (undoes_what t) is ∙ eq-eqb t t refl in
      let others : (k : ℕ) → (k ≡ t → ⊥) → undoes k event ≡ false = λ k ne. ap (undoes_what k) is ∙ other-event k t (t == k) refl ne in
      record {
        kept = λ k x live. elim (cases_lt k (length log)) [
          | inl lt ↦ elim (cases_eq k t) [
            | inl same ↦ absurd (at-undone t x undone (sym (ap (live_edit_at after) same) ∙ live))
            | inr other ↦ sym (at-before k lt (others k other)) ∙ live
          ]
          | inr le ↦ let clash : None ≡ Some x = sym (ap edit_of is) ∙ at-last k x le live in absurd cc
        ];
        only = λ k x live. elim (cases_eq k t) [
          | inl same ↦
              let here : live_edit_at log t ≡ Some x = sym (ap (live_edit_at log) same) ∙ live in
              let gives : live_edit log (t, record { who = who; what = whats.Do own.edit }) ≡ Some x =
              sym (ap (option_and_then (λ (e : Event). live_edit log (t, e))) own.own) ∙ here in
              let edit : Some own.edit ≡ Some x = (under-test (stays log t) (Some own.edit) x gives).1 in
              let one : x ≡ own.edit = cc in
              inr (same, one)
          | inr other ↦ inl (at-before k (place-within log k x live) (others k other) ∙ live)
        ];
      }

-- the first of two reasons
first-none : (a b : Option LogFault) → option_or a b ≡ None → a ≡ None
first-none None b none = refl
first-none (Some fault) b none = absurd cc

-- an edit that is done takes away, unless it adds a root
done-by : (before later : List Event) (k : ℕ) (edit : Edit) → HasOneMore before later k edit → Moves before later (not (adds_root (Some edit))) k edit
done-by before later k (edits.Cut id slot) one = one
done-by before later k (edits.Clear id) one = one
done-by before later k (edits.Drop r) one = one
done-by before later k (edits.Add id) one = one
done-by before later k (edits.ClearAll kind) one = one
done-by before later k (edits.CutAll class i) one = one

-- and one that is undone the other way round
undone-by : (before later : List Event) (k : ℕ) (edit : Edit) → HasOneMore later before k edit → Moves before later (adds_root (Some edit)) k edit
undone-by before later k (edits.Cut id slot) one = one
undone-by before later k (edits.Clear id) one = one
undone-by before later k (edits.Drop r) one = one
undone-by before later k (edits.Add id) one = one
undone-by before later k (edits.ClearAll kind) one = one
undone-by before later k (edits.CutAll class i) one = one

-- the event of the later log
module _ (before later : List Event) (next : IsNextLog before later) (e : Event) (at : slice_get later (length before) ≡ Some e) where
  event-is : next.event ≡ e
  event-is =
      let same : Some next.event ≡ Some e = sym (get-last before next.event) ∙ sym (ap (λ (log : List Event). slice_get log (length before)) next.is) ∙ at in
      cc

  later-is : before ++ e ∷ [] ≡ later
  later-is = ap (λ (x : Event). before ++ x ∷ []) (sym event-is) ∙ sym next.is

  no-fault : log_fault before e ≡ None
  no-fault = ap (log_fault before) (sym event-is) ∙ next.takes

  -- an edit is done
  pub moves_done : (edit : Edit) → e.what ≡ whats.Do edit → Moves before later (not (adds_root (Some edit))) (length before) edit
  moves_done edit is = done-by before later (length before) edit
      (subst (λ (log : List Event). HasOneMore before log (length before) edit) later-is (edit-more before e edit is))

  by-what : (what : What) (k : ℕ) → log_fault_of before e.who what ≡ None → what ≡ whats.Undo k → IsOwnLive before k e.who
  by-what (whats.Do edit) k none is = absurd cc
  by-what (whats.Undo j) k none is =
      let same : j ≡ k = cc in
      subst (λ (n : ℕ). IsOwnLive before n e.who) same
      (own_live_event before j e.who (first-none (undo_fault before j e.who (slice_get before j)) (full_fault before) none))

  own : (k : ℕ) → e.what ≡ whats.Undo k → IsOwnLive before k e.who
  own k is = by-what e.what k no-fault is

  -- an undo names an edit
  pub undo_edit : (k : ℕ) → e.what ≡ whats.Undo k → IsEdit before k
  undo_edit k is = record { who = e.who; edit = (own k is).edit; is = (own k is).own }

  -- that edit is undone
  pub moves_back : (k : ℕ) (moved : Moved) → e.what ≡ whats.Undo k → IsMovedBack before k moved → Moves before later moved.loses moved.event moved.edit
  moves_back k moved is back =
      let edit : moved.edit ≡ (own k is).edit = back.is e.who (own k is).edit (own k is).own in
      let fewer : HasOneMore later before k (own k is).edit = subst (λ (log : List Event). HasOneMore log before k (own k is).edit) later-is
      (edit-fewer before e k e.who (own k is) is) in
      let undone : Moves before later (adds_root (Some moved.edit)) k moved.edit =
      undone-by before later k moved.edit (subst (λ (y : Edit). HasOneMore later before k y) (sym edit) fewer) in
      subst (λ (n : ℕ). Moves before later moved.loses n moved.edit) (sym back.event)
      (subst (λ (b : Bool). Moves before later b k moved.edit) (sym back.loses) undone)

  -- an edit that is done is one live edit more
  pub edits_done : (edit : Edit) → IsLawful before → e.what ≡ whats.Do edit → ChangesEdits before later true edit
  edits_done edit lawful is = subst (λ (log : List Event). HasEditMore before log edit) later-is (edit_more before e edit lawful is)

  -- and one that is taken back one fewer
  pub edits_back : (k : ℕ) (moved : Moved) → e.what ≡ whats.Undo k → IsMovedBack before k moved → ChangesEdits before later moved.done moved.edit
  edits_back k moved is back =
      let edit : moved.edit ≡ (own k is).edit = back.is e.who (own k is).edit (own k is).own in
      let fewer : HasEditMore later before (own k is).edit =
      subst (λ (log : List Event). HasEditMore log before (own k is).edit) later-is (edit_fewer before e k e.who (own k is) is) in
      subst (λ (b : Bool). ChangesEdits before later b moved.edit) (sym back.done) (subst (λ (y : Edit). HasEditMore later before y) (sym edit) fewer)

  -- what the last event did is gone, and all else that is live was so before it
  pub restores : (k : ℕ) → e.what ≡ whats.Undo k → Restores before later k
  restores k is last =
      let o : IsOwnLive before k e.who = own k is in
      let x : Event = record { who = e.who; what = whats.Do o.edit } in
      let lt : k < length before = omega arith in
      let place : length before - 1 ≡ k = omega arith in
      let front : take (length before - 1) before ≡ take k before = ap (λ (n : ℕ). take n before) place in
      let len : length (take k before) ≡ k = length-take-le k before (omega arith) in
      let whole : take k before ++ x ∷ [] ≡ before =
      sym (take_more before k x lt ∙ ap (λ (y : Event). take k before ++ y ∷ []) (get_or_from_slice_get before k x x o.own))
      ∙ take_all (k + 1) before (omega arith) in
      let added : HasOneMore (take k before) (take k before ++ x ∷ []) (length (take k before)) o.edit = edit-more (take k before) x o.edit refl in
      let more : HasOneMore (take k before) before k o.edit = subst (λ (log : List Event). HasOneMore (take k before) log k o.edit) whole
      (subst (λ (n : ℕ). HasOneMore (take k before) (take k before ++ x ∷ []) n o.edit) len added) in
      let fewer : HasOneMore later before k o.edit = subst (λ (log : List Event). HasOneMore log before k o.edit) later-is (edit-fewer before e k e.who o is) in
      let undone : (y : Edit) → live_edit_at later k ≡ Some y → ⊥ = λ y live. at-undone before e k y (ap (undoes_what k) is ∙ eq-eqb k k refl)
      (subst (λ (log : List Event). live_edit_at log k ≡ Some y) (sym later-is) live) in
      record {
        there = λ j y live. elim (fewer.only j y (more.kept j y (subst (λ (log : List Event). live_edit_at log j ≡ Some y) front live))) [
          | inl still ↦ still
          | inr (same, added_last) ↦
              let within : j < length (take k before) =
              place-within (take k before) j y (subst (λ (log : List Event). live_edit_at log j ≡ Some y) front live) in
              absurd (omega (arith, len, same, within))
        ];
        back = λ j y live. elim (more.only j y (fewer.kept j y live)) [
          | inl was ↦ subst (λ (log : List Event). live_edit_at log j ≡ Some y) (sym front) was
          | inr (same, added_last) ↦ absurd (undone y (subst (λ (n : ℕ). live_edit_at later n ≡ Some y) same live))
        ];
      }
