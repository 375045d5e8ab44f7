-- Each example is lines that an analyst gives, and the replies, line by line.
-- The strengths that they tell are those of settled supports for the log at that line.
use Rattle.std.proofs.Common.{◌≡◌, ◌∙◌, ℕ, inl, inr, true, false, List, [], ◌∷◌, ◌++◌, ◌+◌, ◌<◌, Some, None, take, codes, lit<, sym, ap, refl, append-nil}
use Rattle.std.specs.Prelude.{decimal}
use Rattle.std.proofs.lemmas.Fmt.{decimal_digit}
use Rattle.hd_terms.specs.declared.Slot.TheVariants as slots
use Rattle.hd_terms.specs.declared.Strength.TheVariants as strengths
use Rattle.hd_terms.specs.declared.Support.TheVariants as supports
use Rattle.hd_terms.specs.declared.What.TheVariants as whats
use Rattle.hd_terms.specs.declared.Event.{Event}
use Rattle.hd_terms.specs.declared.errors.LogFault.TheVariants as faults
use Rattle.hd_terms.specs.declared.errors.Refusal.TheVariants as refusals
use Rattle.hd_lines.specs.declared.commands.Command.TheVariants as commands
use Rattle.hd_terms.specs.Settled.{Reached, unreached}
use Rattle.hd_lines.specs.Replies.{RepliesDone, answered, with_newline, event_line}
use Rattle.hd_lines.specs.Sessions.{IsLater, IsRefreshed}
use Rattle.hd_lines.specs.Memory.{Memory, beginning, at_log}
use Rattle.hd_lines.specs.Sessions as sessions
use Rattle.hd_terms.specs.Log.{IsLawful, own}
use Rattle.hd_terms.specs.Examples as examples
use Rattle.hd_lines.specs.SessionExamples as session_examples
use Rattle.hd_terms.proofs.FellByTest.{fell}
use Rattle.hd_terms.proofs.LawfulByTest.{is_lawful, lawful}
use Rattle.hd_lines.proofs.examples.session_examples.Goals as goal

-- what is kept of the two arrays, with and without the edge between them
abbrev both : List Reached
both = (record { strength = strengths.Strong; support = supports.Root 0; stamp = 0 })
    ∷ (record { strength = strengths.Strong; support = supports.Edge 0 (slots.Element 0); stamp = 1 }) ∷ []

abbrev first : List Reached
first = (record { strength = strengths.Strong; support = supports.Root 0; stamp = 0 }) ∷ unreached ∷ []

-- `ok 1` and `event E fell F back B`, by the digits of the four numbers
abbrev text : (one event fell back : List ℕ) → List ℕ
text one event fell back = with_newline (codes "ok " ++ one)
    ++ (with_newline (codes "event " ++ event ++ codes " fell " ++ fell ++ codes " back " ++ back) ++ [])

-- numbers of one digit are that digit
spelled : (e f b : ℕ) → e < 10 → f < 10 → b < 10 → answered (event_line e f b ∷ []) ≡ text (49 ∷ []) ((48 + e) ∷ []) ((48 + f) ∷ []) ((48 + b) ∷ [])
spelled e f b le lf lb =
    ap (λ (one : List ℕ). text one (decimal e) (decimal f) (decimal b)) (decimal_digit 1 (lit< tt))
    ∙ ap (λ (event : List ℕ). text (49 ∷ []) event (decimal f) (decimal b)) (decimal_digit e le)
    ∙ ap (λ (fell : List ℕ). text (49 ∷ []) ((48 + e) ∷ []) fell (decimal b)) (decimal_digit f lf)
    ∙ ap (λ (back : List ℕ). text (49 ∷ []) ((48 + e) ∷ []) ((48 + f) ∷ []) back) (decimal_digit b lb)

-- `m` events of the log are a lawful log with the same events of an analyst
later : (who n m : ℕ) (more : List Event) → session_examples.first_cuts m ≡ session_examples.first_cuts n ++ more
    → own who (session_examples.first_cuts m) ≡ own who (session_examples.first_cuts n) → IsLawful (session_examples.first_cuts m)
    → IsLater who (session_examples.first_cuts n) (session_examples.first_cuts m)
later who n m more begins same is = record { more = more; begins = begins; same_own = same; lawful = is }

refreshed : (who n m : ℕ) → IsLater who (session_examples.first_cuts n) (session_examples.first_cuts m)
    → IsRefreshed who (at_log (beginning false [] []) (session_examples.first_cuts n)) (at_log (beginning false [] []) (session_examples.first_cuts m))
refreshed who n m is = record { later = is; same = refl }

-- nothing came meanwhile
none : (who n : ℕ) → session_examples.first_cuts n ≡ session_examples.first_cuts n ++ [] → IsLawful (session_examples.first_cuts n)
    → IsLater who (session_examples.first_cuts n) (session_examples.first_cuts n)
none who n begins is = later who n n [] begins refl is

lawful_0 : IsLawful (session_examples.first_cuts 0)
lawful_0 = lawful (session_examples.first_cuts 0) refl

lawful_1 : IsLawful (session_examples.first_cuts 1)
lawful_1 = lawful (session_examples.first_cuts 1) refl

lawful_2 : IsLawful (session_examples.first_cuts 2)
lawful_2 = lawful (session_examples.first_cuts 2) refl

lawful_3 : IsLawful (session_examples.first_cuts 3)
lawful_3 = lawful (session_examples.first_cuts 3) refl

abbrev cut_0 : Event
cut_0 = examples.does 0 (examples.cut 0)

abbrev cut_1 : Event
cut_1 = examples.does 1 (examples.cut 0)

-- what the two cuts and their undos are answered
first_cut : RepliesDone examples.two_arrays (session_examples.first_cuts 0) (session_examples.first_cuts 1) (codes "ok 1" ++ 10 ∷ codes "event 0 fell 1 back 0"
    ++ 10 ∷ [])
first_cut = record {
  fell = 1;
  back = 0;
  fell_is = fell examples.two_arrays (session_examples.first_cuts 0) (session_examples.first_cuts 1) both first refl refl;
  back_is = fell examples.two_arrays (session_examples.first_cuts 1) (session_examples.first_cuts 0) first both refl refl;
  reply_is = sym (spelled 0 1 0 (lit< tt) (lit< tt) (lit< tt));
}

second_cut : RepliesDone examples.two_arrays (session_examples.first_cuts 1) (session_examples.first_cuts 2) (codes "ok 1" ++ 10 ∷ codes "event 1 fell 0 back 0"
    ++ 10 ∷ [])
second_cut = record {
  fell = 0;
  back = 0;
  fell_is = fell examples.two_arrays (session_examples.first_cuts 1) (session_examples.first_cuts 2) first first refl refl;
  back_is = fell examples.two_arrays (session_examples.first_cuts 2) (session_examples.first_cuts 1) first first refl refl;
  reply_is = sym (spelled 1 0 0 (lit< tt) (lit< tt) (lit< tt));
}

first_undo : RepliesDone examples.two_arrays (session_examples.first_cuts 2) (session_examples.first_cuts 3) (codes "ok 1" ++ 10 ∷ codes "event 2 fell 0 back 0"
    ++ 10 ∷ [])
first_undo = record {
  fell = 0;
  back = 0;
  fell_is = fell examples.two_arrays (session_examples.first_cuts 2) (session_examples.first_cuts 3) first first refl refl;
  back_is = fell examples.two_arrays (session_examples.first_cuts 3) (session_examples.first_cuts 2) first first refl refl;
  reply_is = sym (spelled 2 0 0 (lit< tt) (lit< tt) (lit< tt));
}

second_undo : RepliesDone examples.two_arrays (session_examples.first_cuts 3) (session_examples.first_cuts 4)
    (codes "ok 1" ++ 10 ∷ codes "event 3 fell 0 back 1" ++ 10 ∷ [])
second_undo = record {
  fell = 0;
  back = 1;
  fell_is = fell examples.two_arrays (session_examples.first_cuts 3) (session_examples.first_cuts 4) first both refl refl;
  back_is = fell examples.two_arrays (session_examples.first_cuts 4) (session_examples.first_cuts 3) both first refl refl;
  reply_is = sym (spelled 3 0 1 (lit< tt) (lit< tt) (lit< tt));
}

pub returns-clause-first_analyst : goal.returns-clause-first_analyst
returns-clause-first_analyst c = (
  refreshed 0 0 0 (none 0 0 refl lawful_0),
  none 0 0 refl lawful_0,
  sessions.accepted (commands.Edit (examples.cut 0)) (whats.Do (examples.cut 0)) refl refl refl first_cut refl,
  (
    refreshed 0 1 2 (later 0 1 2 (cut_1 ∷ []) refl refl lawful_2),
    none 0 2 refl lawful_2,
    sessions.rejected (commands.Undo (Some 1)) (whats.Undo 1) (refusals.Log faults.NotYours) refl refl refl refl refl,
    (
      refreshed 0 2 2 (none 0 2 refl lawful_2),
      none 0 2 refl lawful_2,
      sessions.accepted (commands.Undo (Some 0)) (whats.Undo 0) refl refl refl first_undo refl,
      tt,
    ),
  ),
)

pub returns-clause-second_analyst : goal.returns-clause-second_analyst
returns-clause-second_analyst c = (
  refreshed 1 0 0 (none 1 0 refl lawful_0),
  later 1 0 1 (cut_0 ∷ []) refl refl lawful_1,
  sessions.accepted (commands.Edit (examples.cut 0)) (whats.Do (examples.cut 0)) refl refl refl second_cut refl,
  (
    refreshed 1 2 3 (later 1 2 3 (examples.undoes 0 0 ∷ []) refl refl lawful_3),
    none 1 3 refl lawful_3,
    sessions.accepted (commands.Undo (Some 1)) (whats.Undo 1) refl refl refl second_undo refl,
    tt,
  ),
)

pub returns-clause-out_of_memory : goal.returns-clause-out_of_memory
returns-clause-out_of_memory c = (
  refreshed 0 0 0 (none 0 0 refl lawful_0),
  none 0 0 refl lawful_0,
  sessions.unserved refl (inl refl) refl refl,
  tt,
)

pub returns-clause-behind : goal.returns-clause-behind
returns-clause-behind c = (
  refreshed 0 0 0 (none 0 0 refl lawful_0),
  none 0 0 refl lawful_0,
  sessions.unfinished (commands.Edit (examples.cut 0)) (whats.Do (examples.cut 0)) refl refl refl
      (sym (ap (λ (digits : List ℕ). with_newline (codes "no Accepted " ++ digits)) (decimal_digit 0 (lit< tt)))) refl,
  (
    refreshed 0 1 1 (none 0 1 refl lawful_1),
    none 0 1 refl lawful_1,
    sessions.unserved refl (inr (inl refl)) refl refl,
    (
      refreshed 0 1 1 (none 0 1 refl lawful_1),
      none 0 1 refl lawful_1,
      sessions.answered (sym (ap (λ (digits : List ℕ). with_newline (codes "ok " ++ digits) ++ []) (decimal_digit 0 (lit< tt)))) refl refl,
      tt,
    ),
  ),
)

-- the cut of a private part's home, and its undo
lawful_cut : (n : ℕ) → is_lawful (take n examples.cut_and_undo) ≡ true → IsLater 0 (take n examples.cut_and_undo) (take n examples.cut_and_undo)
lawful_cut n is = record {
  more = [];
  begins = sym (append-nil (take n examples.cut_and_undo));
  same_own = refl;
  lawful =
      lawful (take n examples.cut_and_undo) is;
}

cut_done : RepliesDone examples.two_arrays [] (take 1 examples.cut_and_undo) (codes "ok 1" ++ 10 ∷ codes "event 0 fell 1 back 0" ++ 10 ∷ [])
cut_done = first_cut

undo_done : RepliesDone examples.two_arrays (take 1 examples.cut_and_undo) examples.cut_and_undo (codes "ok 1" ++ 10 ∷ codes "event 1 fell 0 back 1" ++ 10 ∷ [])
undo_done = record {
  fell = 0;
  back = 1;
  fell_is = fell examples.two_arrays (take 1 examples.cut_and_undo) examples.cut_and_undo first both refl refl;
  back_is = fell examples.two_arrays examples.cut_and_undo (take 1 examples.cut_and_undo) both first refl refl;
  reply_is = sym (spelled 1 0 1 (lit< tt) (lit< tt) (lit< tt));
}

-- `ok 1`, a word and the number 1
numbered : (word : List ℕ) → answered ((word ++ decimal 1) ∷ []) ≡ with_newline (codes "ok 1") ++ (with_newline (word ++ 49 ∷ []) ++ [])
numbered word =
    ap (λ (one : List ℕ). with_newline (codes "ok " ++ one) ++ (with_newline (word ++ decimal 1) ++ [])) (decimal_digit 1 (lit< tt))
    ∙ ap (λ (one : List ℕ). with_newline (codes "ok 1") ++ (with_newline (word ++ one) ++ [])) (decimal_digit 1 (lit< tt))

-- nothing came to what is remembered
kept : (memory : Memory) → IsLater 0 memory.log memory.log → IsRefreshed 0 memory memory
kept memory is = record { later = is; same = refl }

pub returns-clause-private_part : goal.returns-clause-private_part
returns-clause-private_part c =
    let none_0 = lawful_cut 0 refl in
    let none_1 = lawful_cut 1 refl in
    let none_2 = lawful_cut 2 refl in (
      kept (session_examples.at_cut 0) none_0,
      none_0,
      sessions.accepted (commands.Edit (examples.cut 0)) (whats.Do (examples.cut 0)) refl refl refl cut_done refl,
      (
        kept (session_examples.at_cut 1) none_1,
        none_1,
        sessions.gone_private refl refl (sym (numbered (codes "private "))) refl refl,
        (
          kept (session_examples.in_private 1) none_1,
          none_1,
          sessions.answered refl refl refl,
          (
            kept (session_examples.in_private 1) none_1,
            none_1,
            sessions.accepted (commands.Undo None) (whats.Undo 0) refl refl refl undo_done refl,
            (
              kept (session_examples.in_private 2) none_2,
              none_2,
              sessions.gone_back (take 1 examples.cut_and_undo) refl refl (sym (numbered (codes "back "))) refl refl,
              (kept (session_examples.at_cut 1) none_1, none_1, sessions.answered refl refl refl, tt),
            ),
          ),
        ),
      ),
    )

pub returns-clause-private_part_alone : goal.returns-clause-private_part_alone
returns-clause-private_part_alone c = (λ _. (refl, refl), (λ _. (refl, refl), (λ p. absurd cc, (λ p. absurd cc, (λ p. absurd cc, (λ _. (refl, refl), tt))))))
