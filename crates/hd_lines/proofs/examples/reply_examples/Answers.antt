-- Each example is a command over a dump, and its reply as bytes.
-- The strengths that it tells are those of settled supports.
use Rattle.std.proofs.Common.{◌≡◌, ◌∙◌, ℕ, inr, false, List, [], ◌∷◌, ◌++◌, Ok, codes, lit<, sym, ap, refl, arith}
use Rattle.std.specs.Prelude.{decimal, false, map}
use Rattle.std.specs.Fmt.{digits}
use Rattle.std.proofs.lemmas.Fmt.{decimal_digit, hex_one_digit}
use Rattle.hd_terms.specs.declared.Slot.TheVariants as slots
use Rattle.hd_terms.specs.declared.Edit.TheVariants as edits
use Rattle.hd_terms.specs.declared.Strength.TheVariants as strengths
use Rattle.hd_terms.specs.declared.Support.TheVariants as supports
use Rattle.hd_terms.specs.EditedDump.{standing}
use Rattle.hd_terms.specs.RootRows.{root_rows}
use Rattle.hd_lines.specs.Replies.{IsReply, answered, log_lines, root_line, with_newline}
use Rattle.hd_lines.specs.Sessions.{Turn, IsLater, IsRefreshed, IsSessionAlone}
use Rattle.hd_lines.specs.Memory.{beginning}
use Rattle.hd_lines.specs.Sessions as sessions
use Rattle.hd_terms.specs.Examples as examples
use Rattle.hd_terms.proofs.SettledByTest.{strengths_of}
use Rattle.hd_terms.proofs.LawfulByTest.{lawful}
use Rattle.hd_lines.proofs.examples.reply_examples.Goals as goal

-- `ok 1` and STRONG
abbrev ok_strong : List ℕ
ok_strong = codes "ok 1" ++ 10 ∷ codes "STRONG" ++ 10 ∷ []

-- `ok 0`
abbrev ok_none : List ℕ
ok_none = codes "ok 0" ++ 10 ∷ []

-- the answers with their numbers spelled
ok_strong_is : ok_strong ≡ answered (codes "STRONG" ∷ [])
ok_strong_is = sym (ap (λ (digits : List ℕ). with_newline (codes "ok " ++ digits) ++ with_newline (codes "STRONG")) (decimal_digit 1 (lit< tt)))

ok_none_is : ok_none ≡ answered []
ok_none_is = sym (ap (λ (digits : List ℕ). with_newline (codes "ok " ++ digits) ++ []) (decimal_digit 0 (lit< tt)))

-- the second object is strong
strong_reply : IsReply examples.two_arrays (beginning false [] []) (codes "strength 0x2") ok_strong
strong_reply = (
  Ok (codes "STRONG" ∷ []),
  (
    strengths.Strong,
    strengths_of (standing examples.two_arrays [])
        ((record { strength = strengths.Strong; support = supports.Root 0; stamp = 0 })
        ∷ (record { strength = strengths.Strong; support = supports.Edge 0 (slots.Element 0); stamp = 1 }) ∷ []) refl 1,
    refl,
  ),
  ok_strong_is,
)

-- a turn under the empty log that leaves it empty
abbrev turn : List ℕ → List ℕ → Turn
turn line reply = record { line = line; before = beginning false [] []; found = []; after = beginning false [] []; reply = reply }

-- nothing came to the empty log
nothing_came : IsLater 0 [] []
nothing_came = record { more = []; begins = refl; same_own = refl; lawful = lawful [] refl }

nothing_new : IsRefreshed 0 (beginning false [] []) (beginning false [] [])
nothing_new = record { later = nothing_came; same = refl }

-- a session of the one line
one_turn : IsSessionAlone examples.two_arrays false (codes "strength 0x2" ∷ []) (turn (codes "strength 0x2") ok_strong ∷ [])
one_turn = record {
  session = record { session = (nothing_new, nothing_came, sessions.answered strong_reply refl refl, tt); over = refl };
  alone = (λ _. (refl, refl), tt);
}

pub returns-clause-strength : goal.returns-clause-strength
returns-clause-strength c = strong_reply

pub returns-clause-served : goal.returns-clause-served
returns-clause-served c = (
  turn (codes "strength 0x2") ok_strong ∷ turn (codes "quit") ok_none ∷ [],
  record {
    session = record {
      session = record {
        session = (
          nothing_new,
          nothing_came,
          sessions.answered strong_reply refl refl,
          (nothing_new, nothing_came, sessions.answered ok_none_is refl refl, tt),
        );
        over = refl;
      };
      alone = (λ _. (refl, refl), (λ _. (refl, refl), tt));
    };
    written_is = refl;
  },
)

pub returns-clause-read_failed : goal.returns-clause-read_failed
returns-clause-read_failed c = (
  [],
  record {
    consumed = codes "strength 0x";
    split = refl;
    session = record { session = record { session = tt; over = refl }; alone = tt };
    no_quit = tt;
    written_is = refl;
  },
)

pub returns-clause-write_failed : goal.returns-clause-write_failed
returns-clause-write_failed c = (
  turn (codes "strength 0x2") ok_strong ∷ [],
  record {
    consumed = codes "strength 0x2";
    rest = [];
    split = refl;
    lines = codes "strength 0x2" ∷ [];
    read = inr (refl, refl);
    session = one_turn;
    whole = [];
    broken = turn (codes "strength 0x2") ok_strong ∷ [];
    turns_are = refl;
    one_at_most = omega arith;
    part = codes "ok 1" ++ 10 ∷ codes "ST";
    more = codes "RONG" ++ 10 ∷ [];
    broken_is = refl;
    written_is = refl;
  },
)

-- the replies to `events` and `roots` by the digits of their numbers
abbrev events_text : (zero one two id : List ℕ) → List ℕ
events_text zero one two id =
    with_newline (codes "ok " ++ two)
    ++ (
    with_newline (zero ++ 32 ∷ zero ++ 32 ∷ ((codes "cut " ++ (codes "0x" ++ id) ++ 32 ∷ (codes "e" ++ zero)) ++ 32 ∷ codes "undone"))
    ++ (with_newline (one ++ 32 ∷ zero ++ 32 ∷ (codes "undo " ++ zero)) ++ [])
    )

abbrev roots_text : (zero one id : List ℕ) → List ℕ
roots_text zero one id = with_newline (codes "ok " ++ one) ++ (with_newline (zero ++ 32 ∷ codes "unknown" ++ 32 ∷ (codes "0x" ++ id) ++ 32 ∷ codes "stands")
    ++ [])

-- the digits of the numbers and the ID that occur
digits_of_events : events_text (48 ∷ []) (49 ∷ []) (50 ∷ []) (49 ∷ []) ≡ events_text (decimal 0) (decimal 1) (decimal 2) (digits 16 false 1)
digits_of_events = sym (
    ap (λ (zero : List ℕ). events_text zero (decimal 1) (decimal 2) (digits 16 false 1)) (decimal_digit 0 (lit< tt))
    ∙ ap (λ (one : List ℕ). events_text (48 ∷ []) one (decimal 2) (digits 16 false 1)) (decimal_digit 1 (lit< tt))
    ∙ ap (λ (two : List ℕ). events_text (48 ∷ []) (49 ∷ []) two (digits 16 false 1)) (decimal_digit 2 (lit< tt))
    ∙ ap (λ (id : List ℕ). events_text (48 ∷ []) (49 ∷ []) (50 ∷ []) id) (hex_one_digit false 1 (lit< tt))
    )

pub returns-clause-events : goal.returns-clause-events
returns-clause-events c = (Ok (log_lines examples.cut_and_undo), refl, digits_of_events)

-- a log of one edit of a slot, by the words around the ID and the number of the slot
module _ (before slot after : List ℕ) where
  abbrev one_edit_text : (zero one id : List ℕ) → List ℕ
  one_edit_text zero one id =
      with_newline (codes "ok " ++ one)
      ++ (with_newline (zero ++ 32 ∷ zero ++ 32 ∷ ((before ++ (codes "0x" ++ id) ++ 32 ∷ (slot ++ zero)) ++ 32 ∷ after)) ++ [])

  digits_of_one_edit : one_edit_text (48 ∷ []) (49 ∷ []) (49 ∷ []) ≡ one_edit_text (decimal 0) (decimal 1) (digits 16 false 1)
  digits_of_one_edit = sym (
      ap (λ (zero : List ℕ). one_edit_text zero (decimal 1) (digits 16 false 1)) (decimal_digit 0 (lit< tt))
      ∙ ap (λ (one : List ℕ). one_edit_text (48 ∷ []) one (digits 16 false 1)) (decimal_digit 1 (lit< tt))
      ∙ ap (λ (id : List ℕ). one_edit_text (48 ∷ []) (49 ∷ []) id) (hex_one_digit false 1 (lit< tt))
      )

-- the first of these lines, and a field cut in a whole class
pub returns-clause-first_event : goal.returns-clause-first_event
returns-clause-first_event c = (Ok (log_lines examples.cut_and_undo), refl, digits_of_one_edit (codes "cut ") (codes "e") (codes "undone"))

pub returns-clause-cut_all : goal.returns-clause-cut_all
returns-clause-cut_all c =
    (Ok (log_lines (examples.does 0 (edits.CutAll 1 0) ∷ [])), refl, digits_of_one_edit (codes "cutall ") (codes "f") (codes "live"))

digits_of_roots : roots_text (48 ∷ []) (49 ∷ []) (49 ∷ []) ≡ roots_text (decimal 0) (decimal 1) (digits 16 false 1)
digits_of_roots = sym (
    ap (λ (zero : List ℕ). roots_text zero (decimal 1) (digits 16 false 1)) (decimal_digit 0 (lit< tt))
    ∙ ap (λ (one : List ℕ). roots_text (48 ∷ []) one (digits 16 false 1)) (decimal_digit 1 (lit< tt))
    ∙ ap (λ (id : List ℕ). roots_text (48 ∷ []) (49 ∷ []) id) (hex_one_digit false 1 (lit< tt))
    )

pub returns-clause-roots : goal.returns-clause-roots
returns-clause-roots c = (Ok (map (root_line examples.two_arrays false) (root_rows examples.two_arrays [])), refl, digits_of_roots)
