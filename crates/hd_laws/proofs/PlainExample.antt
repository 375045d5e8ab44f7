-- A plain session over two arrays, turn by turn.
use Rattle.std.proofs.Common.{◌≡◌, ℕ, ⊎_elim, false, List, [], ◌∷◌, ◌++◌, codes, lit<, sym, ap, refl, arith}
use Rattle.std.specs.Prelude.{decimal}
use Rattle.std.proofs.lemmas.Fmt.{decimal_digit}
use Rattle.hd_terms.specs.declared.errors.LogFault.TheVariants as faults
use Rattle.hd_terms.specs.declared.errors.Refusal.TheVariants as refusals
use Rattle.hd_terms.specs.Examples as examples
use Rattle.hd_lines.specs.Memory.{beginning}
use Rattle.hd_lines.specs.Replies.{IsReply, IsUnserved, answered, log_fault_name, refusal_name, refused, with_newline}
use Rattle.hd_lines.specs.Sessions.{Turn, IsLater, IsRefreshed}
use Rattle.hd_lines.specs.Sessions as sessions
use Rattle.hd_terms.proofs.LawfulByTest.{lawful}
use Rattle.hd_laws.specs.Plain.{IsPlain, IsServedPlainly}

-- `ok 1` and STRONG; `ok 0`
abbrev pub ok_strong : List ℕ
ok_strong = codes "ok 1" ++ 10 ∷ codes "STRONG" ++ 10 ∷ []

abbrev pub ok_none : List ℕ
ok_none = codes "ok 0" ++ 10 ∷ []

-- the answer with its number spelled
ok_none_is : ok_none ≡ answered []
ok_none_is = sym (ap (λ (digits : List ℕ). with_newline (codes "ok " ++ digits) ++ []) (decimal_digit 0 (lit< tt)))

-- a turn over the empty log that changes nothing
abbrev turn : List ℕ → List ℕ → Turn
turn line reply = record { line = line; before = beginning false [] []; found = []; after = beginning false [] []; reply = reply }

-- nothing came to the empty log
nothing_came : IsLater 0 [] []
nothing_came = record { more = []; begins = refl; same_own = refl; lawful = lawful [] refl }

nothing_new : IsRefreshed 0 (beginning false [] []) (beginning false [] [])
nothing_new = record { later = nothing_came; same = refl }

abbrev first_of : List ℕ → ℕ
first_of [] = 0
first_of (x ∷ xs) = x

-- a reply that begins with an o is no refusal
no_refusal : (reply name : List ℕ) → first_of reply ≡ 111 → reply ≡ refused name → ⊥
no_refusal reply name begins is = let n : first_of reply ≡ 110 = ap first_of is in absurd (omega (arith, begins, n))

served : (reply : List ℕ) → first_of reply ≡ 111 → IsUnserved reply → ⊥
served reply begins h =
    ⊎_elim (λ is. no_refusal reply (log_fault_name faults.OutOfMemory) begins is)
    (λ more. ⊎_elim (λ is. no_refusal reply (refusal_name refusals.Behind) begins is) (λ is. no_refusal reply (refusal_name refusals.Foreign) begins is) more)
    h

strong_is_plain : IsPlain (turn (codes "strength 0x2") ok_strong)
strong_is_plain = record {
  is_open = λ h. absurd cc;
  served = served ok_strong refl;
  finished =
      λ event is. no_refusal ok_strong (codes "Accepted " ++ decimal event) refl is;
}

quit_is_plain : IsPlain (turn (codes "quit") ok_none)
quit_is_plain = record {
  is_open = λ h. absurd cc;
  served = served ok_none refl;
  finished =
      λ event is. no_refusal ok_none (codes "Accepted " ++ decimal event) refl is;
}

pub plain_session : IsReply examples.two_arrays (beginning false [] []) (codes "strength 0x2") ok_strong → (turns : List Turn)
    × IsServedPlainly examples.two_arrays false (codes "strength 0x2" ++ 10 ∷ codes "quit" ++ 10 ∷ []) (ok_strong ++ ok_none) turns
plain_session strong = (
  turn (codes "strength 0x2") ok_strong ∷ turn (codes "quit") ok_none ∷ [],
  record {
    served = record {
      session = record {
        session = record {
          session = (
            nothing_new,
            nothing_came,
            sessions.answered strong refl refl,
            (nothing_new, nothing_came, sessions.answered ok_none_is refl refl, tt),
          );
          over = refl;
        };
        alone = (λ _. (refl, refl), (λ _. (refl, refl), tt));
      };
      written_is = refl;
    };
    plain = (strong_is_plain, (quit_is_plain, tt));
  },
)
