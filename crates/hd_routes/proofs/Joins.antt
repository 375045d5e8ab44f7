-- A text is a front and then a back.
use Rattle.std.proofs.Common.{◌≡◌, ◌≢◌, ℕ, Bool, false, List, ◌++◌, bytes_eq, sym, ◌∙◌, ap}
use Rattle.std.proofs.lemmas.Bool.{false≢true}
use Rattle.std.proofs.lemmas.Bool.Decides.{same_from_decides, Decides-like}
use Rattle.std.proofs.lemmas.List.{append_cancel_left}
use Rattle.std.proofs.lemmas.Slice.Eq.{bytes_eq-Decides}

-- what is left behind the front is tested
pub tests_rest : (text front rest back : List ℕ) (r : Bool) → text ≡ front ++ rest → r ≡ bytes_eq rest back → r ≡ bytes_eq text (front ++ back)
tests_rest text front rest back r split tested =
    tested ∙ same_from_decides _ _ (Decides-like _ (λ e. split ∙ ap (λ xs. front ++ xs) e) (λ e. append_cancel_left front rest back (sym split ∙ e))
    (bytes_eq-Decides rest back)) (bytes_eq-Decides text (front ++ back))

-- the front isn't there
pub no_front : (text front back : List ℕ) → ((rest : List ℕ) → text ≢ front ++ rest) → false ≡ bytes_eq text (front ++ back)
no_front text front back none =
    same_from_decides _ _ (λ e. absurd (false≢true e), λ e. absurd (none back e)) (bytes_eq-Decides text (front ++ back))
