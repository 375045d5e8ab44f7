-- The desks of a board that is opened.
use Rattle.std.proofs.Common.{◌≡◌, ◌∙◌, ℕ, ◌+◌, [], ◌∷◌, ◌++◌, suc, map, ap, arith}
use Rattle.std.proofs.lemmas.List.{map-append}
use Rattle.hd_terms.specs.Dump.{Dump}
use Rattle.hd_terms.specs.Schedule.{numbers_from}
use Rattle.hd_board.specs.Opening.{opened_desk, opened_desks}
use Rattle.hd_board.proofs.Numbers.{one_more}

-- one more desk
pub one_more_desk : (dump : Dump) (who : ℕ) → opened_desks dump (who + 1) ≡ opened_desks dump who ++ opened_desk dump who ∷ []
one_more_desk dump who =
    let next : who + 1 ≡ suc who = omega arith in
    let last : 0 + who ≡ who = omega arith in
    ap (opened_desks dump) next
    ∙ (ap (map (opened_desk dump)) (one_more 0 who ∙ ap (λ (n : ℕ). numbers_from 0 who ++ n ∷ []) last)
    ∙ map-append (opened_desk dump) (numbers_from 0 who) (who ∷ []))
