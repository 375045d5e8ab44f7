-- The events of one analyst in longer and shorter logs.
use Rattle.std.proofs.Common.{◌≡◌, ◌∙◌, ◌==◌, ℕ, ◌+◌, List, [], ◌∷◌, ◌++◌, length, Bool, false, cond, ap, arith, length-append}
use Rattle.std.proofs.lemmas.List.{append-nil, nil_from_length}
use Rattle.std.proofs.lemmas.List.Elements.{filter-append}
use Rattle.hd_terms.specs.declared.Event.{Event}
use Rattle.hd_terms.specs.Log.{own, begins_with}

pub own-append : (who : ℕ) (log more : List Event) → own who (log ++ more) ≡ own who log ++ own who more
own-append who log more = filter-append (λ (e : Event). e.who == who) log more

-- an event of another analyst
pub own-other : (who : ℕ) (log : List Event) (e : Event) → (e.who == who) ≡ false → own who (log ++ e ∷ []) ≡ own who log
own-other who log e other = own-append who log (e ∷ []) ∙ (ap (λ (b : Bool). own who log ++ cond b (e ∷ []) []) other ∙ append-nil (own who log))

-- an analyst who has no event in the last part of a log has none in its beginning
pub own-between : (who : ℕ) (log middle front : List Event) → begins_with log middle → begins_with middle front → own who log ≡ own who front
    → own who middle ≡ own who front
own-between who log middle front q p same =
    let first : own who middle ≡ own who front ++ own who p.0 = ap (own who) p.1 ∙ own-append who front p.0 in
    let second : own who log ≡ own who middle ++ own who q.0 = ap (own who) q.1 ∙ own-append who middle q.0 in
    let n1 : length (own who middle) ≡ length (own who front) + length (own who p.0) = ap length first ∙ length-append (own who front) (own who p.0) in
    let n2 : length (own who log) ≡ length (own who middle) + length (own who q.0) = ap length second ∙ length-append (own who middle) (own who q.0) in
    let n3 : length (own who log) ≡ length (own who front) = ap length same in
    let none : own who p.0 ≡ [] = nil_from_length (own who p.0) (omega arith) in
    first ∙ (ap (λ w. own who front ++ w) none ∙ append-nil (own who front))
