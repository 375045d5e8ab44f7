-- Whether a log continues what an analyst has seen, by the events behind that.
use Rattle.std.proofs.Common.{◌≡◌, ◌∙◌, ◌↔◌, ℕ, ◌+◌, ◌-◌, Bool, true, false, List, [], ◌++◌, length, take, drop, inr, ap, refl, sym, arith, length-append}
use Rattle.std.specs.Prelude.{IsTrue, MatchBool}
use Rattle.std.proofs.lemmas.List.{append-nil, nil_from_length, length-drop, take_all}
use Rattle.hd_terms.specs.declared.Event.{Event}
use Rattle.hd_terms.specs.Desks.{Continues, Differs}
use Rattle.hd_terms.specs.Log.{own, begins_with}
use Rattle.hd_terms.proofs.Beginnings.{rest_after}
use Rattle.hd_terms.proofs.OwnEvents.{own-append}

-- an analyst's events, and those behind what was seen
own-behind : (who : ℕ) (log seen : List Event) → begins_with log seen → own who log ≡ own who seen ++ own who (drop (length seen) log)
own-behind who log seen (more, is) =
    ap (own who) is ∙ own-append who seen more ∙ ap (λ (es : List Event). own who seen ++ own who es) (sym (rest_after log seen more is))

-- none of the analyst's stands behind what was seen
none_behind : (who : ℕ) (log seen : List Event) → begins_with log seen → own who (drop (length seen) log) ≡ [] → Continues who seen log
none_behind who log seen begins none = record {
  begins = begins;
  same_own = own-behind who log seen begins ∙ (ap (λ (es : List Event). own who seen ++ es) none ∙ append-nil (own who seen));
}

-- one of the analyst's stands there
some_behind : (who : ℕ) (log seen : List Event) → begins_with log seen → (own who (drop (length seen) log) ≡ [] → ⊥) → Differs who seen log
some_behind who log seen begins some = inr (λ same.
    let all : length (own who log) ≡ length (own who seen) + length (own who (drop (length seen) log)) =
    ap length (own-behind who log seen begins) ∙ length-append (own who seen) (own who (drop (length seen) log)) in
    some (nil_from_length (own who (drop (length seen) log)) (omega (arith, all, ap length same))))

-- the events behind what was seen
abbrev behind : (log seen : List Event) → List Event
behind log seen = take (length log - length seen) (drop (length seen) log)

all-behind : (log seen : List Event) → behind log seen ≡ drop (length seen) log
all-behind log seen = take_all (length log - length seen) (drop (length seen) log) (omega (arith, length-drop (length seen) log))

-- by a test for the analyst's events behind what was seen
pub by_behind : (who : ℕ) (log seen : List Event) (test : Bool) → begins_with log seen → IsTrue test ↔ (own who (behind log seen) ≡ [])
    → MatchBool test (Continues who seen log) (Differs who seen log)
by_behind who log seen true begins tells = none_behind who log seen begins (sym (ap (own who) (all-behind log seen)) ∙ tells.0 refl)
by_behind who log seen false begins tells = some_behind who log seen begins (λ none. absurd (cc (tells.1 (ap (own who) (all-behind log seen) ∙ none))))
