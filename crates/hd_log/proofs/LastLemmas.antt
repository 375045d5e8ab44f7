-- The last live event of an analyst, as events are looked at.
use Rattle.std.proofs.Common.{◌≡◌, ◌∙◌, ℕ, suc, ◌+◌, ◌<◌, cond, List, [], ◌∷◌, ◌++◌, length, take, get_or, Option, Some, None, slice_get, sym, ap, refl, arith}
use Rattle.std.specs.Prelude.{is_some}
use Rattle.std.specs.List.{filter_map, cons_option, enumerate_from, last_or}
use Rattle.std.proofs.lemmas.List.{take_more, length-take}
use Rattle.std.proofs.lemmas.List.Elements.{filter_map-append}
use Rattle.std.proofs.lemmas.Option.{get_or_from_slice_get, slice_get_within, slice_get-get_or}
use Rattle.hd_terms.specs.declared.Event.{Event}
use Rattle.hd_terms.specs.Log.{own_live}

-- the last of the first n events that are an analyst's and live
abbrev pub last_of : List Event → ℕ → ℕ → Option ℕ
last_of log who n = last_or None (filter_map (own_live log who) (enumerate_from 0 (take n log)))

-- numbered elements with one more
pub enumerate-push : {X : Type 0} (n : ℕ) (xs : List X) (x : X) → enumerate_from n (xs ++ x ∷ []) ≡ enumerate_from n xs ++ (n + length xs, x) ∷ []
enumerate-push n [] x = let same : n ≡ n + 0 = omega arith in ap (λ (m : ℕ). (m, x) ∷ []) same
enumerate-push n (y ∷ xs) x =
    let same : (n + 1) + length xs ≡ n + suc (length xs) = omega arith in
    ap (λ (ys : List _). (n, y) ∷ ys) (enumerate-push (n + 1) xs x ∙ ap (λ (m : ℕ). enumerate_from (n + 1) xs ++ (m, x) ∷ []) same)

-- one more numbered element
pub numbered_more : {X : Type 0} (xs : List X) (k : ℕ) (x : X) → slice_get xs k ≡ Some x → enumerate_from 0 (take (k + 1) xs) ≡ enumerate_from 0 (take k xs)
    ++ (k, x) ∷ []
numbered_more xs k x is =
    let lt : k < length xs = slice_get_within xs k x is in
    let more : take (k + 1) xs ≡ take k xs ++ x ∷ [] = take_more xs k x lt ∙ ap (λ (y : _). take k xs ++ y ∷ []) (get_or_from_slice_get xs k x x is) in
    let count : 0 + length (take k xs) ≡ k = omega (arith, length-take k xs) in
    ap (enumerate_from 0) more ∙ enumerate-push 0 (take k xs) x ∙ ap (λ (m : ℕ). enumerate_from 0 (take k xs) ++ (m, x) ∷ []) count

-- the last of a list with what an option has
last-option : {X : Type 0} (o : Option X) (xs : List X) (x : Option X) → last_or o (xs ++ cons_option x []) ≡ cond (is_some x) x (last_or o xs)
last-option o [] None = refl
last-option o [] (Some x) = refl
last-option o (y ∷ xs) x = last-option (Some y) xs x

-- one more event is looked at
pub one_more : (log : List Event) (who k : ℕ) (e : Event) → slice_get log k ≡ Some e → last_of log who (k + 1) ≡ cond (is_some (own_live log who (k, e)))
    (own_live log who (k, e)) (last_of log who k)
one_more log who k e is =
    ap (λ (ns : List (ℕ × Event)). last_or None (filter_map (own_live log who) ns)) (numbered_more log k e is)
    ∙ ap (last_or None) (filter_map-append (own_live log who) (enumerate_from 0 (take k log)) ((k, e) ∷ []))
    ∙ last-option None (filter_map (own_live log who) (enumerate_from 0 (take k log))) (own_live log who (k, e))

-- what holds by any event at a place holds
pub by_event : {P : Type 0} (log : List Event) (k : ℕ) → k < length log → ((e : Event) → slice_get log k ≡ Some e → P) → P
by_event [] k lt h = absurd (omega arith)
by_event (x ∷ log) k lt h = h (get_or (x ∷ log) k x) (slice_get-get_or (x ∷ log) k x lt)

-- one more event is looked at, by what it has
pub own_seen : (log : List Event) (who k own : ℕ) (r : Option ℕ) → k < length log → ((e : Event) → slice_get log k ≡ Some e → r ≡ own_live log who (k, e))
    → r ≡ Some own → Some own ≡ last_of log who (k + 1)
own_seen log who k own r lt is some =
    by_event log k lt (λ e at. sym (one_more log who k e at ∙ ap (λ (o : Option ℕ). cond (is_some o) o (last_of log who k)) (sym (is e at) ∙ some)))

pub other_seen : (log : List Event) (who k : ℕ) (last : Option ℕ) (r : Option ℕ) → k < length log
    → ((e : Event) → slice_get log k ≡ Some e → r ≡ own_live log who (k, e)) → r ≡ None → last ≡ last_of log who k → last ≡ last_of log who (k + 1)
other_seen log who k last r lt is none so_far = so_far
    ∙ by_event log k lt (λ e at. sym (one_more log who k e at ∙ ap (λ (o : Option ℕ). cond (is_some o) o (last_of log who k)) (sym (is e at) ∙ none)))
