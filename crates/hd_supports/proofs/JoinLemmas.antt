-- Lists of parts that are put one behind the other as their answers come.
use Rattle.std.proofs.Common.{◌≡◌, ◌∙◌, ℕ, suc, ◌<◌, ◌≤◌, ◌+◌, List, [], ◌∷◌, ◌++◌, length, get_or, flat_map, Result, Ok, IfOk, sym, ap, subst, arith}
use Rattle.std.proofs.Common.{append_assoc, length-append}
use Rattle.std.proofs.lemmas.List.{append-nil}

-- the lists of the parts, one behind the other
abbrev pub in_order : {X : Type 0} → List (List X) → List X
in_order parts = flat_map (λ (part : List _). part) parts

module _ {X E : Type 0} where
  -- where memory was there for a part, the answer is its list
  abbrev pub AreOf : List (List X) → List (Result (List X) E) → Type 0
  AreOf [] [] = Unit {0}
  AreOf [] (r ∷ rs) = ⊥
  AreOf (p ∷ ps) [] = ⊥
  AreOf (p ∷ ps) (r ∷ rs) = IfOk r (λ (s : List X). s ≡ p) × AreOf ps rs

  -- the answers by their numbers
  pub of_by_number : (d : Result (List X) E) (ps : List (List X)) (rs : List (Result (List X) E)) → length rs ≡ length ps
      → ((i : ℕ) → i < length ps → IfOk (get_or rs i d) (λ (s : List X). s ≡ get_or ps i [])) → AreOf ps rs
  of_by_number d [] [] len each = tt
  of_by_number d [] (r ∷ rs) len each = absurd (omega arith)
  of_by_number d (p ∷ ps) [] len each = absurd (omega arith)
  of_by_number d (p ∷ ps) (r ∷ rs) len each = (each 0 (omega arith), of_by_number d ps rs (omega arith) (λ i lt. each (suc i) (omega arith)))

  -- the parts so far are joined, and the answers of the others are left
  pub record AreJoined (parts : List (List X)) (rest : List (Result (List X) E)) (all : List X) : Type 0 where
    pub left : List (List X)
    pub answers : AreOf left rest
    pub joined : all ++ in_order left ≡ in_order parts

  -- none yet
  pub none_joined : (parts : List (List X)) (rs : List (Result (List X) E)) (all : List X) → AreOf parts rs → all ≡ [] → AreJoined parts rs all
  none_joined parts rs all of none = record { left = parts; answers = of; joined = ap (λ (xs : List X). xs ++ in_order parts) none }

  -- one more has room
  next_room : (parts left : List (List X)) (rs : List (Result (List X) E)) (all list : List X) → AreOf left (Ok list ∷ rs) → all
      ++ in_order left ≡ in_order parts → length all + length list ≤ length (in_order parts)
  next_room parts [] rs all list of held = absurd of
  next_room parts (p ∷ ps) rs all list of held =
      omega (arith, ap length held, length-append all (p ++ in_order ps), length-append p (in_order ps), ap length of.0)

  pub room_joined : (parts : List (List X)) (rest rs : List (Result (List X) E)) (all list : List X) → AreJoined parts rest all → rest ≡ Ok list ∷ rs
      → length all + length list ≤ length (in_order parts)
  room_joined parts rest rs all list h next = next_room parts h.left rs all list (subst (AreOf h.left) next h.answers) h.joined

  -- one more is put behind
  one_more : (parts left : List (List X)) (rs : List (Result (List X) E)) (all list new : List X) → AreOf left (Ok list ∷ rs) → all
      ++ in_order left ≡ in_order parts → new ≡ all ++ list → AreJoined parts rs new
  one_more parts [] rs all list new of held is = absurd of
  one_more parts (p ∷ ps) rs all list new of held is = record {
    left = ps;
    answers = of.1;
    joined =
        ap (λ (xs : List X). xs ++ in_order ps) (is ∙ ap (λ (xs : List X). all ++ xs) of.0)
        ∙ append_assoc all p (in_order ps)
        ∙ held;
  }

  pub next_joined : (parts : List (List X)) (rest rs : List (Result (List X) E)) (all list new : List X) → AreJoined parts rest all → rest ≡ Ok list ∷ rs
      → new ≡ all ++ list → AreJoined parts rs new
  next_joined parts rest rs all list new h next is = one_more parts h.left rs all list new (subst (AreOf h.left) next h.answers) h.joined is

  -- none is left
  none_left : (parts left : List (List X)) (rest : List (Result (List X) E)) (all : List X) → AreOf left rest → length rest ≡ 0 → all
      ++ in_order left ≡ in_order parts → all ≡ in_order parts
  none_left parts [] rest all of none held = sym (append-nil all) ∙ held
  none_left parts (p ∷ ps) [] all of none held = absurd of
  none_left parts (p ∷ ps) (r ∷ rs) all of none held = absurd (omega (arith, none))

  pub all_joined : (parts : List (List X)) (rest : List (Result (List X) E)) (all : List X) → AreJoined parts rest all → length rest ≡ 0 → all ≡ in_order parts
  all_joined parts rest all h none = none_left parts h.left rest all h.answers none h.joined
