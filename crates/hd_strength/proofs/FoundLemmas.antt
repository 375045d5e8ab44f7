use Rattle.std.proofs.Common.{◌≡◌, ℕ, zero, suc, ◌≤◌, Bool, true, false, List, [], ◌∷◌, map, replicate, get_or, refl, sym, ap, arith}
use Rattle.std.proofs.lemmas.Bool.Decides.{nat_tests}
use Rattle.hd_terms.specs.declared.Strength.{Strength}
use Rattle.hd_terms.specs.declared.Strength.TheVariants as strengths
use Rattle.hd_terms.specs.Ranks.{rank}
use Rattle.hd_terms.specs.Settled.{Reached, unreached}
use Rattle.hd_strength.specs.Found.{is_found, only_strength, seen, strength_of, list_of}
use Rattle.hd_strength.proofs.Lists.{map-replicate}

-- what is found has a rank
pub found-some : (k : Reached) → is_found k ≡ true → 1 ≤ rank k.strength
found-some k h = grind (arith, nat_tests)

-- what is not found has none
pub found-none : (k : Reached) → is_found k ≡ false → rank k.strength ≡ 0
found-none k h = grind (arith, nat_tests)

-- of many alike each is
pub alike-at : {X : Type 0} (n : ℕ) (x : X) (o : ℕ) → get_or (replicate n x) o x ≡ x
alike-at zero x zero = refl
alike-at zero x (suc o) = refl
alike-at (suc n) x zero = refl
alike-at (suc n) x (suc o) = alike-at n x o

-- of objects that nothing reaches, the strengths alone say the same
pub none-seen : (n : ℕ) → map only_strength (replicate n strengths.Unreachable) ≡ replicate n unreached
none-seen n = map-replicate only_strength n strengths.Unreachable

-- the strength of each that is seen is its strength
pub strengths-seen : (b : Bool) (ks : List Reached) → map strength_of (map (seen b) ks) ≡ map strength_of ks
strengths-seen b [] = refl
strengths-seen true (k ∷ ks) = ap (λ (ss : List Strength). k.strength ∷ ss) (strengths-seen true ks)
strengths-seen false (k ∷ ks) = ap (λ (ss : List Strength). k.strength ∷ ss) (strengths-seen false ks)

-- strengths are those of what is seen by them alone
pub strengths-alone : (ss : List Strength) → map strength_of (map only_strength ss) ≡ ss
strengths-alone [] = refl
strengths-alone (s ∷ ss) = ap (λ (ss : List Strength). s ∷ ss) (strengths-alone ss)

-- strengths are those of what is seen by them
pub list-strengths : (b : Bool) (ss : List Strength) (ks : List Reached) → (b ≡ true → ss ≡ map strength_of ks) → ss ≡ map strength_of (list_of b ss ks)
list-strengths true ss ks h = h refl
list-strengths false ss ks h = sym (strengths-alone ss)

-- the strength that is seen is the strength
pub seen-strength : (b : Bool) (k : Reached) → (seen b k).strength ≡ k.strength
seen-strength true k = refl
seen-strength false k = refl
