use Rattle.std.proofs.Common.{◌≡◌, ◌∙◌, suc, ◌<◌, ◌^◌, length, flat_map, arith, length-append, true, List, [], ◌∷◌, ◌++◌, map, slice_get, append_assoc, refl}
use Rattle.std.proofs.Common.{sym, ap}
use Rattle.std.proofs.lemmas.List.{map-append}
use Rattle.hd_terms.specs.declared.Strength.{Strength}
use Rattle.hd_terms.specs.Settled.{Reached}
use Rattle.hd_strength.specs.declared.part.Part.{Part}
use Rattle.hd_strength.specs.Found.{seen, strength_of}
use Rattle.hd_strength.specs.Parts.{AreWhole, found_in, lists_in}

-- what one more part found is put behind the rest
pub one_joined : (kept new list all : List Reached) (parts later : List Part) (p : Part) → kept ++ found_in parts ≡ all → parts ≡ p ∷ later
    → list ≡ p.found.list → new ≡ kept ++ list → new ++ found_in later ≡ all
one_joined kept new list all parts later p h next same is =
    ap (λ (ks : List Reached). ks ++ found_in later) (is ∙ ap (λ (ks : List Reached). kept ++ ks) same)
    ∙ append_assoc kept p.found.list (found_in later)
    ∙ sym (ap (λ (ps : List Part). kept ++ found_in ps) next)
    ∙ h

-- the strengths that one more part found are put behind the rest
pub one_strengths_joined : (strengths new list all : List Strength) (parts later : List Part) (p : Part) → strengths ++ map strength_of (found_in parts) ≡ all
    → parts ≡ p ∷ later → list ≡ map strength_of p.found.list → new ≡ strengths ++ list → new ++ map strength_of (found_in later) ≡ all
one_strengths_joined strengths new list all parts later p h next same is =
    ap (λ (ss : List Strength). ss ++ map strength_of (found_in later)) (is ∙ ap (λ (ss : List Strength). strengths ++ ss) same)
    ∙ append_assoc strengths (map strength_of p.found.list) (map strength_of (found_in later))
    ∙ ap (λ (ss : List Strength). strengths ++ ss) (sym (map-append strength_of p.found.list (found_in later)))
    ∙ sym (ap (λ (ps : List Part). strengths ++ map strength_of (found_in ps)) next)
    ∙ h

-- of parts that keep all, the first one does
pub first_whole : (parts later : List Part) (p : Part) → AreWhole parts → parts ≡ p ∷ later → p.found.whole ≡ true
first_whole parts later p whole next = whole 0 p (ap (λ (ps : List Part). slice_get ps 0) next)

-- and so do the others
pub later_whole : (parts later : List Part) (p : Part) → AreWhole parts → parts ≡ p ∷ later → AreWhole later
later_whole parts later p whole next = λ k q there. whole (suc k) q (ap (λ (ps : List Part). slice_get ps (suc k)) next ∙ there)

-- all is seen of a list
pub all-seen : (ks : List Reached) → map (seen true) ks ≡ ks
all-seen [] = refl
all-seen (k ∷ ks) = ap (λ (ks : List Reached). k ∷ ks) (all-seen ks)

-- the list of what one more part found is put behind the rest
pub one_listed : (lists new all : List (List Reached)) (list : List Reached) (parts later : List Part) (p : Part) → lists ++ lists_in parts ≡ all
    → parts ≡ p ∷ later → list ≡ p.found.list → new ≡ lists ++ list ∷ [] → new ++ lists_in later ≡ all
one_listed lists new all list parts later p h next same is =
    ap (λ (ls : List (List Reached)). ls ++ lists_in later) (is ∙ ap (λ (ks : List Reached). lists ++ ks ∷ []) same)
    ∙ append_assoc lists (p.found.list ∷ []) (lists_in later)
    ∙ sym (ap (λ (ps : List Part). lists ++ lists_in ps) next)
    ∙ h

-- of parts that found what there is of few objects, the first one did
pub first_few : (parts later : List Part) (p : Part) → length (found_in parts) < 2 ^ 32 → parts ≡ p ∷ later → length p.found.list < 2 ^ 32
first_few parts later p few next = omega (arith, few, ap (λ (ps : List Part). length (found_in ps)) next, length-append p.found.list (found_in later))

-- and so did the others
pub later_few : (parts later : List Part) (p : Part) → length (found_in parts) < 2 ^ 32 → parts ≡ p ∷ later → length (found_in later) < 2 ^ 32
later_few parts later p few next = omega (arith, few, ap (λ (ps : List Part). length (found_in ps)) next, length-append p.found.list (found_in later))

-- the lists of what each part found, one behind the other, are what all found
pub lists-joined : (parts : List Part) → flat_map (λ (part : List Reached). part) (lists_in parts) ≡ found_in parts
lists-joined [] = refl
lists-joined (p ∷ parts) = ap (λ (ks : List Reached). p.found.list ++ ks) (lists-joined parts)
