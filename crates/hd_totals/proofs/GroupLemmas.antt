-- Groups, their keys, and the test whether two are one.
use Rattle.std.proofs.Common.{◌≡◌, ◌≢◌, ◌∙◌, ℕ, ◌<◌, List, length, map, get_or, true, false, eqb-true, eq-eqb, refl, sym, ap, subst, arith, true≢false}
use Rattle.std.specs.Prelude.{All, Contains}
use Rattle.std.proofs.lemmas.List.{get_or-map, get_or_default, length-map}
use Rattle.hd_terms.specs.declared.Group.{Group}
use Rattle.hd_terms.specs.declared.Group.TheVariants as groups
use Rattle.hd_terms.specs.Listed.{group_key}
use Rattle.hd_totals.specs.Members.{same_group, InRange}
use Rattle.hd_totals.proofs.SumLemmas.{not-true}

-- groups of one key are one
pub one-key : (a b : Group) → InRange a → InRange b → group_key a ≡ group_key b → a ≡ b
one-key (groups.Class x) (groups.Class y) h k e = ap groups.Class e
one-key (groups.Class x) (groups.Prim y) h k e = absurd (omega arith)
one-key (groups.Class x) groups.Classes h k e = absurd (omega arith)
one-key (groups.Prim x) (groups.Class y) h k e = absurd (omega arith)
one-key (groups.Prim x) (groups.Prim y) h k e = let same : x ≡ y = omega arith in ap groups.Prim same
one-key (groups.Prim x) groups.Classes h k e = absurd (omega arith)
one-key groups.Classes (groups.Class y) h k e = absurd (omega arith)
one-key groups.Classes (groups.Prim y) h k e = absurd (omega arith)
one-key groups.Classes groups.Classes h k e = refl

-- groups that are one are equal
pub one-group : (a b : Group) → same_group a b ≡ true → a ≡ b
one-group (groups.Class x) (groups.Class y) e = ap groups.Class (eqb-true x y e)
one-group (groups.Class x) (groups.Prim y) e = absurd cc
one-group (groups.Class x) groups.Classes e = absurd cc
one-group (groups.Prim x) (groups.Class y) e = absurd cc
one-group (groups.Prim x) (groups.Prim y) e = ap groups.Prim (eqb-true x y e)
one-group (groups.Prim x) groups.Classes e = absurd cc
one-group groups.Classes (groups.Class y) e = absurd cc
one-group groups.Classes (groups.Prim y) e = absurd cc
one-group groups.Classes groups.Classes e = refl

pub itself : (a : Group) → same_group a a ≡ true
itself (groups.Class x) = eq-eqb x x refl
itself (groups.Prim x) = eq-eqb x x refl
itself groups.Classes = refl

-- the test by the keys
pub other-group : (a b : Group) → group_key a ≢ group_key b → same_group a b ≡ false
other-group a b differ = not-true (same_group a b) (λ e. differ (ap group_key (one-group a b e)))

pub other-key : (a b : Group) → InRange a → InRange b → same_group a b ≡ false → group_key b ≢ group_key a
other-key a b h k other e = true≢false (sym (subst (λ (g : Group). same_group a g ≡ true) (one-key a b h k (sym e)) (itself a)) ∙ other)

-- what holds of all elements of a list holds of those of a part of it
pub all-of : {X : Type 0} (P : X → Type 0) (xs ys : List X) → All P xs → ((x : X) → Contains ys x → Contains xs x) → All P ys
all-of P xs ys h within k d lt =
    let x = get_or ys k d in
    let at = within x (k, lt, get_or_default ys k x d lt) in
    subst P at.2 (h at.0 x at.1)

-- groups whose keys are among those of others are among these
pub same-keys : (gs hs : List Group) → All InRange gs → All InRange hs → ((key : ℕ) → Contains (map group_key gs) key → Contains (map group_key hs) key)
    → (group : Group) → Contains gs group → Contains hs group
same-keys gs hs ranges others keys group (k, lt, is) =
    let key = group_key group in
    let at = keys key (k, omega (arith, lt, length-map gs group_key), get_or-map group_key gs k group key lt ∙ ap group_key is) in
    let within : at.0 < length hs = let less = at.1 in omega (arith, less, length-map hs group_key) in
    let found = get_or hs at.0 group in (
      at.0,
      within,
      one-key found group (others at.0 group within) (subst InRange is (ranges k group lt)) (sym (get_or-map group_key hs at.0 group key within)
          ∙ at.2),
    )
