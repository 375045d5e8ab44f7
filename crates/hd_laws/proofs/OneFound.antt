-- The answer to `find` is one.
use Rattle.std.proofs.Common.{◌≡◌, ◌∙◌, ℕ, List, [], ◌∷◌, ◌++◌, Ok, refl, sym, ap}
use Rattle.std.specs.Prelude.{map, decimal}
use Rattle.std.specs.List.{flat_map}
use Rattle.hd_terms.specs.declared.Event.{Event}
use Rattle.hd_terms.specs.declared.Group.{Group}
use Rattle.hd_terms.specs.declared.Strength.{Strength}
use Rattle.hd_terms.specs.Dump.{Dump}
use Rattle.hd_terms.specs.Listed.{AreNamedGroups, group_key}
use Rattle.hd_terms.specs.Totals.{AreGroupCounts, IsMember}
use Rattle.hd_lines.specs.Names.{group_text, group_name}
use Rattle.hd_lines.specs.Replies.{Answer, IsFound, falling_strengths, found_line}
use Rattle.hd_laws.proofs.OneList.{one_list, rises_keys}
use Rattle.hd_laws.proofs.OneStat.{same_count}

-- what is made of the same by functions that agree
same_map : {X Y : Type 0} (f g : X → Y) (xs : List X) → ((x : X) → f x ≡ g x) → map f xs ≡ map g xs
same_map f g [] same = refl
same_map f g (x ∷ xs) same = ap (λ y. y ∷ map f xs) (same x) ∙ ap (λ ys. g x ∷ ys) (same_map f g xs same)

same_flat_map : {X Y : Type 0} (f g : X → List Y) (xs : List X) → ((x : X) → f x ≡ g x) → flat_map f xs ≡ flat_map g xs
same_flat_map f g [] same = refl
same_flat_map f g (x ∷ xs) same = ap (λ ys. ys ++ flat_map f xs) (same x) ∙ ap (λ ys. g x ++ ys) (same_flat_map f g xs same)

one_groups : (dump : Dump) (IsMeant : Group → Type 0) (gs hs : List Group) → AreNamedGroups dump IsMeant gs → AreNamedGroups dump IsMeant hs → gs ≡ hs
one_groups dump IsMeant gs hs a b =
    one_list group_key gs hs (rises_keys group_key gs a.in_order) (rises_keys group_key hs b.in_order)
    (λ g at. (b.are g).1 ((a.are g).0 at))
    (λ g at. (a.are g).1 ((b.are g).0 at))

-- the line of a group goes by the counts under the log
same_line : (dump : Dump) (log : List Event) (count other : Group → Strength → ℕ) → AreGroupCounts dump log count → AreGroupCounts dump log other
    → (group : Group) → found_line dump count group ≡ found_line dump other group
same_line dump log count other a b group =
    let counts : (s : Strength) → count group s ≡ other group s =
    λ s. same_count dump (IsMember dump log group s) (count group s) (a group s).0 (other group s) (b group s).0 (a group s).1 (b group s).1 in
    ap (λ (columns : List ℕ). group_text group ++ columns ++ 32 ∷ group_name dump group)
    (same_flat_map (λ (s : Strength). 32 ∷ decimal (count group s)) (λ (s : Strength). 32 ∷ decimal (other group s)) falling_strengths
    (λ s. ap (λ (n : ℕ). 32 ∷ decimal n) (counts s)))

pub one_found : (dump : Dump) (log : List Event) (text : List ℕ) (answer other : Answer) → IsFound dump log text answer → IsFound dump log text other
    → answer ≡ other
one_found dump log text answer other a b =
    a.lines
    ∙ ap (λ (ls : List (List ℕ)). Ok ls)
    (same_map (found_line dump a.count) (found_line dump b.count) a.groups (same_line dump log a.count b.count a.counts b.counts))
    ∙ ap (λ (gs : List Group). Ok (map (found_line dump b.count) gs)) (one_groups dump _ a.groups b.groups a.are b.are)
    ∙ sym b.lines
