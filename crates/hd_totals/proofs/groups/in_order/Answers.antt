-- Keys stand for groups, one for each: sorting moves them and `dedup` leaves each once, so what is left has the same keys.
-- A list of numbers in order without repeats rises, and so do the keys of its groups.
use Rattle.std.proofs.Common.{◌≡◌, ◌∙◌, ◌≤◌, map, sym, subst}
use Rattle.std.specs.List.Sorted.{IsStrictlyIncreasing}
use Rattle.std.proofs.lemmas.List.Filters.{dedup_is}
use Rattle.std.proofs.lemmas.List.Kept.{Contains-dedup_nat, Contains-from_dedup}
use Rattle.std.proofs.lemmas.List.Sorted.{Contains-permutation, IsPermutation-sym}
use Rattle.std.proofs.lemmas.Map.Keys.{IsStrictlyIncreasing-dedup}
use Rattle.hd_terms.specs.Listed.{group_key}
use Rattle.hd_totals.proofs.GroupLemmas.{all-of, same-keys}
use Rattle.hd_totals.proofs.groups.in_order.Goals as goal

-- the keys that are left are the keys of the groups
pub groups_of-requires : goal.groups_of-requires
groups_of-requires c =
    let moved = c.sort_unstable.ensures.permutation in
    let is = dedup_is _ _ _ c.dedup.ensures.filtered in
    rw c.as_slice.ensures.value
    (all-of (λ key. key ≤ 18446744073709551872) c.in_ok-keys.keys.items c.dedup.new.self.items c.in_ok-keys.ensures.small
    (λ key at. Contains-permutation _ _ key (IsPermutation-sym _ _ moved) (Contains-from_dedup _ _ key (rw is at at))))

pub returns-clause-in_order : goal.returns-clause-in_order
returns-clause-in_order c =
    let is = dedup_is _ _ _ c.dedup.ensures.filtered in
    let rising : IsStrictlyIncreasing c.dedup.new.self.items = rw is (IsStrictlyIncreasing-dedup _ c.sort_unstable.ensures.sorted) in
    subst IsStrictlyIncreasing (sym (c.in_ok-ordered.ensures.keys ∙ c.as_slice.ensures.value)) rising

pub returns-clause-same : goal.returns-clause-same
returns-clause-same c = λ group.
    let gs = c.args.groups.now in
    let hs = c.in_ok-ordered.ordered.items in
    let moved = c.sort_unstable.ensures.permutation in
    let is = dedup_is _ _ _ c.dedup.ensures.filtered in
    let ordered : map group_key hs ≡ c.dedup.new.self.items = c.in_ok-ordered.ensures.keys ∙ c.as_slice.ensures.value in
    let given : map group_key gs ≡ c.in_ok-keys.keys.items = sym c.in_ok-keys.ensures.keys in (
      same-keys hs gs c.in_ok-ordered.ensures.range c.in_ok-keys.ensures.range
          (λ key at. rw given (Contains-permutation _ _ key (IsPermutation-sym _ _ moved) (Contains-from_dedup _ _ key (rw is at (rw ordered at at)))))
          group,
      same-keys gs hs c.in_ok-keys.ensures.range c.in_ok-ordered.ensures.range
          (λ key at. rw (ordered, is) (Contains-dedup_nat _ key (Contains-permutation _ _ key moved (rw given at at))))
          group,
    )
