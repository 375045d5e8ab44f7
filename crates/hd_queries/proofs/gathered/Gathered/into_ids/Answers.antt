use Rattle.std.proofs.Common.{subst}
use Rattle.std.proofs.lemmas.List.Filters.{dedup_is}
use Rattle.std.proofs.lemmas.List.Kept.{Contains-dedup_nat, Contains-from_dedup}
use Rattle.std.proofs.lemmas.List.Sorted.{Contains-permutation, IsPermutation-sym}
use Rattle.std.proofs.lemmas.Map.Keys.{IsStrictlyIncreasing-dedup}
use Rattle.hd_queries.specs.Gathered.{AreGathered, HaveSameIds}
use Rattle.hd_queries.proofs.GatheredLemmas.{first-all, first-least}
use Rattle.hd_queries.proofs.gathered.Gathered.into_ids.Goals as goal

pub returns-in-All : goal.returns-in-All
returns-in-All c most all h =
    let is = dedup_is _ _ _ c.dedup.ensures.filtered in
    let moved = c.sort_unstable.ensures.permutation in
    let same : HaveSameIds c.in-All.ids.items c.dedup.new.self.items = record {
      rises = rw is (IsStrictlyIncreasing-dedup _ c.sort_unstable.ensures.sorted);
      same = λ x. (
        λ has. Contains-permutation _ _ x (IsPermutation-sym _ _ moved) (Contains-from_dedup _ _ x (rw is at has)),
        λ has. rw is (Contains-dedup_nat _ x (Contains-permutation _ _ x moved has)),
      );
    } in
    first-all most all c.in-All.ids.items c.dedup.new.self.items same (subst (AreGathered most all) c.in-All.is h)

pub returns-in_ok-ids-in-Least : goal.returns-in_ok-ids-in-Least
returns-in_ok-ids-in-Least c most all h = first-least most all c.in-Least.ids c.in_ok-ids-in-Least.ids.items c.in_ok-ids-in-Least.ensures
    (subst (AreGathered most all) c.in-Least.is h)
