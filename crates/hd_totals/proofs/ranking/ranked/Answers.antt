use Rattle.std.proofs.Common.{rules}
use Rattle.std.specs.Prelude.{nat_eq, map}
use Rattle.std.proofs.lemmas.List.Sorted.{IsPermutation-map, answers_always}
use Rattle.std.proofs.lemmas.Map.Keys.{IsDistinct-IsPermutation}
use Rattle.hd_terms.specs.declared.ClassRow.{ClassRow}
use Rattle.hd_totals.specs.Rows.{row_key}
use Rattle.hd_totals.proofs.RankingLemmas.{are-ranked}
use Rattle.hd_totals.proofs.RowLemmas.{eqb-flips}
use Rattle.hd_totals.proofs.ranking.ranked.Goals as goal

pub returns-clause-ranked : goal.returns-clause-ranked
returns-clause-ranked c =
    let rows = c.args.rows.items in
    let sorted = c.sort_unstable_by_key.new.self.items in
    let distinct = IsDistinct-IsPermutation nat_eq eqb-flips (map row_key rows) (map row_key sorted)
    (IsPermutation-map row_key rows sorted c.sort_unstable_by_key.ensures.permutation) c.requires in
    are-ranked sorted distinct (c.sort_unstable_by_key.ensures.sorted (λ (row : ClassRow). (record { 0 = row.bytes }, record { 0 = row.count }, row_key row))
    (answers_always _ _ _ (λ f a r q k. search rules)))
