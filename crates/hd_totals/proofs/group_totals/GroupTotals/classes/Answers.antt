use Rattle.std.proofs.lemmas.List.Sorted.{IsNonDecreasingBy-from_sort_by_key}
use Rattle.std.proofs.Common.{rules}
use Rattle.hd_totals.specs.Rows.{row_key}
use Rattle.hd_totals.proofs.ClassLemmas.{rows-of, member-rows}
use Rattle.hd_totals.proofs.group_totals.GroupTotals.classes.Goals as goal

pub returns-clause-rows : goal.returns-clause-rows
returns-clause-rows c =
    let rows = c.in_ok-rows.rows.items in
    let sorted = c.sort_unstable_by_key.new.self.items in
    rows-of c.args.self.now c.args.strength c.in_ok-rows.ensures.whole rows sorted c.in_ok-rows.ensures.rows c.sort_unstable_by_key.ensures.permutation
    (IsNonDecreasingBy-from_sort_by_key row_key sorted c.sort_unstable_by_key.ensures.sorted (λ a r q k. search rules))

pub returns-clause-members : goal.returns-clause-members
returns-clause-members c =
    let rows = c.in_ok-rows.rows.items in
    let sorted = c.sort_unstable_by_key.new.self.items in
    member-rows c.args.self.now c.args.strength sorted
    (rows-of c.args.self.now c.args.strength c.in_ok-rows.ensures.whole rows sorted c.in_ok-rows.ensures.rows c.sort_unstable_by_key.ensures.permutation
    (IsNonDecreasingBy-from_sort_by_key row_key sorted c.sort_unstable_by_key.ensures.sorted (λ a r q k. search rules)))
