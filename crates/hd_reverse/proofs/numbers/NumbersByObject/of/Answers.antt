use Rattle.std.proofs.Common.{rules, arith}
use Rattle.std.proofs.lemmas.List.Sorted.{IsNonDecreasingBy-from_sort_by_key, answers_always, length_permutation}
use Rattle.hd_reverse.specs.declared.numbers.NumberOn.{NumberOn}
use Rattle.hd_reverse.proofs.NumberLemmas.{same_numbers}
use Rattle.hd_reverse.proofs.numbers.NumbersByObject.of.Goals as goal

pub invariant_of-result : goal.invariant_of-result
invariant_of-result c = record {
  rise = IsNonDecreasingBy-from_sort_by_key (λ (n : NumberOn). n.object) _ c.in_ok-sort_by_key.ensures.sorted (λ a r q k. search rules);
  few = omega (arith, length_permutation c.args.pairs.items c.sort_by_key.new.self.items c.sort_by_key.ensures.permutation, c.requires);
}

pub returns : goal.returns
returns c = same_numbers c.args.pairs.items c.sort_by_key.new.self.items
    (c.sort_by_key.ensures.stable (λ (n : NumberOn). n.object) (answers_always _ _ _ (λ f a r g h. search rules)))
