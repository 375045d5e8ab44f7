use Rattle.std.proofs.Common.{ℕ, cond, nat_eq}
use Rattle.std.proofs.lemmas.List.Sorted.{IsNonDecreasingBy-from_sort, sum_by-IsPermutation}
use Rattle.hd_strength.proofs.multiset.Multiset.of.Goals as goal

pub invariant_of-result : goal.invariant_of-result
invariant_of-result c = IsNonDecreasingBy-from_sort (λ (n : ℕ). n) c.sort_unstable.new.self.items c.sort_unstable.ensures.sorted

pub returns : goal.returns
returns c n = sum_by-IsPermutation (λ (m : ℕ). cond (nat_eq n m) 1 0) c.args.numbers.items c.sort_unstable.new.self.items c.sort_unstable.ensures.permutation
