use Rattle.std.proofs.Common.{ltb, rules}
use Rattle.std.proofs.lemmas.List.Sorted.{IsPartitionPoint-from_clause, IsPartitionedBy-ltb}
use Rattle.hd_strength.proofs.MultisetLemmas.{place_found}
use Rattle.hd_strength.proofs.multiset.place_of.Goals as goal

pub returns : goal.returns
returns c =
    let numbers = c.args.numbers.now in
    let number = c.args.number in
    place_found numbers number c.partition_point.result c.partition_point.ensures.bound
    (IsPartitionPoint-from_clause (λ n. ltb n number) numbers _ c.partition_point.ensures.partitioned (IsPartitionedBy-ltb (λ n. n) numbers number c.requires)
    (λ a r q k. search rules))
