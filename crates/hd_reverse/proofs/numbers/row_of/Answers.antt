use Rattle.std.proofs.Common.{ltb, leb, rules}
use Rattle.std.proofs.lemmas.List.Sorted.{IsPartitionPoint-from_clause, IsPartitionedBy-leb, IsPartitionedBy-ltb}
use Rattle.hd_reverse.specs.declared.numbers.NumberOn.{NumberOn}
use Rattle.hd_reverse.proofs.NumberLemmas.{row_found}
use Rattle.hd_reverse.proofs.numbers.row_of.Goals as goal

pub returns : goal.returns
returns c =
    let pairs = c.args.pairs.now in
    let o = c.args.o in
    let start = IsPartitionPoint-from_clause (λ (n : NumberOn). ltb n.object o) pairs _ c.partition_point-start.ensures.partitioned
    (IsPartitionedBy-ltb (λ (n : NumberOn). n.object) pairs o c.requires.rise) (λ a r q k. search rules) in
    let end = IsPartitionPoint-from_clause (λ (n : NumberOn). leb n.object o) pairs _ c.partition_point-end.ensures.partitioned
    (IsPartitionedBy-leb (λ (n : NumberOn). n.object) pairs o c.requires.rise) (λ a r q k. search rules) in
    row_found pairs o c.partition_point-start.result c.partition_point-end.result c.partition_point-start.ensures.bound c.partition_point-end.ensures.bound
    start end
