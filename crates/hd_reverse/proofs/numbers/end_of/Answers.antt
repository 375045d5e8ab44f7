use Rattle.std.proofs.Common.{leb, rules}
use Rattle.std.proofs.lemmas.List.Sorted.{IsPartitionPoint-from_clause, IsPartitionedBy-leb}
use Rattle.hd_reverse.specs.declared.numbers.NumberOn.{NumberOn}
use Rattle.hd_reverse.proofs.NumberLemmas.{end_found}
use Rattle.hd_reverse.proofs.numbers.end_of.Goals as goal

pub returns : goal.returns
returns c =
    let pairs = c.args.pairs.now in
    let o = c.args.o in
    end_found pairs o c.partition_point.result c.partition_point.ensures.bound
    (IsPartitionPoint-from_clause (λ (n : NumberOn). leb n.object o) pairs _ c.partition_point.ensures.partitioned
    (IsPartitionedBy-leb (λ (n : NumberOn). n.object) pairs o c.requires.rise) (λ a r q k. search rules))
