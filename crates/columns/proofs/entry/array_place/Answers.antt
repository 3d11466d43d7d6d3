use Rattle.std.proofs.Common.{leb, leb-true, arith, rules}
use Rattle.std.proofs.lemmas.Bool.{leb-false}
use Rattle.std.proofs.lemmas.List.Sorted.{IsPartitionPoint-from_clause, IsPartitionedBy-leb}
use Rattle.columns.proofs.Ends.{ends_rise, is_array_place}
use Rattle.columns.proofs.entry.array_place.Goals as goal

pub returns : goal.returns
returns c =
    let parted = IsPartitionedBy-leb (λ n. n) _ c.args.index (ends_rise _ _ c.args.known.ended) in
    let point = IsPartitionPoint-from_clause (λ n. leb n c.args.index) _ _ c.partition_point.ensures.partitioned parted (λ a r q k. search rules) in
    is_array_place c.args.known.arrays.now c.args.known.ends.now c.args.index c.partition_point.result c.args.known.ended c.partition_point.ensures.bound
    (λ k d lt. leb-true _ _ (point.0 k d (omega arith) lt)) (λ k d le lt. leb-false _ _ (point.1 k d le lt))
