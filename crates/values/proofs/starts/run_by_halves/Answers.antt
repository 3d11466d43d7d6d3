use Rattle.std.proofs.Common.{ℕ, leb, rules, sym, subst}
use Rattle.std.specs.List.Sorted.{IsPartitionedBy}
use Rattle.std.proofs.lemmas.List.Sorted.{IsPartitionPoint-from_clause}
use Rattle.values.proofs.StartLemmas.{starts_parted, by_halves}
use Rattle.values.proofs.starts.run_by_halves.Goals as goal

pub returns : goal.returns
returns c = λ lengths are all.
    let parted = subst (λ xs. IsPartitionedBy (λ (y : ℕ). leb y c.args.place) xs) (sym are) (starts_parted lengths c.args.place) in
    let at = IsPartitionPoint-from_clause (λ (y : ℕ). leb y c.args.place) c.args.starts.now c.partition_point.result c.partition_point.ensures.partitioned parted (λ a r f k. search rules) in
    let found = by_halves lengths c.args.starts.now c.args.place c.partition_point.result are all c.partition_point.ensures.bound at.0 at.1 in
    rw c.saturating_sub.ensures found
