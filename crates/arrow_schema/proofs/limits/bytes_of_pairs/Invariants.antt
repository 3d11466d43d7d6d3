use Rattle.std.proofs.Common.{◌≡◌, ◌+◌, ◌-◌, ◌^◌, ◌≤◌, map, drop}
use Rattle.arrow_schema.specs.View.{pair_of}
use Rattle.arrow_schema.specs.Limits.{bytes_of_pairs}
use Rattle.arrow_schema.specs.inner.SchemaTotals.{saturated}
use Rattle.arrow_schema.proofs.limits.bytes_of_pairs.Given as goal

abbrev pub invariant-loop-key : goal.invariant-loop-key
invariant-loop-key l =
    (saturated (l.total + bytes_of_pairs (map pair_of (drop l.key-index l.pairs))) ≡ saturated (bytes_of_pairs (map pair_of l.pairs))) × (l.total ≤ 2 ^ 64 - 1)
