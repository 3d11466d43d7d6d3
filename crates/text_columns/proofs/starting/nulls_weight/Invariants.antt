use Rattle.std.specs.Prelude.{sum_by}
use Rattle.std.proofs.Common.{◌≡◌, ◌+◌, take}
use Rattle.text_columns.specs.inner.Kept.{null_weight_of}
use Rattle.text_columns.proofs.starting.nulls_weight.Given as goal

abbrev pub invariant-loop-builder : goal.invariant-loop-builder
invariant-loop-builder l = l.weight ≡ 1 + sum_by null_weight_of (take l.builder-index l.builders)
