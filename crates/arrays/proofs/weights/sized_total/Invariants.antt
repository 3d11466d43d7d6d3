use Rattle.std.proofs.Common.{◌≡◌, ◌+◌, ◌-◌, ◌*◌, ◌≤◌}
use Rattle.arrow_schema.specs.Column.{Kind}
use Rattle.cells.specs.Cell.{null}
use Rattle.cells.specs.Weight.{capped_weight, kind_weight}
use Rattle.columns.specs.Array.{dictionary_in}
use Rattle.columns.specs.View.{view_array}
use Rattle.arrays.specs.inner.EntryWeights.{weights_in}
use Rattle.arrays.specs.inner.Weights.{AreEntryWeights, coded_weight}
use Rattle.arrays.proofs.weights.sized_total.Given as goal

-- the weights so far, none of which is more than is reported, and those of the slots that are left
abbrev pub invariant-loop-i : goal.invariant-loop-i
invariant-loop-i g l =
    (kind : Kind) → AreEntryWeights kind (dictionary_in (view_array l.slots.view)) (weights_in l.known) → l.of_null ≡ capped_weight (kind_weight kind null)
    → (l.total + (l.from + l.count - l.i) * 268435457 ≤ l.count * 268435457)
    × (capped_weight (l.total + coded_weight l.slots.spec l.slots.view kind l.i (l.from + l.count - l.i)) ≡ capped_weight (coded_weight l.slots.spec l.slots.view kind l.from l.count))
