use Rattle.std.specs.Prelude.{◌^◌}
use Rattle.std.specs.Int.{bit_at}
use Rattle.std.proofs.Common.{◌≡◌, ◌≤◌, ◌<◌, ◌+◌, ℕ}
use Rattle.columns.specs.Array.{offsets_in}
use Rattle.columns.specs.CellAt.{number_at}
use Rattle.columns.specs.Offsets.{width_of}
use Rattle.columns.specs.View.{view_array}
use Rattle.arrays.specs.inner.Weights.{chosen_sizes}
use Rattle.arrays.proofs.masked.sizes_of.Given as goal

-- the sizes so far, which lie between two offsets before the bits that are left, and those of these bits
abbrev pub invariant-loop-left : goal.invariant-loop-left
invariant-loop-left l = record {
  few : l.left < 2 ^ l.count;
  fits : (at : ℕ) × ((j : ℕ) → j < at → bit_at l.left j ≡ 0)
      × (l.total + number_at (width_of l.slots.width) (offsets_in (view_array l.slots.view)) l.from ≤ number_at (width_of l.slots.width) (offsets_in (view_array l.slots.view)) (l.from + at));
  sums : l.total + chosen_sizes (width_of l.slots.width) l.left l.from (view_array l.slots.view) l.from l.count
      ≡ chosen_sizes (width_of l.slots.width) l.bits l.from (view_array l.slots.view) l.from l.count;
}

abbrev pub decreases-loop-left : goal.decreases-loop-left
decreases-loop-left l = l.left
