use Rattle.std.specs.List.{list_any, range_with_len}
use Rattle.std.proofs.Common.{◌≡◌, ◌+◌, ◌-◌, ◌≤◌, List, length, true}
use Rattle.arrow_schema.specs.View.{index_of}
use Rattle.cells.specs.Cell.{Cell}
use Rattle.columns.specs.CellAt.{index_at}
use Rattle.columns.specs.View.{view_array}
use Rattle.columns.specs.Visible.{is_past}
use Rattle.arrays.proofs.visible.indices.are_below.Given as goal

-- while all so far are below, one that is past is found among those that are left, or nowhere
abbrev pub invariant-loop-i : goal.invariant-loop-i
invariant-loop-i g l = l.below ≡ true → (cells : List Cell) → l.limit ≤ length cells
    → list_any (λ i. is_past (index_at (index_of l.slots.spec) (view_array l.slots.view) i) cells) (range_with_len l.i (l.from + l.count - l.i))
    ≡ list_any (λ i. is_past (index_at (index_of l.slots.spec) (view_array l.slots.view) i) cells) (range_with_len l.from l.count)
