-- Strings and binaries under a mask: a slot whose bit is not set has no bytes, whatever the array has there.
use Rattle.std.specs.Prelude.{◌≡◌, ◌≤◌, ℕ, ◌+◌, ◌*◌, Bool, true, List, [], ◌∷◌, ◌++◌, length, sum_by, None, if◌then◌else◌}
use Rattle.std.specs.List.{flat_map}
use Rattle.arrow_schema.specs.Column.{Kind}
use Rattle.batch_build.specs.Batch.{PlainBatch, plain_column}
use Rattle.array_build.specs.inner.Masked.{are_below}
use Rattle.dictionary_codes.specs.Masks.{mask_bits, masked, run_bits, runs_bits}
use Rattle.batch_build.specs.Nodes.{with_buffer}
use Rattle.array_build.specs.inner.Runs.{cell_sizes, kind_cells}
use Rattle.cells.specs.Cell.{Cell}
use Rattle.columns.specs.Array.{Array}
use Rattle.columns.specs.Buildable.{can_build}
use Rattle.columns.specs.Built.{contents_of, offsets_of}
use Rattle.columns.specs.CellAt.{contents_at, span_size}
use Rattle.columns.specs.Runs.{are_runs_sound, run_cells}
use Rattle.columns.specs.declared.slot_runs.SlotRun.{SlotRun}

-- what the slots from one on have, each by its bit
abbrev pub masked_spans : (width : ℕ) → Array → (from : ℕ) → List Bool → List ℕ
masked_spans width a from [] = []
masked_spans width a from (b ∷ bits) = (if b then contents_at width a from else []) ++ masked_spans width a (from + 1) bits

-- and how many bytes
abbrev pub masked_sizes : (width : ℕ) → Array → (from : ℕ) → List Bool → List ℕ
masked_sizes width a from [] = []
masked_sizes width a from (b ∷ bits) = (if b then span_size width a from else 0) ∷ masked_sizes width a (from + 1) bits

-- how much some sizes are together
abbrev pub total : List ℕ → ℕ
total sizes = sum_by (λ (n : ℕ). n) sizes

-- the cells of a run under the bits of a mask from a place on, and those of runs
abbrev pub run_under : Kind → (mask : List ℕ) → (at : ℕ) → SlotRun → List Cell
run_under kind mask at run = masked (mask_bits mask at (length (run_bits run))) (run_cells (plain_column kind None) run)

abbrev pub runs_under : Kind → (mask : List ℕ) → (at : ℕ) → List SlotRun → List Cell
runs_under kind mask at runs = masked (mask_bits mask at (length (runs_bits runs))) (kind_cells kind runs)

-- the mask has a bit for each slot, which is set at none that is null
pub record AreUnder (kind : Kind) (mask : List ℕ) (runs : List SlotRun) : Type 0 where
  pub sound : are_runs_sound (plain_column kind None) runs ≡ true
  pub long : length (runs_bits runs) ≤ 8 * length mask
  pub below : are_below (mask_bits mask 0 (length (runs_bits runs))) (runs_bits runs) ≡ true
  pub fit : can_build (plain_column kind None) (runs_under kind mask 0 runs) ≡ true

-- a batch with the offsets and the bytes of texts or binaries
abbrev pub with_contents : (width : ℕ) → PlainBatch → List Cell → PlainBatch
with_contents width p cells = with_buffer (with_buffer p (offsets_of width (cell_sizes cells))) (flat_map contents_of cells)
