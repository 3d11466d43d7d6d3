-- Cells under a mask: below a struct or a fixed list that is null each cell is null, whatever the array has there.
use Rattle.std.specs.Prelude.{◌≡◌, ℕ, Bool, true, false, ◌&&◌, List, [], ◌∷◌, replicate, None}
use Rattle.std.specs.List.{flat_map}
use Rattle.arrow_schema.specs.Column.{Columns, Kind}
use Rattle.cells.specs.Cell.{Cell}
use Rattle.columns.specs.declared.slot_runs.SlotRun.{SlotRun}
use Rattle.batch_build.specs.Batch.{batch_in, built_at, plain_column, with_arrays}
use Rattle.batch_build.specs.declared.batch.BuiltBatch.{BuiltBatch}
use Rattle.array_build.specs.inner.RunParts.{parts_behind}
use Rattle.dictionary_codes.specs.Masks.{runs_bits, masked_by, joined, slots_mask, masked_cells}

-- each bit, size times
abbrev pub repeated : (size : ℕ) → List Bool → List Bool
repeated size bits = flat_map (λ b. replicate size b) bits

-- each bit that is set is also set among the others
abbrev pub are_below : List Bool → List Bool → Bool
are_below [] others = true
are_below (b ∷ bits) [] = false
are_below (true ∷ bits) (o ∷ others) = o && are_below bits others
are_below (false ∷ bits) (o ∷ others) = are_below bits others

-- ---- masks that are written as a validity bitmap: all bits are set if it has no byte

-- and as those of a type
abbrev pub masked_kind : Kind → (mask : List ℕ) → List SlotRun → List Cell
masked_kind kind mask runs = masked_cells (plain_column kind None) mask runs

-- the rows of the parts that structs have under it: those of a null have no part
abbrev pub masked_parts : Columns → (mask : List ℕ) → List SlotRun → List (List Cell)
masked_parts columns mask runs = masked_by [] (slots_mask mask runs) (flat_map (parts_behind 0 columns) runs)

-- which slots of runs are valid under it
abbrev pub masked_slots : (mask : List ℕ) → List SlotRun → List Bool
masked_slots mask runs = joined (slots_mask mask runs) (runs_bits runs)

-- a batch with the array of such cells, and all below it, after what it had
abbrev pub AddsMasked : Kind → List SlotRun → (mask : List ℕ) → (old new : BuiltBatch) → Type 0
AddsMasked kind runs mask old new = batch_in new ≡ with_arrays (batch_in old) (built_at (plain_column kind None) (masked_kind kind mask runs))
