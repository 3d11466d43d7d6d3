-- The array of runs of a column with a dictionary, of which the indices are known.
use Rattle.std.proofs.Common.{◌≡◌, ℕ, Bool, List, map, ap, sym, ◌∙◌}
use Rattle.std.specs.List.{flat_map}
use Rattle.arrow_schema.specs.Column.{Index}
use Rattle.array_build.proofs.RunArrays.{slots_are}
use Rattle.array_build.specs.inner.Runs.{with_run_slots}
use Rattle.batch_build.specs.Batch.{PlainBatch}
use Rattle.batch_build.specs.Coded.{with_indices}
use Rattle.batch_build.specs.Nodes.{with_buffer, with_slots}
use Rattle.cells.specs.Cell.{Cell}
use Rattle.cells.specs.Dictionary.{entries_of}
use Rattle.cells.specs.Nulls.{is_there}
use Rattle.columns.specs.Built.{index_bytes}

pub codes_are : (p q : PlainBatch) (index : Index) (cells : List Cell) (indices : List ℕ) (valid : List Bool) → q ≡ with_run_slots p valid → valid ≡ map is_there cells
    → indices ≡ flat_map (index_bytes index (entries_of cells)) cells → with_buffer q indices ≡ with_indices p index cells
codes_are p q index cells indices valid slots there bytes =
    ap (λ (r : PlainBatch). with_buffer r indices) (slots ∙ slots_are p cells valid (sym there)) ∙ ap (with_buffer (with_slots p cells)) bytes
