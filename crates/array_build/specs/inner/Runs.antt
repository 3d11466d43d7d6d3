-- The arrays of runs, and what a run has in each buffer, if its slots are valid or already as they are written.
use Rattle.std.specs.Prelude.{◌≡◌, ℕ, ◌+◌, ◌-◌, ◌/◌, Bool, true, false, ◌==◌, ◌||◌, List, [], ◌∷◌, ◌++◌, length, map, take, drop, replicate, Option, Some, None, if◌then◌else◌}
use Rattle.std.specs.List.{flat_map, list_all, range_with_len}
use Rattle.byteorder.specs.Endian.{little_bytes}
use Rattle.arrow_schema.specs.Column.{Kind, Columns, integers, dates, timestamps, fixed_binaries, lists, large_lists, no_column, and_column}
use Rattle.columns.specs.Runs.{runs_cells, are_runs_sound}
use Rattle.columns.specs.declared.slot_runs.SlotRun.{SlotRun}
use Rattle.columns.specs.declared.slot_runs.SlotRun.TheVariants.{Slots, Nulls}
use Rattle.bitmap.specs.Bits.{bit}
use Rattle.cells.specs.Cell.{Cell}
use Rattle.cells.specs.Fit.{date_bits}
use Rattle.columns.specs.Buildable.{can_build}
use Rattle.columns.specs.Array.{Array, bits_in, contents_in, offsets_in, values_in}
use Rattle.columns.specs.Built.{contents_of, integer_bytes, fixed_bytes, sums_from}
use Rattle.columns.specs.CellAt.{is_valid, number_at, span_size, value_at}
use Rattle.columns.specs.Tests.{Typed}
use Rattle.columns.specs.View.{view_array}
use Rattle.columns.specs.Offsets.{contents_width}
use Rattle.batch_build.specs.Batch.{PlainBatch, batch_in, built_at, plain_column, with_arrays}
use Rattle.batch_build.specs.declared.batch.BuiltBatch.{BuiltBatch}
use Rattle.batch_build.specs.Nodes.{with_validity}
use Rattle.dictionary_codes.specs.Masks.{bitmap_of}

-- the arrays of each column, and all below them
unfoldable pub built_columns : Columns → List (List SlotRun) → List Typed
built_columns no_column rs = []
built_columns (and_column c cs) [] = []
built_columns (and_column c cs) (r ∷ rs) = built_at c (runs_cells c r) ++ built_columns cs rs

-- the cells of runs as those of a type
abbrev pub kind_cells : Kind → List SlotRun → List Cell
kind_cells kind runs = runs_cells (plain_column kind None) runs

-- a batch with the array of such runs, and all below it, after what it had
abbrev pub AddsRuns : Kind → List SlotRun → (old new : BuiltBatch) → Type 0
AddsRuns kind runs old new = batch_in new ≡ with_arrays (batch_in old) (built_at (plain_column kind None) (kind_cells kind runs))

-- ---- which slots are valid

-- the bits of booleans, whatever is below nulls
abbrev pub run_values : SlotRun → List Bool
run_values (Slots view from len) = map (bit (bits_in (view_array view))) (range_with_len from len)
run_values (Nulls n) = replicate n false

abbrev pub runs_values : List SlotRun → List Bool
runs_values runs = flat_map run_values runs

abbrev pub with_run_slots : PlainBatch → List Bool → PlainBatch
with_run_slots p bits = with_validity p (length bits) (bitmap_of bits)

-- ---- values of one width

abbrev pub fixed_width : Kind → Option ℕ
fixed_width (integers bits signed) = Some (bits / 8)
fixed_width (dates unit) = Some (date_bits unit / 8)
fixed_width (timestamps unit timezone) = Some 8
fixed_width (fixed_binaries width) = Some width
fixed_width _ = None

-- what a cell has among them
abbrev pub fixed_value : Kind → Cell → List ℕ
fixed_value (integers bits signed) = integer_bytes (bits / 8)
fixed_value (dates unit) = integer_bytes (date_bits unit / 8)
fixed_value (timestamps unit timezone) = integer_bytes 8
fixed_value (fixed_binaries width) = fixed_bytes width
fixed_value _ = λ c. []

-- values of `width` bytes each, with zeros for those whose bit is not set
abbrev pub cleared : (width : ℕ) → List Bool → List ℕ → List ℕ
cleared width [] values = []
cleared width (b ∷ bits) values = (if b then take width values else replicate width 0) ++ cleared width bits (drop width values)

-- ---- strings and binaries

-- the bytes of the strings or binaries of some slots
abbrev pub span_contents : (width : ℕ) → Array → (from len : ℕ) → List ℕ
span_contents width a from len = take (number_at width (offsets_in a) (from + len) - number_at width (offsets_in a) from) (drop (number_at width (offsets_in a) from) (contents_in a))

-- the difference of the offset of a slot and that of the n-th after it
abbrev pub span_of : (width : ℕ) → Array → (from len : ℕ) → ℕ
span_of width a from len = number_at width (offsets_in a) (from + len) - number_at width (offsets_in a) from

-- how many bytes each of some slots has, and each of some cells
abbrev pub slot_sizes : (width : ℕ) → Array → (from len : ℕ) → List ℕ
slot_sizes width a from len = map (λ i. number_at width (offsets_in a) (i + 1) - number_at width (offsets_in a) i) (range_with_len from len)

abbrev pub cell_sizes : List Cell → List ℕ
cell_sizes cells = map (λ c. length (contents_of c)) cells

-- offsets were added: those at which spans of these sizes begin, the first at `start`, and what follows them at `next`
abbrev pub AreOffsetsAdded : (width : ℕ) → (old new : List ℕ) → (start next : ℕ) → (sizes : List ℕ) → Type 0
AreOffsetsAdded width old new start next sizes =
    (rest : List ℕ) → new ++ flat_map (little_bytes width) (sums_from next rest) ≡ old ++ flat_map (little_bytes width) (sums_from start (sizes ++ rest))

-- ---- slots that are already as they are written: those that are valid, and nulls below which there are zeros, or no bytes or items

abbrev pub are_zeros : List ℕ → Bool
are_zeros bytes = list_all (λ b. b == 0) bytes

-- how many bytes an offset of texts, binaries or lists has
abbrev pub offsets_width : Kind → Option ℕ
offsets_width (lists item) = Some 4
offsets_width (large_lists item) = Some 8
offsets_width kind = contents_width kind

-- a null has nothing below it, by the width of the values or of the offsets; below nulls of other types there can be more
abbrev pub has_nothing_below : (values offsets : Option ℕ) → Array → ℕ → Bool
has_nothing_below (Some width) offsets a i = are_zeros (value_at width (values_in a) i)
has_nothing_below None (Some width) a i = span_size width a i == 0
has_nothing_below None None a i = false

abbrev pub is_as_written : Kind → Array → ℕ → Bool
is_as_written kind a i = is_valid a i || has_nothing_below (fixed_width kind) (offsets_width kind) a i

abbrev pub is_run_as_written : Kind → SlotRun → Bool
is_run_as_written kind (Slots view from len) = list_all (is_as_written kind (view_array view)) (range_with_len from len)
is_run_as_written kind (Nulls n) = true

abbrev pub are_runs_as_written : Kind → List SlotRun → Bool
are_runs_as_written kind runs = list_all (is_run_as_written kind) runs

-- the array of such runs can be built by copying what they hold
pub record AreAsWritten (kind : Kind) (runs : List SlotRun) : Type 0 where
  pub sound : are_runs_sound (plain_column kind None) runs ≡ true
  pub written : are_runs_as_written kind runs ≡ true
  pub fit : can_build (plain_column kind None) (kind_cells kind runs) ≡ true
