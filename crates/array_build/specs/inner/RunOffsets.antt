-- The offsets of runs of strings, binaries or lists: how large the span of each slot is, in bytes or items.
use Rattle.std.specs.Prelude.{◌≡◌, ◌≤◌, ℕ, ◌+◌, false, List, [], ◌∷◌, ◌++◌, length, replicate}
use Rattle.std.specs.List.{flat_map}
use Rattle.array_build.specs.inner.MaskedContents.{masked_sizes}
use Rattle.array_build.specs.inner.Runs.{slot_sizes}
use Rattle.columns.specs.Array.{Array, slots_in}
use Rattle.columns.specs.Tests.{are_few_offsets, are_unordered}
use Rattle.columns.specs.View.{view_array}
use Rattle.columns.specs.declared.slot_runs.SlotRun.{SlotRun}
use Rattle.columns.specs.declared.slot_runs.SlotRun.TheVariants.{Slots, Nulls}
use Rattle.dictionary_codes.specs.Masks.{mask_bits, run_bits}

abbrev pub run_sizes : (width : ℕ) → SlotRun → List ℕ
run_sizes width (Slots view from len) = slot_sizes width (view_array view) from len
run_sizes width (Nulls n) = replicate n 0

abbrev pub runs_sizes : (width : ℕ) → List SlotRun → List ℕ
runs_sizes width runs = flat_map (run_sizes width) runs

-- under the bits of a mask from a place on: the span of a slot whose bit is not set is empty
abbrev pub run_sizes_under : (width : ℕ) → (mask : List ℕ) → (at : ℕ) → SlotRun → List ℕ
run_sizes_under width mask at (Slots view from len) = masked_sizes width (view_array view) from (mask_bits mask at len)
run_sizes_under width mask at (Nulls n) = replicate n 0

abbrev pub runs_sizes_under : (width : ℕ) → (mask : List ℕ) → (at : ℕ) → List SlotRun → List ℕ
runs_sizes_under width mask at [] = []
runs_sizes_under width mask at (run ∷ runs) = run_sizes_under width mask at run ++ runs_sizes_under width mask (at + length (run_bits run)) runs

-- `n` slots of an array, from one on, have offsets, which ascend
pub record HaveSpans (width : ℕ) (a : Array) (from n : ℕ) : Type 0 where
  pub few : are_few_offsets width a ≡ false
  pub ordered : (end : ℕ) × (are_unordered width end a ≡ false)
  pub within : from + n ≤ slots_in a

abbrev pub HasOffsets : (width : ℕ) → SlotRun → Type 0
HasOffsets width (Slots view from len) = HaveSpans width (view_array view) from len
HasOffsets width (Nulls n) = Unit {0}

abbrev pub HaveOffsets : (width : ℕ) → List SlotRun → Type 0
HaveOffsets width [] = Unit {0}
HaveOffsets width (run ∷ runs) = HasOffsets width run × HaveOffsets width runs
