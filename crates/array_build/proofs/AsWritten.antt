-- Runs that stand as they are written.
use Rattle.std.specs.Prelude.{Some, None, ◌==◌, ◌||◌, replicate}
use Rattle.std.specs.List.{list_all, range_with_len}
use Rattle.std.proofs.Common.{◌≡◌, ℕ, true, false, List, [], ◌∷◌, length, refl, ap₂}
use Rattle.std.proofs.lemmas.Bool.{and_parts, eqb-true, or_left}
use Rattle.arrow_schema.specs.Column.{Kind, nulls, booleans, integers, dates, timestamps, texts, large_texts, binaries, large_binaries, fixed_binaries, lists, large_lists, fixed_lists, structs}
use Rattle.batch_build.specs.Batch.{plain_column}
use Rattle.array_build.specs.inner.Runs.{are_runs_as_written, are_zeros, fixed_width, has_nothing_below, is_as_written, is_run_as_written, offsets_width}
use Rattle.columns.specs.Runs.{are_runs_valid, is_run_sound, is_run_valid}
use Rattle.columns.specs.declared.slot_runs.SlotRun.{SlotRun}
use Rattle.columns.specs.declared.slot_runs.SlotRun.TheVariants.{Slots, Nulls}
use Rattle.cells.specs.Cell.{null}
use Rattle.columns.specs.Array.{Array, values_in}
use Rattle.columns.specs.CellAt.{cell_at, is_valid, span_size, value_at}
use Rattle.columns.specs.Sound.{is_sound}
use Rattle.columns.specs.Tests.{has_short_validity}
use Rattle.columns.specs.View.{view_array}
use Rattle.columns.specs.declared.view.ArrayView.{ArrayView}
use Rattle.columns.specs.laws.SoundParts.{sound_validity}
use Rattle.columns.specs.Offsets.{contents_width}

pub short_validity : (kind : Kind) (v : ArrayView) (from n : ℕ) → is_run_sound (plain_column kind None) (Slots v from n) ≡ true → has_short_validity (view_array v) ≡ false
unfolding is_sound
short_validity kind v from n h = sound_validity kind (view_array v) (and_parts (is_sound (plain_column kind None) (view_array v)) _ h).0

-- ---- what stands below a null

pub null_slot : (kind : Kind) (a : Array) (i : ℕ) → is_valid a i ≡ false → cell_at (plain_column kind None) a i ≡ null
unfolding cell_at
null_slot kind a i h = rw h refl

pub zeros_are : (bytes : List ℕ) → are_zeros bytes ≡ true → bytes ≡ replicate (length bytes) 0
zeros_are [] h = refl
zeros_are (b ∷ bytes) h =
    let parts = and_parts (b == 0) (are_zeros bytes) h in
    ap₂ (λ (x : ℕ) (xs : List ℕ). x ∷ xs) (eqb-true b 0 parts.0) (zeros_are bytes parts.1)

pub zeros_below : (kind : Kind) (width : ℕ) (a : Array) (i : ℕ) → fixed_width kind ≡ Some width → is_as_written kind a i ≡ true → is_valid a i ≡ false → are_zeros (value_at width (values_in a) i) ≡ true
zeros_below kind width a i is h unset = rw (unset, is) at h

-- texts and binaries have offsets
pub has_offsets : (kind : Kind) (width : ℕ) → contents_width kind ≡ Some width → offsets_width kind ≡ Some width
has_offsets texts width is = is
has_offsets large_texts width is = is
has_offsets binaries width is = is
has_offsets large_binaries width is = is
has_offsets nulls width is = is
has_offsets booleans width is = is
has_offsets (integers bits signed) width is = is
has_offsets (dates unit) width is = is
has_offsets (timestamps unit timezone) width is = is
has_offsets (fixed_binaries size) width is = is
has_offsets (lists item) width is = cc
has_offsets (large_lists item) width is = cc
has_offsets (fixed_lists size item) width is = is
has_offsets (structs columns) width is = is

-- what has offsets has no values of one width
no_values : (kind : Kind) (width : ℕ) → offsets_width kind ≡ Some width → fixed_width kind ≡ None
no_values texts width is = refl
no_values large_texts width is = refl
no_values binaries width is = refl
no_values large_binaries width is = refl
no_values nulls width is = cc
no_values booleans width is = cc
no_values (integers bits signed) width is = cc
no_values (dates unit) width is = cc
no_values (timestamps unit timezone) width is = cc
no_values (fixed_binaries size) width is = cc
no_values (lists item) width is = refl
no_values (large_lists item) width is = refl
no_values (fixed_lists size item) width is = cc
no_values (structs columns) width is = cc

pub no_byte_below : (kind : Kind) (width : ℕ) (a : Array) (i : ℕ) → offsets_width kind ≡ Some width → is_as_written kind a i ≡ true → is_valid a i ≡ false → span_size width a i ≡ 0
no_byte_below kind width a i is h unset =
    let none = no_values kind width is in
    let size : (span_size width a i == 0) ≡ true = rw (unset, none, is) at h in
    eqb-true (span_size width a i) 0 size

-- ---- what a slot shows by the width of its values or offsets

pub zeros_written : (kind : Kind) (width : ℕ) (a : Array) (i : ℕ) → fixed_width kind ≡ Some width → (is_valid a i || are_zeros (value_at width (values_in a) i)) ≡ true → is_as_written kind a i ≡ true
zeros_written kind width a i is h = rw is h

pub no_bytes_written : (kind : Kind) (width : ℕ) (a : Array) (i : ℕ) → offsets_width kind ≡ Some width → (is_valid a i || span_size width a i == 0) ≡ true → is_as_written kind a i ≡ true
no_bytes_written kind width a i is h = let none = no_values kind width is in rw (none, is) h

-- ---- valid slots

slots_written : (kind : Kind) (a : Array) (is : List ℕ) → list_all (is_valid a) is ≡ true → list_all (is_as_written kind a) is ≡ true
slots_written kind a [] h = refl
slots_written kind a (i ∷ is) h =
    let parts = and_parts (is_valid a i) (list_all (is_valid a) is) h in
    let first : is_as_written kind a i ≡ true = or_left (is_valid a i) (has_nothing_below (fixed_width kind) (offsets_width kind) a i) parts.0 in
    rw first (slots_written kind a is parts.1)

pub valid_written : (kind : Kind) (run : SlotRun) → is_run_valid run ≡ true → is_run_as_written kind run ≡ true
valid_written kind (Slots v from n) h = slots_written kind (view_array v) (range_with_len from n) h
valid_written kind (Nulls n) h = refl

pub valid_runs_written : (kind : Kind) (runs : List SlotRun) → are_runs_valid runs ≡ true → are_runs_as_written kind runs ≡ true
valid_runs_written kind [] h = refl
valid_runs_written kind (run ∷ runs) h =
    let parts = and_parts (is_run_valid run) (are_runs_valid runs) h in
    rw (valid_written kind run parts.0) (valid_runs_written kind runs parts.1)
