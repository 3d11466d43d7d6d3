-- Values of one width under a mask.
use Rattle.std.specs.Prelude.{Some, None, ◌==◌, nat_le, replicate, if◌then◌else◌}
use Rattle.std.specs.List.{flat_map, list_all}
use Rattle.std.proofs.Common.{◌≡◌, ℕ, zero, suc, ◌+◌, ◌*◌, ◌/◌, ◌≤◌, ◌<◌, Bool, true, false, List, [], ◌∷◌, ◌++◌, length, length-append, take, drop, refl, ap, ap₂, sym, ◌∙◌, arith}
use Rattle.std.proofs.lemmas.Bool.{and_parts, and_from, eq-eqb, eqb-true, leb-true}
use Rattle.std.proofs.lemmas.List.{drop_at, length-replicate, length-take-le, take_at}
use Rattle.std.proofs.lemmas.List.Folds.{list_all-append}
use Rattle.arrow_schema.specs.Column.{Kind, nulls, booleans, integers, dates, timestamps, texts, large_texts, binaries, large_binaries, fixed_binaries, lists, large_lists, fixed_lists, structs}
use Rattle.byteorder.specs.Numbers.{length-bytes_low_first}
use Rattle.array_build.proofs.AsWritten.{null_slot}
use Rattle.array_build.proofs.RunValues.{enough, null_value, plain_cell, room}
use Rattle.batch_build.specs.Batch.{plain_column}
use Rattle.dictionary_codes.specs.Masks.{masked}
use Rattle.array_build.specs.inner.Runs.{cleared, fixed_value, fixed_width, kind_cells}
use Rattle.cells.specs.Cell.{Cell, null}
use Rattle.cells.specs.Fit.{date_bits}
use Rattle.cells.specs.Integers.{number_of}
use Rattle.columns.specs.Array.{Array, slots_in, values_in}
use Rattle.columns.specs.CellAt.{cell_at, kind_cell, cells_from, integer_at, is_valid}
use Rattle.columns.specs.Runs.{are_runs_sound, is_run_sound, run_cells}
use Rattle.columns.specs.Sound.{is_sound}
use Rattle.columns.specs.View.{view_array}
use Rattle.columns.specs.declared.slot_runs.SlotRun.{SlotRun}
use Rattle.columns.specs.declared.slot_runs.SlotRun.TheVariants.{Slots, Nulls}

-- ---- each cell has as many bytes

valid_wide : (kind : Kind) (width : ℕ) (a : Array) (i : ℕ) → fixed_width kind ≡ Some width → slots_in a * width ≤ length (values_in a) → i < slots_in a → is_valid a i ≡ true
    → length (fixed_value kind (plain_cell kind a i)) ≡ width
unfolding cell_at kind_cell
valid_wide (integers bits signed) width a i is long lt valid = let e : bits / 8 ≡ width = cc in rw (valid, e) (length-bytes_low_first 0 width _)
valid_wide (dates unit) width a i is long lt valid = let e : date_bits unit / 8 ≡ width = cc in rw (valid, e) (length-bytes_low_first 0 width _)
valid_wide (timestamps unit timezone) width a i is long lt valid = let e : 8 ≡ width = cc in rw (valid, ← e) (length-bytes_low_first 0 8 (number_of 8 (integer_at 8 true (values_in a) i)))
valid_wide (fixed_binaries size) width a i is long lt valid =
    let e : size ≡ width = cc in rw (valid, e) (length-take-le width (drop (i * width) (values_in a)) (room i (slots_in a) width (values_in a) long lt))
valid_wide nulls width a i is long lt valid = cc
valid_wide booleans width a i is long lt valid = cc
valid_wide texts width a i is long lt valid = cc
valid_wide large_texts width a i is long lt valid = cc
valid_wide binaries width a i is long lt valid = cc
valid_wide large_binaries width a i is long lt valid = cc
valid_wide (lists item) width a i is long lt valid = cc
valid_wide (large_lists item) width a i is long lt valid = cc
valid_wide (fixed_lists size item) width a i is long lt valid = cc
valid_wide (structs columns) width a i is long lt valid = cc

null_wide : (kind : Kind) (width : ℕ) → fixed_width kind ≡ Some width → length (fixed_value kind null) ≡ width
null_wide kind width is = ap length (null_value kind width is) ∙ length-replicate width 0

slot_wide : (b : Bool) (kind : Kind) (width : ℕ) (a : Array) (i : ℕ) → fixed_width kind ≡ Some width → slots_in a * width ≤ length (values_in a) → i < slots_in a → is_valid a i ≡ b
    → length (fixed_value kind (plain_cell kind a i)) ≡ width
slot_wide true kind width a i is long lt valid = valid_wide kind width a i is long lt valid
slot_wide false kind width a i is long lt unset = ap (λ (c : Cell). length (fixed_value kind c)) (null_slot kind a i unset) ∙ null_wide kind width is

abbrev is_wide : Kind → ℕ → Cell → Bool
is_wide kind width c = length (fixed_value kind c) == width

slots_wide : (kind : Kind) (width : ℕ) (a : Array) (from n : ℕ) → fixed_width kind ≡ Some width → slots_in a * width ≤ length (values_in a) → from + n ≤ slots_in a
    → list_all (is_wide kind width) (cells_from (plain_cell kind a) from n) ≡ true
slots_wide kind width a from zero is long within = refl
slots_wide kind width a from (suc n) is long within =
    and_from _ _ (eq-eqb _ _ (slot_wide (is_valid a from) kind width a from is long (omega (arith, within)) refl)) (slots_wide kind width a (from + 1) n is long (omega (arith, within)))

nulls_wide : (kind : Kind) (width n : ℕ) → fixed_width kind ≡ Some width → list_all (is_wide kind width) (replicate n null) ≡ true
nulls_wide kind width zero is = refl
nulls_wide kind width (suc n) is = and_from _ _ (eq-eqb _ _ (null_wide kind width is)) (nulls_wide kind width n is)

run_wide : (kind : Kind) (width : ℕ) (run : SlotRun) → fixed_width kind ≡ Some width → is_run_sound (plain_column kind None) run ≡ true → list_all (is_wide kind width) (run_cells (plain_column kind None) run) ≡ true
run_wide kind width (Slots v from n) is sound =
    let parts = and_parts (is_sound (plain_column kind None) (view_array v)) (nat_le (from + n) (slots_in (view_array v))) sound in
    slots_wide kind width (view_array v) from n is (enough kind width (view_array v) is parts.0) (leb-true _ _ parts.1)
run_wide kind width (Nulls n) is sound = nulls_wide kind width n is

runs_wide : (kind : Kind) (width : ℕ) (runs : List SlotRun) → fixed_width kind ≡ Some width → are_runs_sound (plain_column kind None) runs ≡ true → list_all (is_wide kind width) (kind_cells kind runs) ≡ true
runs_wide kind width [] is sound = refl
runs_wide kind width (run ∷ runs) is sound =
    let parts = and_parts (is_run_sound (plain_column kind None) run) (are_runs_sound (plain_column kind None) runs) sound in
    list_all-append (is_wide kind width) (run_cells (plain_column kind None) run) (kind_cells kind runs)
    ∙ and_from _ _ (run_wide kind width run is parts.0) (runs_wide kind width runs is parts.1)

-- ---- the bytes of all

cells_wide : (kind : Kind) (width : ℕ) (cells : List Cell) → list_all (is_wide kind width) cells ≡ true → length (flat_map (fixed_value kind) cells) ≡ length cells * width
cells_wide kind width [] h = omega arith
cells_wide kind width (c ∷ cells) h =
    let parts = and_parts (is_wide kind width c) (list_all (is_wide kind width) cells) h in
    let own : length (fixed_value kind c) ≡ width = eqb-true _ _ parts.0 in
    let size : suc (length cells) * width ≡ width + length cells * width = omega arith in
    length-append (fixed_value kind c) (flat_map (fixed_value kind) cells) ∙ ap₂ (λ (m n : ℕ). m + n) own (cells_wide kind width cells parts.1) ∙ sym size

pub values_length : (kind : Kind) (width : ℕ) (runs : List SlotRun) → fixed_width kind ≡ Some width → are_runs_sound (plain_column kind None) runs ≡ true
    → length (flat_map (fixed_value kind) (kind_cells kind runs)) ≡ length (kind_cells kind runs) * width
values_length kind width runs is sound = cells_wide kind width (kind_cells kind runs) (runs_wide kind width runs is sound)

first_masked : (b : Bool) (kind : Kind) (width : ℕ) (c : Cell) (others : List ℕ) → fixed_width kind ≡ Some width → length (fixed_value kind c) ≡ width
    → fixed_value kind (if b then c else null) ≡ (if b then take width (fixed_value kind c ++ others) else replicate width 0)
first_masked true kind width c others is own = sym (take_at (fixed_value kind c) others width own)
first_masked false kind width c others is own = null_value kind width is

cells_masked : (kind : Kind) (width : ℕ) (bits : List Bool) (cells : List Cell) → fixed_width kind ≡ Some width → length bits ≡ length cells → list_all (is_wide kind width) cells ≡ true
    → flat_map (fixed_value kind) (masked bits cells) ≡ cleared width bits (flat_map (fixed_value kind) cells)
cells_masked kind width [] [] is len h = refl
cells_masked kind width [] (c ∷ cells) is len h = absurd (omega (arith, len))
cells_masked kind width (b ∷ bits) [] is len h = absurd (omega (arith, len))
cells_masked kind width (b ∷ bits) (c ∷ cells) is len h =
    let parts = and_parts (is_wide kind width c) (list_all (is_wide kind width) cells) h in
    let own : length (fixed_value kind c) ≡ width = eqb-true _ _ parts.0 in
    let others : List ℕ = flat_map (fixed_value kind) cells in
    ap₂ (λ (xs ys : List ℕ). xs ++ ys) (first_masked b kind width c others is own)
    (cells_masked kind width bits cells is (omega (arith, len)) parts.1 ∙ ap (cleared width bits) (sym (drop_at (fixed_value kind c) others width own)))

-- with zeros for those whose bit is not set, they are those of the cells under the mask
pub values_masked : (kind : Kind) (width : ℕ) (bits : List Bool) (runs : List SlotRun) → fixed_width kind ≡ Some width → length bits ≡ length (kind_cells kind runs)
    → are_runs_sound (plain_column kind None) runs ≡ true → flat_map (fixed_value kind) (masked bits (kind_cells kind runs)) ≡ cleared width bits (flat_map (fixed_value kind) (kind_cells kind runs))
values_masked kind width bits runs is len sound = cells_masked kind width bits (kind_cells kind runs) is len (runs_wide kind width runs is sound)
