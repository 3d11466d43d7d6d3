-- Runs under a mask.
use Rattle.std.specs.Prelude.{replicate}
use Rattle.std.specs.List.{range_with_len}
use Rattle.std.proofs.Common.{◌≡◌, ℕ, zero, suc, ◌+◌, ◌*◌, ◌<◌, ◌≤◌, Bool, true, false, List, [], ◌∷◌, ◌++◌, map, length, length-append, refl, ap, ap₂, sym, ◌∙◌, arith}
use Rattle.std.proofs.lemmas.List.{length-replicate, map-append, nil_from_length}
use Rattle.std.proofs.lemmas.List.FromFn.{length-map-range_with_len}
use Rattle.facts.specs.laws.Lists.{range-append}
use Rattle.arrow_schema.specs.Column.{Column}
use Rattle.dictionary_codes.specs.laws.Bitmaps.{bitmap_long, bitmap_none, bits_counted, bits_without}
use Rattle.dictionary_codes.specs.laws.MaskedItems.{all_alike, all_kept}
use Rattle.dictionary_codes.specs.Masks.{IsMask, mask_bits, masked, masked_cells, slots_mask, bitmap_of, run_bits, runs_bits}
use Rattle.bitmap.specs.Bits.{bit}
use Rattle.cells.specs.Cell.{null}
use Rattle.columns.specs.CellAt.{cell_at, is_valid}
use Rattle.columns.specs.Runs.{run_cells, runs_cells}
use Rattle.columns.specs.View.{view_array}
use Rattle.columns.specs.declared.slot_runs.SlotRun.{SlotRun}
use Rattle.columns.specs.declared.slot_runs.SlotRun.TheVariants.{Slots, Nulls}

-- ---- how many cells there are

pub run_counted : (c : Column) (run : SlotRun) → length (run_cells c run) ≡ length (run_bits run)
run_counted c (Slots v from n) = length-map-range_with_len (cell_at c (view_array v)) from n ∙ sym (length-map-range_with_len (is_valid (view_array v)) from n)
run_counted c (Nulls n) = length-replicate n null ∙ sym (length-replicate n false)

pub cells_counted : (c : Column) (runs : List SlotRun) → length (runs_cells c runs) ≡ length (runs_bits runs)
cells_counted c [] = refl
cells_counted c (run ∷ runs) =
    length-append (run_cells c run) (runs_cells c runs)
    ∙ ap₂ (λ (m n : ℕ). m + n) (run_counted c run) (cells_counted c runs)
    ∙ sym (length-append (run_bits run) (runs_bits runs))

pub mask_counted : (mask : List ℕ) (at n : ℕ) → length (mask_bits mask at n) ≡ n
mask_counted mask at n = length-map-range_with_len (bit mask) at n

pub bits_append : (mask : List ℕ) (at m n : ℕ) → mask_bits mask at (m + n) ≡ mask_bits mask at m ++ mask_bits mask (at + m) n
bits_append mask at m n = ap (map (bit mask)) (range-append at m n) ∙ map-append (bit mask) (range_with_len at m) (range_with_len (at + m) n)

pub same_as : (f : ℕ → Bool) (b : Bool) (at n : ℕ) → ((i : ℕ) → at ≤ i → i < at + n → f i ≡ b) → map f (range_with_len at n) ≡ replicate n b
same_as f b at zero same = refl
same_as f b at (suc n) same =
    ap₂ (λ (x : Bool) (xs : List Bool). x ∷ xs) (same at (omega arith) (omega arith)) (same_as f b (at + 1) n (λ i low high. same i (omega (arith, low)) (omega (arith, high))))

-- ---- masks of runs

-- a mask without a byte leaves the cells as they are
pub cells_without : (c : Column) (mask : List ℕ) (runs : List SlotRun) → length mask ≡ 0 → masked_cells c mask runs ≡ runs_cells c runs
cells_without c mask runs none =
    ap (λ (bits : List Bool). masked bits (runs_cells c runs)) (bits_without mask (length (runs_bits runs)) none)
    ∙ all_kept null (replicate (length (runs_bits runs)) true) (runs_cells c runs) (length-replicate (length (runs_bits runs)) true ∙ sym (cells_counted c runs)) (all_alike (length (runs_bits runs)))

pub mask_long : (mask : List ℕ) (runs : List SlotRun) → IsMask mask runs → (length mask ≡ 0 → ⊥) → length (runs_bits runs) ≤ 8 * length mask
mask_long mask runs is some = let long = bitmap_long mask (slots_mask mask runs) is some in omega (arith, long, bits_counted mask (length (runs_bits runs)))

pub no_mask : (mask : List ℕ) (runs : List SlotRun) → length mask ≡ 0 → IsMask mask runs
no_mask mask runs none =
    let n : ℕ = length (runs_bits runs) in
    nil_from_length mask none ∙ sym (ap bitmap_of (bits_without mask n none) ∙ bitmap_none (replicate n true) (all_alike n))
