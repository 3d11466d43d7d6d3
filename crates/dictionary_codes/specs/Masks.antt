-- The slots of runs: which are valid, and the cells under a mask. Below a struct or a fixed list that is null each cell is null, whatever the slot holds.
use Rattle.std.specs.Prelude.{◌≡◌, ℕ, Bool, true, false, ◌==◌, List, [], ◌∷◌, length, map, replicate, if◌then◌else◌}
use Rattle.std.specs.List.{flat_map, range_with_len, list_all}
use Rattle.arrow_schema.specs.Column.{Column}
use Rattle.bitmap.specs.Bits.{bit, packed}
use Rattle.cells.specs.Cell.{Cell, null}
use Rattle.columns.specs.Runs.{runs_cells}
use Rattle.columns.specs.declared.slot_runs.SlotRun.{SlotRun}
use Rattle.columns.specs.declared.slot_runs.SlotRun.TheVariants.{Slots, Nulls}
use Rattle.columns.specs.CellAt.{is_valid}
use Rattle.columns.specs.View.{view_array}

-- ---- which slots are valid

abbrev pub run_bits : SlotRun → List Bool
run_bits (Slots view from len) = map (is_valid (view_array view)) (range_with_len from len)
run_bits (Nulls n) = replicate n false

abbrev pub runs_bits : List SlotRun → List Bool
runs_bits runs = flat_map run_bits runs

abbrev pub bitmap_of : List Bool → List ℕ
bitmap_of bits = if list_all (λ b. b) bits then [] else packed bits

-- items, with another in place of those whose bit is not set
abbrev pub masked_by : {A : Type 0} → (none : A) → List Bool → List A → List A
masked_by none [] xs = xs
masked_by none (b ∷ bits) [] = []
masked_by none (b ∷ bits) (x ∷ xs) = (if b then x else none) ∷ masked_by none bits xs

-- cells, of which those whose bit is not set are null
abbrev pub masked : List Bool → List Cell → List Cell
masked bits cells = masked_by null bits cells

-- the bits that are set in both
abbrev pub joined : List Bool → List Bool → List Bool
joined bits others = masked_by false bits others

-- `n` bits of a mask, from bit `at` on
abbrev pub mask_bits : List ℕ → (at n : ℕ) → List Bool
mask_bits mask at n = map (bit mask) (range_with_len at n)

-- ---- masks that are written as a validity bitmap: all bits are set if it has no byte

unfoldable pub bitmap_bits : List ℕ → (n : ℕ) → List Bool
bitmap_bits mask n = if length mask == 0 then replicate n true else mask_bits mask 0 n

-- the bits of the slots of runs
abbrev pub slots_mask : (mask : List ℕ) → List SlotRun → List Bool
slots_mask mask runs = bitmap_bits mask (length (runs_bits runs))

-- it has a bit for each slot of runs, or no byte if all are set
abbrev pub IsMask : (mask : List ℕ) → List SlotRun → Type 0
IsMask mask runs = mask ≡ bitmap_of (slots_mask mask runs)

-- the cells of runs under it
abbrev pub masked_cells : Column → (mask : List ℕ) → List SlotRun → List Cell
masked_cells c mask runs = masked (slots_mask mask runs) (runs_cells c runs)
