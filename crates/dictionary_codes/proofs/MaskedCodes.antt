-- The cells of a column with a dictionary under a mask, stretch by stretch and run by run.
use Rattle.std.specs.Prelude.{◌==◌, ◌||◌, if◌then◌else◌, replicate}
use Rattle.std.specs.List.{range_with_len}
use Rattle.std.proofs.Common.{◌≡◌, ℕ, ◌+◌, ◌-◌, ◌<◌, ◌≤◌, Bool, true, false, List, ◌∷◌, ◌++◌, map, length, length-append, refl, ap, ap₂, sym, ◌∙◌, arith}
use Rattle.std.proofs.lemmas.List.{length-replicate, map-append}
use Rattle.std.proofs.lemmas.List.FromFn.{length-map-range_with_len}
use Rattle.arrow_schema.specs.Column.{Column}
use Rattle.dictionary_codes.specs.laws.MaskedItems.{all_alike, all_kept, masked_append, none_kept}
use Rattle.dictionary_codes.specs.laws.MaskedRuns.{run_counted, same_as}
use Rattle.dictionary_codes.specs.Masks.{bitmap_bits, mask_bits, masked, masked_cells, run_bits, runs_bits}
use Rattle.dictionary_codes.specs.inner.MaskParts.{part_bit, part_bits}
use Rattle.bitmap.specs.Bits.{bit}
use Rattle.cells.specs.Cell.{Cell, null}
use Rattle.columns.specs.CellAt.{cells_from}
use Rattle.columns.specs.Runs.{run_cells, runs_cells}
use Rattle.columns.specs.declared.slot_runs.SlotRun.{SlotRun}
use Rattle.columns.specs.laws.Rows.{cells_from-append}
use Rattle.facts.specs.laws.Lists.{range-append}

-- ---- slots whose bits are alike

pub all_set_kept : (f : ℕ → Cell) (from n : ℕ) → masked (replicate n true) (cells_from f from n) ≡ cells_from f from n
all_set_kept f from n = all_kept null (replicate n true) (cells_from f from n) (length-replicate n true ∙ sym (length-map-range_with_len f from n)) (all_alike n)

pub all_unset_null : (f : ℕ → Cell) (from n : ℕ) → masked (replicate n false) (cells_from f from n) ≡ replicate n null
all_unset_null f from n = none_kept null n (cells_from f from n) (sym (length-map-range_with_len f from n))

-- ---- bits of a mask that may have no byte

pub part_counted : (mask : List ℕ) (at n : ℕ) → length (part_bits mask at n) ≡ n
unfolding part_bits
part_counted mask at n = length-map-range_with_len (part_bit mask) at n

part_append : (mask : List ℕ) (at m n : ℕ) → part_bits mask at (m + n) ≡ part_bits mask at m ++ part_bits mask (at + m) n
unfolding part_bits
part_append mask at m n = ap (map (part_bit mask)) (range-append at m n) ∙ map-append (part_bit mask) (range_with_len at m) (range_with_len (at + m) n)

pub whole_part : (mask : List ℕ) (n : ℕ) → bitmap_bits mask n ≡ part_bits mask 0 n
unfolding bitmap_bits part_bits
whole_part mask n = by (length mask == 0)
  where
    by : (b : Bool) → (if b then replicate n true else mask_bits mask 0 n) ≡ map (λ i. b || bit mask i) (range_with_len 0 n)
    by true = sym (same_as (λ i. true) true 0 n (λ i low high. refl))
    by false = refl

-- the cells that are left are those of slots whose bits are alike, and then the others
pub alike_first : (f : ℕ → Cell) (mask : List ℕ) (at from len done stop n : ℕ) (set : Bool) → done ≤ stop → stop ≤ len → n ≡ stop - done
    → ((i : ℕ) → at + done ≤ i → i < at + stop → part_bit mask i ≡ set)
    → masked (part_bits mask (at + done) (len - done)) (cells_from f (from + done) (len - done))
    ≡ masked (replicate n set) (cells_from f (from + done) n) ++ masked (part_bits mask (at + stop) (len - stop)) (cells_from f (from + stop) (len - stop))
unfolding part_bits
alike_first f mask at from len done stop n set low high size alike =
    let k : ℕ = len - stop in
    let total : len - done ≡ n + k = omega (arith, low, high, size) in
    let bit_next : at + done + n ≡ at + stop = omega (arith, low, size) in
    let slot_next : from + done + n ≡ from + stop = omega (arith, low, size) in
    let own : part_bits mask (at + done) n ≡ replicate n set = same_as (part_bit mask) set (at + done) n (λ i begins ends. alike i begins (omega (arith, ends, bit_next))) in
    ap (λ (m : ℕ). masked (part_bits mask (at + done) m) (cells_from f (from + done) m)) total
    ∙ ap₂ (λ (bits : List Bool) (cells : List Cell). masked bits cells) (part_append mask (at + done) n k) (cells_from-append f (from + done) n k)
    ∙ masked_append null (part_bits mask (at + done) n) (part_bits mask (at + done + n) k) (cells_from f (from + done) n) (cells_from f (from + done + n) k)
    (part_counted mask (at + done) n ∙ sym (length-map-range_with_len f (from + done) n))
    ∙ ap₂ (λ (xs ys : List Cell). xs ++ ys) (ap (λ (bits : List Bool). masked bits (cells_from f (from + done) n)) own)
    (ap₂ (λ (i j : ℕ). masked (part_bits mask i k) (cells_from f j k)) bit_next slot_next)

-- ---- runs one after another

-- those of some runs, whose bits begin at a place
abbrev pub cells_behind : Column → (mask : List ℕ) → (at : ℕ) → List SlotRun → List Cell
cells_behind c mask at runs = masked (part_bits mask at (length (runs_bits runs))) (runs_cells c runs)

pub run_first : (c : Column) (mask : List ℕ) (at : ℕ) (left rest : List SlotRun) (run : SlotRun) → left ≡ run ∷ rest
    → cells_behind c mask at left ≡ masked (part_bits mask at (length (run_bits run))) (run_cells c run) ++ cells_behind c mask (at + length (run_bits run)) rest
run_first c mask at left rest run item =
    let n : ℕ = length (run_bits run) in
    let k : ℕ = length (runs_bits rest) in
    ap (cells_behind c mask at) item
    ∙ ap (λ (m : ℕ). masked (part_bits mask at m) (run_cells c run ++ runs_cells c rest)) (length-append (run_bits run) (runs_bits rest))
    ∙ ap (λ (bits : List Bool). masked bits (run_cells c run ++ runs_cells c rest)) (part_append mask at n k)
    ∙ masked_append null (part_bits mask at n) (part_bits mask (at + n) k) (run_cells c run) (runs_cells c rest) (part_counted mask at n ∙ sym (run_counted c run))

pub all_behind : (c : Column) (mask : List ℕ) (runs : List SlotRun) → masked_cells c mask runs ≡ cells_behind c mask 0 runs
all_behind c mask runs = ap (λ (bits : List Bool). masked bits (runs_cells c runs)) (whole_part mask (length (runs_bits runs)))

-- before the first slot all are left
pub all_left : (f : ℕ → Cell) (mask : List ℕ) (at from len : ℕ)
    → masked (part_bits mask (at + 0) (len - 0)) (cells_from f (from + 0) (len - 0)) ≡ masked (part_bits mask at len) (cells_from f from len)
all_left f mask at from len =
    let here : at + 0 ≡ at = omega arith in
    let first : from + 0 ≡ from = omega arith in
    let all : len - 0 ≡ len = omega arith in
    ap (λ (n : ℕ). masked (part_bits mask n (len - 0)) (cells_from f (from + 0) (len - 0))) here
    ∙ ap (λ (n : ℕ). masked (part_bits mask at (len - 0)) (cells_from f n (len - 0))) first
    ∙ ap (λ (n : ℕ). masked (part_bits mask at n) (cells_from f from n)) all
