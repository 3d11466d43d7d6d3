-- The items of lists of one size, of slots one after another.
use Rattle.std.specs.Prelude.{◌*◌, ◌-◌, ◌==◌, nat_le, replicate, if◌then◌else◌}
use Rattle.std.specs.List.{flat_map, list_all, range_with_len}
use Rattle.std.proofs.Common.{◌≡◌, ℕ, zero, suc, ◌+◌, ◌≤◌, ◌<◌, ◌++◌, Bool, true, false, List, [], ◌∷◌, map, length, length-append, ap, ap₂, refl, sym, ◌∙◌, arith}
use Rattle.std.proofs.Math.Nat.{mul-le-mul_left}
use Rattle.std.proofs.lemmas.Bool.{and_from, and_parts, eq-eqb, eqb-true, leb-true}
use Rattle.std.proofs.lemmas.List.{length-replicate, map-append}
use Rattle.std.proofs.lemmas.List.Concat.{flat_map-append}
use Rattle.std.proofs.lemmas.List.Folds.{list_all-append}
use Rattle.std.proofs.lemmas.List.FromFn.{length-map-range_with_len}
use Rattle.arrow_schema.specs.Column.{Column, fixed_lists}
use Rattle.batch_build.specs.laws.Arrays.{fixed_lists_are}
use Rattle.dictionary_codes.specs.laws.MaskedItems.{alike_kept, all_alike, all_kept, masked_append, masked_length, masked_map, masked_twice, none_kept}
use Rattle.dictionary_codes.specs.laws.MaskedRuns.{bits_append, cells_counted}
use Rattle.dictionary_codes.specs.laws.Bitmaps.{bits_counted}
use Rattle.dictionary_codes.specs.laws.Repeated.{repeated_each, repeated_map}
use Rattle.array_build.proofs.RunArrays.{masked_kind_slots}
use Rattle.batch_build.specs.Batch.{PlainBatch, built_at, with_arrays}
use Rattle.dictionary_codes.specs.Masks.{IsMask, bitmap_bits, mask_bits, masked, masked_by, masked_cells, slots_mask, bitmap_of, run_bits, runs_bits}
use Rattle.array_build.specs.inner.Masked.{masked_slots, repeated}
use Rattle.array_build.specs.inner.RunItems.{AreFixedItems, HasSlots, fixed_below, fixed_column}
use Rattle.array_build.specs.inner.Runs.{kind_cells, with_run_slots}
use Rattle.columns.specs.Runs.{run_cells, runs_cells, is_run_sound}
use Rattle.columns.specs.declared.slot_runs.SlotRun.{SlotRun}
use Rattle.columns.specs.declared.slot_runs.SlotRun.TheVariants.{Slots, Nulls}
use Rattle.cells.specs.Cell.{Cell, null}
use Rattle.cells.specs.laws.Cells.{cells_listed}
use Rattle.columns.specs.Array.{Array, slots_in, items_in}
use Rattle.columns.specs.Built.{fixed_items}
use Rattle.columns.specs.CellAt.{cell_at, kind_cell, cells_from, is_valid}
use Rattle.columns.specs.Sound.{is_sound, has_sound_children}
use Rattle.columns.specs.View.{view_array}
use Rattle.columns.specs.declared.view.ArrayView.{ArrayView}
use Rattle.columns.specs.laws.SoundParts.{sound_children}
use Rattle.columns.specs.laws.Rows.{cells_from-append}

-- what is known of a run of slots
pub record AreFixed (size : ℕ) (item : Column) (v : ArrayView) (from n : ℕ) : Type 0 where
  pub sound : is_sound item (items_in (view_array v)) ≡ true
  pub end : from * size + n * size ≤ slots_in (items_in (view_array v))

fixed_tests : (size : ℕ) (item : Column) (a : Array) → is_sound (fixed_column size item) a ≡ true → (nat_le (slots_in a * size) (slots_in (items_in a)) ≡ true) × (is_sound item (items_in a) ≡ true)
unfolding is_sound has_sound_children
fixed_tests size item a h = and_parts (nat_le (slots_in a * size) (slots_in (items_in a))) (is_sound item (items_in a)) (sound_children (fixed_lists size item) a h)

fixed_end : (size from n slots most : ℕ) → from + n ≤ slots → slots * size ≤ most → from * size + n * size ≤ most
fixed_end size from n slots most within long =
    let own : size * (from + n) ≤ size * slots = mul-le-mul_left size within in
    omega (arith, own, long)

pub are_fixed : (size : ℕ) (item : Column) (v : ArrayView) (from n : ℕ) (run : SlotRun) → run ≡ Slots v from n → is_run_sound (fixed_column size item) run ≡ true → AreFixed size item v from n
are_fixed size item v from n run is sound =
    let sound_slots : is_run_sound (fixed_column size item) (Slots v from n) ≡ true = ap (is_run_sound (fixed_column size item)) (sym is) ∙ sound in
    let parts = and_parts (is_sound (fixed_column size item) (view_array v)) (nat_le (from + n) (slots_in (view_array v))) sound_slots in
    let tests = fixed_tests size item (view_array v) parts.0 in
    record {
      sound = tests.1;
      end = fixed_end size from n (slots_in (view_array v)) (slots_in (items_in (view_array v))) (leb-true _ _ parts.1) (leb-true _ _ tests.0);
    }

pub fixed_found : (size : ℕ) (item : Column) (v : ArrayView) (from n : ℕ) (run part : SlotRun) → run ≡ Slots v from n → AreFixed size item v from n
    → HasSlots (items_in (view_array v)) (from * size) (n * size) part → AreFixedItems size item run part
fixed_found size item v from n run part is are has = record {
  cells = has.cells item ∙ ap (fixed_below size item) (sym is);
  sound = has.sound item are.sound;
}

pub fixed_of_nulls : (size : ℕ) (item : Column) (n count : ℕ) (run : SlotRun) → run ≡ Nulls n → count ≡ n * size → AreFixedItems size item run (Nulls count)
fixed_of_nulls size item n count run is counts = record {
  cells = ap (λ (k : ℕ). replicate k null) counts ∙ ap (fixed_below size item) (sym is);
  sound = refl;
}

-- ---- the items of each list

-- a list of items for each slot of a run, whatever stands below nulls
abbrev pub item_rows : (size : ℕ) → (item : Column) → SlotRun → List (List Cell)
item_rows size item (Slots v from n) = map (λ i. cells_from (cell_at item (items_in (view_array v))) (i * size) size) (range_with_len from n)
item_rows size item (Nulls n) = replicate n (replicate size null)

abbrev pub all_rows : (size : ℕ) → (item : Column) → List SlotRun → List (List Cell)
all_rows size item runs = flat_map (item_rows size item) runs

abbrev pub all_of : List (List Cell) → List Cell
all_of rows = flat_map (λ row. row) rows

slot_items : (b : Bool) (size : ℕ) (item : Column) (a : Array) (i : ℕ) → is_valid a i ≡ b
    → fixed_items size (cell_at (fixed_column size item) a i) ≡ (if b then cells_from (cell_at item (items_in a)) (i * size) size else replicate size null)
unfolding cell_at kind_cell
slot_items true size item a i valid = rw valid (cells_listed (cells_from (cell_at item (items_in a)) (i * size) size))
slot_items false size item a i valid = rw valid refl

slots_items : (size : ℕ) (item : Column) (a : Array) (from n : ℕ) → map (fixed_items size) (cells_from (cell_at (fixed_column size item) a) from n)
    ≡ masked_by (replicate size null) (map (is_valid a) (range_with_len from n)) (map (λ i. cells_from (cell_at item (items_in a)) (i * size) size) (range_with_len from n))
slots_items size item a from zero = refl
slots_items size item a from (suc n) = ap₂ (λ (x : List Cell) (xs : List (List Cell)). x ∷ xs) (slot_items (is_valid a from) size item a from refl) (slots_items size item a (from + 1) n)

run_items : (size : ℕ) (item : Column) (run : SlotRun) → map (fixed_items size) (run_cells (fixed_column size item) run) ≡ masked_by (replicate size null) (run_bits run) (item_rows size item run)
run_items size item (Slots v from n) = slots_items size item (view_array v) from n
run_items size item (Nulls n) = repeated_map (fixed_items size) n null ∙ sym (alike_kept (replicate size null) (replicate n false) n)

rows_counted : (size : ℕ) (item : Column) (run : SlotRun) → length (run_bits run) ≡ length (item_rows size item run)
rows_counted size item (Slots v from n) =
    length-map-range_with_len (is_valid (view_array v)) from n ∙ sym (length-map-range_with_len (λ i. cells_from (cell_at item (items_in (view_array v))) (i * size) size) from n)
rows_counted size item (Nulls n) = length-replicate n false ∙ sym (length-replicate n (replicate size null))

runs_items : (size : ℕ) (item : Column) (runs : List SlotRun)
    → map (fixed_items size) (kind_cells (fixed_lists size item) runs) ≡ masked_by (replicate size null) (runs_bits runs) (all_rows size item runs)
runs_items size item [] = refl
runs_items size item (run ∷ runs) =
    map-append (fixed_items size) (run_cells (fixed_column size item) run) (kind_cells (fixed_lists size item) runs)
    ∙ ap₂ (λ (xs ys : List (List Cell)). xs ++ ys) (run_items size item run) (runs_items size item runs)
    ∙ sym (masked_append (replicate size null) (run_bits run) (runs_bits runs) (item_rows size item run) (all_rows size item runs) (rows_counted size item run))

-- ---- all items, one after another

slots_all : (size : ℕ) (g : ℕ → Cell) (from n : ℕ) → all_of (map (λ i. cells_from g (i * size) size) (range_with_len from n)) ≡ cells_from g (from * size) (n * size)
slots_all size g from zero = let none : 0 ≡ 0 * size = omega arith in ap (cells_from g (from * size)) none
slots_all size g from (suc n) =
    let next : (from + 1) * size ≡ from * size + size = omega arith in
    let whole : size + n * size ≡ suc n * size = omega arith in
    ap (λ (cells : List Cell). cells_from g (from * size) size ++ cells) (slots_all size g (from + 1) n ∙ ap (λ (s : ℕ). cells_from g s (n * size)) next)
    ∙ sym (cells_from-append g (from * size) size (n * size)) ∙ ap (cells_from g (from * size)) whole

run_all : (size : ℕ) (item : Column) (run : SlotRun) → all_of (item_rows size item run) ≡ fixed_below size item run
run_all size item (Slots v from n) = slots_all size (cell_at item (items_in (view_array v))) from n
run_all size item (Nulls n) = repeated_each (λ (row : List Cell). row) size (replicate size null) null n refl

runs_all : (size : ℕ) (item : Column) (runs : List SlotRun) → all_of (all_rows size item runs) ≡ flat_map (fixed_below size item) runs
runs_all size item [] = refl
runs_all size item (run ∷ runs) =
    flat_map-append (λ (row : List Cell). row) (item_rows size item run) (all_rows size item runs)
    ∙ ap₂ (λ (xs ys : List Cell). xs ++ ys) (run_all size item run) (runs_all size item runs)

-- each has as many
abbrev has_size : (size : ℕ) → List Cell → Bool
has_size size row = length row == size

slots_sized : (size : ℕ) (g : ℕ → Cell) (from n : ℕ) → list_all (has_size size) (map (λ i. cells_from g (i * size) size) (range_with_len from n)) ≡ true
slots_sized size g from zero = refl
slots_sized size g from (suc n) = and_from _ _ (eq-eqb _ _ (length-map-range_with_len g (from * size) size)) (slots_sized size g (from + 1) n)

nulls_sized : (size n : ℕ) → list_all (has_size size) (replicate n (replicate size null)) ≡ true
nulls_sized size zero = refl
nulls_sized size (suc n) = and_from _ _ (eq-eqb _ _ (length-replicate size null)) (nulls_sized size n)

run_sized : (size : ℕ) (item : Column) (run : SlotRun) → list_all (has_size size) (item_rows size item run) ≡ true
run_sized size item (Slots v from n) = slots_sized size (cell_at item (items_in (view_array v))) from n
run_sized size item (Nulls n) = nulls_sized size n

runs_sized : (size : ℕ) (item : Column) (runs : List SlotRun) → list_all (has_size size) (all_rows size item runs) ≡ true
runs_sized size item [] = refl
runs_sized size item (run ∷ runs) =
    list_all-append (has_size size) (item_rows size item run) (all_rows size item runs) ∙ and_from _ _ (run_sized size item run) (runs_sized size item runs)

row_masked : (b : Bool) (size : ℕ) (row : List Cell) → length row ≡ size → (if b then row else replicate size null) ≡ masked (replicate size b) row
row_masked true size row len = sym (all_kept null (replicate size true) row (length-replicate size true ∙ sym len) (all_alike size))
row_masked false size row len = sym (none_kept null size row (sym len))

-- lists under a mask have the items under each bit so many times
rows_masked : (size : ℕ) (bits : List Bool) (rows : List (List Cell)) → length bits ≡ length rows → list_all (has_size size) rows ≡ true
    → all_of (masked_by (replicate size null) bits rows) ≡ masked (repeated size bits) (all_of rows)
rows_masked size [] [] len h = refl
rows_masked size [] (row ∷ rows) len h = absurd (omega (arith, len))
rows_masked size (b ∷ bits) [] len h = absurd (omega (arith, len))
rows_masked size (b ∷ bits) (row ∷ rows) len h =
    let both = and_parts (has_size size row) (list_all (has_size size) rows) h in
    let own : length row ≡ size = eqb-true _ _ both.0 in
    ap₂ (λ (xs ys : List Cell). xs ++ ys) (row_masked b size row own) (rows_masked size bits rows (omega (arith, len)) both.1)
    ∙ sym (masked_append null (replicate size b) (repeated size bits) row (all_of rows) (length-replicate size b ∙ sym own))

all_rows_counted : (size : ℕ) (item : Column) (runs : List SlotRun) → length (runs_bits runs) ≡ length (all_rows size item runs)
all_rows_counted size item [] = refl
all_rows_counted size item (run ∷ runs) =
    length-append (run_bits run) (runs_bits runs) ∙ ap₂ (λ (m n : ℕ). m + n) (rows_counted size item run) (all_rows_counted size item runs)
    ∙ sym (length-append (item_rows size item run) (all_rows size item runs))

flat_mapped : (f : Cell → List Cell) (cells : List Cell) → flat_map f cells ≡ all_of (map f cells)
flat_mapped f [] = refl
flat_mapped f (c ∷ cells) = ap (λ (xs : List Cell). f c ++ xs) (flat_mapped f cells)

pub items_masked : (size : ℕ) (item : Column) (mask : List ℕ) (runs : List SlotRun)
    → flat_map (fixed_items size) (masked_cells (fixed_column size item) mask runs) ≡ masked (repeated size (masked_slots mask runs)) (flat_map (fixed_below size item) runs)
items_masked size item mask runs =
    let bits : List Bool = slots_mask mask runs in
    let counted = bits_counted mask (length (runs_bits runs)) in
    flat_mapped (fixed_items size) (masked_cells (fixed_column size item) mask runs)
    ∙ ap all_of (masked_map (fixed_items size) null bits (kind_cells (fixed_lists size item) runs)
    ∙ ap (masked_by (replicate size null) bits) (runs_items size item runs)
    ∙ masked_twice (replicate size null) bits (runs_bits runs) (all_rows size item runs) counted)
    ∙ rows_masked size (masked_slots mask runs) (all_rows size item runs) (masked_length false bits (runs_bits runs) ∙ all_rows_counted size item runs) (runs_sized size item runs)
    ∙ ap (masked (repeated size (masked_slots mask runs))) (runs_all size item runs)

-- ---- each bit so many times

pub repeated_length : (size : ℕ) (bits : List Bool) → length (repeated size bits) ≡ length bits * size
repeated_length size [] = omega arith
repeated_length size (b ∷ bits) =
    let whole : suc (length bits) * size ≡ size + length bits * size = omega arith in
    length-append (replicate size b) (repeated size bits) ∙ ap₂ (λ (m n : ℕ). m + n) (length-replicate size b) (repeated_length size bits) ∙ sym whole

pub repeated_append : (size : ℕ) (bits more : List Bool) → repeated size (bits ++ more) ≡ repeated size bits ++ repeated size more
repeated_append size bits more = flat_map-append (λ (b : Bool). replicate size b) bits more

pub repeated_alike : (size n : ℕ) (b : Bool) → repeated size (replicate n b) ≡ replicate (n * size) b
repeated_alike size n b = repeated_each (λ (b : Bool). replicate size b) size b b n refl

pub repeated_never : (bits : List Bool) → repeated 0 bits ≡ []
repeated_never [] = refl
repeated_never (b ∷ bits) = repeated_never bits

all_left : (n : ℕ) (bits : List Bool) → list_all (λ b. b) (replicate n true ++ bits) ≡ list_all (λ b. b) bits
all_left zero bits = refl
all_left (suc n) bits = all_left n bits

-- if some are not set, some are not
pub some_repeated : (size : ℕ) (bits : List Bool) → 0 < size → list_all (λ b. b) bits ≡ false → list_all (λ b. b) (repeated size bits) ≡ false
some_repeated zero bits some h = absurd (omega (arith, some))
some_repeated (suc size) [] some h = h
some_repeated (suc size) (true ∷ bits) some h = all_left size (repeated (suc size) bits) ∙ some_repeated (suc size) bits some h
some_repeated (suc size) (false ∷ bits) some h = refl

pub more_repeated : (size : ℕ) (mask : List ℕ) (next stop : ℕ) (old new : List Bool) → next ≤ stop → new ≡ old ++ repeated size (mask_bits mask next (stop - next))
    → old ≡ repeated size (mask_bits mask 0 next) → new ≡ repeated size (mask_bits mask 0 stop)
more_repeated size mask next stop old new order added was =
    let end : next + (stop - next) ≡ stop = omega (arith, order) in
    let begin : next ≡ 0 + next = omega arith in
    let bits : mask_bits mask 0 next ++ mask_bits mask next (stop - next) ≡ mask_bits mask 0 stop =
    ap (λ (k : ℕ). mask_bits mask 0 next ++ mask_bits mask k (stop - next)) begin ∙ sym (bits_append mask 0 next (stop - next)) ∙ ap (mask_bits mask 0) end in
    added ∙ ap (λ (bs : List Bool). bs ++ repeated size (mask_bits mask next (stop - next))) was
    ∙ sym (repeated_append size (mask_bits mask 0 next) (mask_bits mask next (stop - next))) ∙ ap (repeated size) bits

-- ---- the arrays

-- the items, as many as the lists have, under the mask of the lists
pub below_counted : (size : ℕ) (item : Column) (runs items : List SlotRun) → runs_cells item items ≡ flat_map (fixed_below size item) runs → length (runs_bits items) ≡ length (runs_bits runs) * size
below_counted size item runs items is =
    sym (cells_counted item items) ∙ ap length (is ∙ sym (runs_all size item runs))
    ∙ rows_length size (all_rows size item runs) (runs_sized size item runs) ∙ ap (λ (n : ℕ). n * size) (sym (all_rows_counted size item runs))
  where
    rows_length : (size : ℕ) (rows : List (List Cell)) → list_all (has_size size) rows ≡ true → length (all_of rows) ≡ length rows * size
    rows_length size [] h = omega arith
    rows_length size (row ∷ rows) h =
        let both = and_parts (has_size size row) (list_all (has_size size) rows) h in
        let own : length row ≡ size = eqb-true _ _ both.0 in
        let whole : suc (length rows) * size ≡ size + length rows * size = omega arith in
        length-append row (all_of rows) ∙ ap₂ (λ (m n : ℕ). m + n) own (rows_length size rows both.1) ∙ sym whole

-- the mask of the items, and their cells under it
pub item_masked : (size : ℕ) (item : Column) (mask below own : List ℕ) (slots : ℕ) (runs items : List SlotRun) → slots ≡ length (runs_bits runs) → slots_mask below runs ≡ masked_slots mask runs
    → runs_cells item items ≡ flat_map (fixed_below size item) runs → own ≡ bitmap_of (repeated size (bitmap_bits below slots)) → bitmap_bits own (slots * size) ≡ repeated size (bitmap_bits below slots)
    → IsMask own items × (masked_cells item own items ≡ flat_map (fixed_items size) (masked_cells (fixed_column size item) mask runs))
item_masked size item mask below own slots runs items count is cells exact bits =
    let size_is : length (runs_bits items) ≡ slots * size = below_counted size item runs items cells ∙ ap (λ (n : ℕ). n * size) (sym count) in
    let own_bits : slots_mask own items ≡ repeated size (bitmap_bits below slots) = ap (bitmap_bits own) size_is ∙ bits in
    let lists : bitmap_bits below slots ≡ masked_slots mask runs = ap (bitmap_bits below) count ∙ is in (
      exact ∙ ap bitmap_of (sym own_bits),
      ap₂ (λ (bs : List Bool) (xs : List Cell). masked bs xs) (own_bits ∙ ap (repeated size) lists) cells ∙ sym (items_masked size item mask runs),
    )

-- the node and the validity bitmap of lists of one size, and the arrays of their items
pub fixed_list_runs_are : (p q : PlainBatch) (size : ℕ) (item : Column) (mask : List ℕ) (runs : List SlotRun) (below : List Cell)
    → below ≡ flat_map (fixed_items size) (masked_cells (fixed_column size item) mask runs) → q ≡ with_run_slots p (masked_slots mask runs)
    → with_arrays q (built_at item below) ≡ with_arrays p (built_at (fixed_column size item) (masked_cells (fixed_column size item) mask runs))
fixed_list_runs_are p q size item mask runs below is slots =
    ap₂ (λ (x : PlainBatch) (cs : List Cell). with_arrays x (built_at item cs)) (slots ∙ masked_kind_slots p (fixed_lists size item) mask runs refl) is
    ∙ fixed_lists_are size item p (masked_cells (fixed_column size item) mask runs)
