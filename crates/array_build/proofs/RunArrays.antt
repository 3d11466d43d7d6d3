-- The array of runs, as what is added to a batch for it.
use Rattle.std.specs.Prelude.{Some, None, replicate, if◌then◌else◌}
use Rattle.std.specs.List.{flat_map, list_all, range_with_len}
use Rattle.std.proofs.Common.{◌≡◌, ℕ, zero, suc, ◌+◌, Bool, true, false, List, [], ◌∷◌, ◌++◌, map, length, refl, ap, ap₂, sym, ◌∙◌, length-append}
use Rattle.std.proofs.lemmas.List.{length-map, length-replicate, map-append}
use Rattle.std.proofs.lemmas.List.Folds.{list_all-map}
use Rattle.std.proofs.lemmas.List.FromFn.{length-map-range_with_len}
use Rattle.arrow_schema.specs.Column.{Kind, nulls, booleans, integers, dates, timestamps, texts, large_texts, binaries, large_binaries, fixed_binaries, lists, large_lists, fixed_lists, structs}
use Rattle.batch_build.specs.laws.Arrays.{nulls_of, booleans_are, integers_are, dates_are, timestamps_are, fixed_binaries_are, texts_are, binaries_are}
use Rattle.array_build.proofs.AsWritten.{null_slot}
use Rattle.dictionary_codes.specs.laws.MaskedItems.{alike_kept, masked_append, masked_map, masked_twice}
use Rattle.dictionary_codes.specs.laws.Bitmaps.{bits_counted}
use Rattle.dictionary_codes.specs.laws.Repeated.{repeated_map, repeated_more}
use Rattle.batch_build.specs.Batch.{PlainBatch, built_at, plain_column, with_arrays}
use Rattle.dictionary_codes.specs.Masks.{joined, masked, masked_cells, slots_mask, bitmap_of, run_bits, runs_bits}
use Rattle.array_build.specs.inner.Masked.{masked_slots}
use Rattle.array_build.specs.inner.MaskedContents.{with_contents}
use Rattle.batch_build.specs.Nodes.{with_node, with_buffer, with_slots}
use Rattle.array_build.specs.inner.Runs.{fixed_value, fixed_width, kind_cells, run_values, runs_values, with_run_slots}
use Rattle.columns.specs.Runs.{run_cells}
use Rattle.columns.specs.declared.slot_runs.SlotRun.{SlotRun}
use Rattle.columns.specs.declared.slot_runs.SlotRun.TheVariants.{Slots, Nulls}
use Rattle.bitmap.specs.Bits.{bit, packed}
use Rattle.cells.specs.Cell.{Cell, null}
use Rattle.cells.specs.Nulls.{is_there}
use Rattle.columns.specs.Array.{Array, bits_in}
use Rattle.columns.specs.Built.{is_set, validity_of}
use Rattle.columns.specs.CellAt.{cell_at, kind_cell, cells_from, is_valid}
use Rattle.columns.specs.Tests.{unset_bits}
use Rattle.columns.specs.View.{view_array}
use Rattle.columns.specs.declared.numbers.OffsetWidth.TheVariants.{Four, Eight}
use Rattle.columns.specs.Offsets.{contents_width}

-- a type whose valid slots are no nulls
abbrev pub has_values : Kind → Bool
has_values nulls = false
has_values _ = true

there : (kind : Kind) (a : Array) (i : ℕ) → has_values kind ≡ true → is_valid a i ≡ true → is_there (cell_at (plain_column kind None) a i) ≡ true
unfolding cell_at kind_cell
there nulls a i has valid = cc
there booleans a i has valid = rw valid refl
there (integers bits signed) a i has valid = rw valid refl
there (dates unit) a i has valid = rw valid refl
there (timestamps unit timezone) a i has valid = rw valid refl
there texts a i has valid = rw valid refl
there large_texts a i has valid = rw valid refl
there binaries a i has valid = rw valid refl
there large_binaries a i has valid = rw valid refl
there (fixed_binaries width) a i has valid = rw valid refl
there (lists item) a i has valid = rw valid refl
there (large_lists item) a i has valid = rw valid refl
there (fixed_lists size item) a i has valid = rw valid refl
there (structs columns) a i has valid = rw valid refl

there_as : (b : Bool) (kind : Kind) (a : Array) (i : ℕ) → has_values kind ≡ true → is_valid a i ≡ b → is_there (cell_at (plain_column kind None) a i) ≡ b
there_as true kind a i has is = there kind a i has is
there_as false kind a i has is = ap is_there (null_slot kind a i is)

slots_there : (kind : Kind) (a : Array) (from n : ℕ) → has_values kind ≡ true → map is_there (cells_from (cell_at (plain_column kind None) a) from n) ≡ map (is_valid a) (range_with_len from n)
slots_there kind a from zero has = refl
slots_there kind a from (suc n) has = ap₂ (λ (b : Bool) (bs : List Bool). b ∷ bs) (there_as (is_valid a from) kind a from has refl) (slots_there kind a (from + 1) n has)

run_there : (kind : Kind) (run : SlotRun) → has_values kind ≡ true → map is_there (run_cells (plain_column kind None) run) ≡ run_bits run
run_there kind (Slots v from n) has = slots_there kind (view_array v) from n has
run_there kind (Nulls n) has = repeated_map is_there n null

pub runs_there : (kind : Kind) (runs : List SlotRun) → has_values kind ≡ true → map is_there (kind_cells kind runs) ≡ runs_bits runs
runs_there kind [] has = refl
runs_there kind (run ∷ runs) has =
    map-append is_there (run_cells (plain_column kind None) run) (kind_cells kind runs)
    ∙ ap₂ (λ (xs ys : List Bool). xs ++ ys) (run_there kind run has) (runs_there kind runs has)

bitmap_is : (cells : List Cell) (bits : List Bool) → map is_there cells ≡ bits → validity_of cells ≡ bitmap_of bits
bitmap_is cells bits is =
    let all : list_all is_there cells ≡ list_all (λ b. b) bits = sym (list_all-map (λ (b : Bool). b) is_there cells) ∙ ap (list_all (λ b. b)) is in
    rw (all, is) refl

-- the node and the validity bitmap of runs are those of their cells
pub slots_are : (p : PlainBatch) (cells : List Cell) (bits : List Bool) → map is_there cells ≡ bits → with_run_slots p bits ≡ with_slots p cells
slots_are p cells bits is =
    let map_is : bitmap_of bits ≡ validity_of cells = sym (bitmap_is cells bits is) in
    let count : length bits ≡ length cells = sym (ap length is) ∙ length-map cells is_there in
    λ i. with_buffer (with_node p (record { slots = count i; null_count = unset_bits (map_is i) (count i) })) (map_is i)

pub kind_slots : (p : PlainBatch) (kind : Kind) (runs : List SlotRun) → has_values kind ≡ true → with_run_slots p (runs_bits runs) ≡ with_slots p (kind_cells kind runs)
kind_slots p kind runs has = slots_are p (kind_cells kind runs) (runs_bits runs) (runs_there kind runs has)

-- and those under a mask
pub masked_kind_slots : (p : PlainBatch) (kind : Kind) (mask : List ℕ) (runs : List SlotRun) → has_values kind ≡ true
    → with_run_slots p (masked_slots mask runs) ≡ with_slots p (masked_cells (plain_column kind None) mask runs)
masked_kind_slots p kind mask runs has =
    slots_are p (masked_cells (plain_column kind None) mask runs) (masked_slots mask runs)
    (masked_map is_there null (slots_mask mask runs) (kind_cells kind runs) ∙ ap (λ (bits : List Bool). joined (slots_mask mask runs) bits) (runs_there kind runs has))

-- ---- how many cells there are

pub count_run : (kind : Kind) (run : SlotRun) → length (run_bits run) ≡ length (run_cells (plain_column kind None) run)
count_run kind (Slots v from n) = length-map-range_with_len (is_valid (view_array v)) from n ∙ sym (length-map-range_with_len (cell_at (plain_column kind None) (view_array v)) from n)
count_run kind (Nulls n) = length-replicate n false ∙ sym (length-replicate n null)

pub count_cells : (kind : Kind) (runs : List SlotRun) → length (runs_bits runs) ≡ length (kind_cells kind runs)
count_cells kind [] = refl
count_cells kind (run ∷ runs) =
    length-append (run_bits run) (runs_bits runs)
    ∙ ap₂ (λ (m n : ℕ). m + n) (count_run kind run) (count_cells kind runs)
    ∙ sym (length-append (run_cells (plain_column kind None) run) (kind_cells kind runs))

-- ---- the arrays

pub no_value : (b : Bool) → (if b then null else null) ≡ null
no_value true = refl
no_value false = refl

null_cells : (a : Array) (from n : ℕ) → cells_from (cell_at (plain_column nulls None) a) from n ≡ replicate n null
unfolding cell_at kind_cell
null_cells a from zero = refl
null_cells a from (suc n) = ap₂ (λ (x : Cell) (xs : List Cell). x ∷ xs) (no_value (is_valid a from)) (null_cells a (from + 1) n)

run_nulls : (run : SlotRun) → run_cells (plain_column nulls None) run ≡ replicate (length (run_bits run)) null
run_nulls (Slots v from n) = null_cells (view_array v) from n ∙ ap (λ (k : ℕ). replicate k null) (sym (length-map-range_with_len (is_valid (view_array v)) from n))
run_nulls (Nulls n) = ap (λ (k : ℕ). replicate k null) (sym (length-replicate n false))

all_nulls : (runs : List SlotRun) → kind_cells nulls runs ≡ replicate (length (runs_bits runs)) null
all_nulls [] = refl
all_nulls (run ∷ runs) =
    ap₂ (λ (xs ys : List Cell). xs ++ ys) (run_nulls run) (all_nulls runs)
    ∙ sym (repeated_more (length (run_bits run)) (length (runs_bits runs)) null)
    ∙ ap (λ (k : ℕ). replicate k null) (sym (length-append (run_bits run) (runs_bits runs)))

-- nulls stay what they are under a mask
masked_nulls : (mask : List ℕ) (runs : List SlotRun) → masked_cells (plain_column nulls None) mask runs ≡ kind_cells nulls runs
masked_nulls mask runs =
    ap (masked (slots_mask mask runs)) (all_nulls runs) ∙ alike_kept null (slots_mask mask runs) (length (runs_bits runs)) ∙ sym (all_nulls runs)

pub null_runs_are : (p : PlainBatch) (kind : Kind) (mask : List ℕ) (runs : List SlotRun) (slots : ℕ) → kind ≡ nulls → slots ≡ length (runs_bits runs)
    → with_node p (record { slots = slots; null_count = slots }) ≡ with_arrays p (built_at (plain_column kind None) (masked_cells (plain_column kind None) mask runs))
null_runs_are p kind mask runs slots is count =
    let all : slots ≡ length (kind_cells nulls runs) = count ∙ count_cells nulls runs in
    ap (λ (n : ℕ). with_node p (record { slots = n; null_count = n })) all
    ∙ nulls_of p (kind_cells nulls runs)
    ∙ ap (λ (cells : List Cell). with_arrays p (built_at (plain_column nulls None) cells)) (sym (masked_nulls mask runs))
    ∙ ap (λ (k : Kind). with_arrays p (built_at (plain_column k None) (masked_cells (plain_column k None) mask runs))) (sym is)

-- the bits of booleans that are valid
slot_set : (b : Bool) (a : Array) (i : ℕ) → is_valid a i ≡ b → is_set (cell_at (plain_column booleans None) a i) ≡ (if b then bit (bits_in a) i else false)
unfolding cell_at kind_cell
slot_set true a i valid = rw valid refl
slot_set false a i valid = rw valid refl

slots_set : (a : Array) (from n : ℕ)
    → map is_set (cells_from (cell_at (plain_column booleans None) a) from n) ≡ joined (map (is_valid a) (range_with_len from n)) (map (bit (bits_in a)) (range_with_len from n))
slots_set a from zero = refl
slots_set a from (suc n) = ap₂ (λ (b : Bool) (bs : List Bool). b ∷ bs) (slot_set (is_valid a from) a from refl) (slots_set a (from + 1) n)

run_set : (run : SlotRun) → map is_set (run_cells (plain_column booleans None) run) ≡ joined (run_bits run) (run_values run)
run_set (Slots v from n) = slots_set (view_array v) from n
run_set (Nulls n) = repeated_map is_set n null ∙ sym (alike_kept false (replicate n false) n)

values_counted : (run : SlotRun) → length (run_bits run) ≡ length (run_values run)
values_counted (Slots v from n) = length-map-range_with_len (is_valid (view_array v)) from n ∙ sym (length-map-range_with_len (bit (bits_in (view_array v))) from n)
values_counted (Nulls n) = refl

pub runs_values_counted : (runs : List SlotRun) → length (runs_bits runs) ≡ length (runs_values runs)
runs_values_counted [] = refl
runs_values_counted (run ∷ runs) =
    length-append (run_bits run) (runs_bits runs)
    ∙ ap₂ (λ (m n : ℕ). m + n) (values_counted run) (runs_values_counted runs)
    ∙ sym (length-append (run_values run) (runs_values runs))

runs_set : (runs : List SlotRun) → map is_set (kind_cells booleans runs) ≡ joined (runs_bits runs) (runs_values runs)
runs_set [] = refl
runs_set (run ∷ runs) =
    map-append is_set (run_cells (plain_column booleans None) run) (kind_cells booleans runs)
    ∙ ap₂ (λ (xs ys : List Bool). xs ++ ys) (run_set run) (runs_set runs)
    ∙ sym (masked_append false (run_bits run) (runs_bits runs) (run_values run) (runs_values runs) (values_counted run))

masked_set : (mask below : List ℕ) (runs : List SlotRun) → slots_mask below runs ≡ masked_slots mask runs
    → joined (slots_mask below runs) (runs_values runs) ≡ map is_set (masked_cells (plain_column booleans None) mask runs)
masked_set mask below runs is =
    ap (λ (bits : List Bool). joined bits (runs_values runs)) is
    ∙ sym (masked_twice false (slots_mask mask runs) (runs_bits runs) (runs_values runs) (bits_counted mask (length (runs_bits runs))))
    ∙ ap (λ (bits : List Bool). joined (slots_mask mask runs) bits) (sym (runs_set runs))
    ∙ sym (masked_map is_set null (slots_mask mask runs) (kind_cells booleans runs))

pub boolean_runs_are : (p : PlainBatch) (kind : Kind) (mask below : List ℕ) (runs : List SlotRun) → kind ≡ booleans → slots_mask below runs ≡ masked_slots mask runs
    → with_buffer (with_run_slots p (masked_slots mask runs)) (packed (joined (slots_mask below runs) (runs_values runs)))
    ≡ with_arrays p (built_at (plain_column kind None) (masked_cells (plain_column kind None) mask runs))
boolean_runs_are p kind mask below runs is bits =
    ap₂ (λ (q : PlainBatch) (bs : List Bool). with_buffer q (packed bs)) (masked_kind_slots p booleans mask runs refl) (masked_set mask below runs bits)
    ∙ booleans_are p (masked_cells (plain_column booleans None) mask runs)
    ∙ ap (λ (k : Kind). with_arrays p (built_at (plain_column k None) (masked_cells (plain_column k None) mask runs))) (sym is)

fixed_are : (p : PlainBatch) (kind : Kind) (width : ℕ) (cells : List Cell) → fixed_width kind ≡ Some width
    → with_buffer (with_slots p cells) (flat_map (fixed_value kind) cells) ≡ with_arrays p (built_at (plain_column kind None) cells)
fixed_are p (integers bits signed) width cells is = integers_are bits signed p cells
fixed_are p (dates unit) width cells is = dates_are unit p cells
fixed_are p (timestamps unit timezone) width cells is = timestamps_are unit timezone p cells
fixed_are p (fixed_binaries size) width cells is = fixed_binaries_are size p cells
fixed_are p nulls width cells is = cc
fixed_are p booleans width cells is = cc
fixed_are p texts width cells is = cc
fixed_are p large_texts width cells is = cc
fixed_are p binaries width cells is = cc
fixed_are p large_binaries width cells is = cc
fixed_are p (lists item) width cells is = cc
fixed_are p (large_lists item) width cells is = cc
fixed_are p (fixed_lists size item) width cells is = cc
fixed_are p (structs columns) width cells is = cc

fixed_has : (kind : Kind) (width : ℕ) → fixed_width kind ≡ Some width → has_values kind ≡ true
fixed_has nulls width is = cc
fixed_has booleans width is = refl
fixed_has (integers bits signed) width is = refl
fixed_has (dates unit) width is = refl
fixed_has (timestamps unit timezone) width is = refl
fixed_has texts width is = refl
fixed_has large_texts width is = refl
fixed_has binaries width is = refl
fixed_has large_binaries width is = refl
fixed_has (fixed_binaries size) width is = refl
fixed_has (lists item) width is = refl
fixed_has (large_lists item) width is = refl
fixed_has (fixed_lists size item) width is = refl
fixed_has (structs columns) width is = refl

pub fixed_runs_are : (p : PlainBatch) (kind : Kind) (width : ℕ) (mask : List ℕ) (runs : List SlotRun) → fixed_width kind ≡ Some width
    → with_buffer (with_run_slots p (masked_slots mask runs)) (flat_map (fixed_value kind) (masked_cells (plain_column kind None) mask runs))
    ≡ with_arrays p (built_at (plain_column kind None) (masked_cells (plain_column kind None) mask runs))
fixed_runs_are p kind width mask runs is =
    ap (λ (q : PlainBatch). with_buffer q (flat_map (fixed_value kind) (masked_cells (plain_column kind None) mask runs))) (masked_kind_slots p kind mask runs (fixed_has kind width is))
    ∙ fixed_are p kind width (masked_cells (plain_column kind None) mask runs) is

pub contents_are : (p : PlainBatch) (kind : Kind) (width : ℕ) (cells : List Cell) → contents_width kind ≡ Some width
    → with_contents width (with_slots p cells) cells ≡ with_arrays p (built_at (plain_column kind None) cells)
contents_are p texts width cells is = let e : 4 ≡ width = cc in rw (← e) (texts_are Four p cells)
contents_are p large_texts width cells is = let e : 8 ≡ width = cc in rw (← e) (texts_are Eight p cells)
contents_are p binaries width cells is = let e : 4 ≡ width = cc in rw (← e) (binaries_are Four p cells)
contents_are p large_binaries width cells is = let e : 8 ≡ width = cc in rw (← e) (binaries_are Eight p cells)
contents_are p nulls width cells is = cc
contents_are p booleans width cells is = cc
contents_are p (integers bits signed) width cells is = cc
contents_are p (dates unit) width cells is = cc
contents_are p (timestamps unit timezone) width cells is = cc
contents_are p (fixed_binaries size) width cells is = cc
contents_are p (lists item) width cells is = cc
contents_are p (large_lists item) width cells is = cc
contents_are p (fixed_lists size item) width cells is = cc
contents_are p (structs columns) width cells is = cc

pub contents_has : (kind : Kind) (width : ℕ) → contents_width kind ≡ Some width → has_values kind ≡ true
contents_has nulls width is = cc
contents_has booleans width is = refl
contents_has (integers bits signed) width is = refl
contents_has (dates unit) width is = refl
contents_has (timestamps unit timezone) width is = refl
contents_has texts width is = refl
contents_has large_texts width is = refl
contents_has binaries width is = refl
contents_has large_binaries width is = refl
contents_has (fixed_binaries size) width is = refl
contents_has (lists item) width is = refl
contents_has (large_lists item) width is = refl
contents_has (fixed_lists size item) width is = refl
contents_has (structs columns) width is = refl

pub content_runs_are : (p : PlainBatch) (kind : Kind) (width : ℕ) (runs : List SlotRun) → contents_width kind ≡ Some width
    → with_contents width (with_run_slots p (runs_bits runs)) (kind_cells kind runs) ≡ with_arrays p (built_at (plain_column kind None) (kind_cells kind runs))
content_runs_are p kind width runs is =
    ap (λ (q : PlainBatch). with_contents width q (kind_cells kind runs)) (kind_slots p kind runs (contents_has kind width is))
    ∙ contents_are p kind width (kind_cells kind runs) is

-- and under a mask
pub masked_contents_are : (p : PlainBatch) (kind : Kind) (width : ℕ) (mask : List ℕ) (runs : List SlotRun) → contents_width kind ≡ Some width
    → with_contents width (with_run_slots p (masked_slots mask runs)) (masked_cells (plain_column kind None) mask runs)
    ≡ with_arrays p (built_at (plain_column kind None) (masked_cells (plain_column kind None) mask runs))
masked_contents_are p kind width mask runs is =
    ap (λ (q : PlainBatch). with_contents width q (masked_cells (plain_column kind None) mask runs)) (masked_kind_slots p kind mask runs (contents_has kind width is))
    ∙ contents_are p kind width (masked_cells (plain_column kind None) mask runs) is
