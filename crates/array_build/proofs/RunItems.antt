-- The items of lists, and their offsets, of slots one after another.
use Rattle.std.specs.Prelude.{Some, nat_le, replicate}
use Rattle.std.specs.List.{flat_map, list_all, range_with_len}
use Rattle.std.proofs.Common.{◌≡◌, ℕ, zero, suc, ◌+◌, ◌-◌, ◌≤◌, ◌<◌, ◌++◌, Bool, true, false, List, [], ◌∷◌, length, refl, ap, ap₂, sym, ◌∙◌, arith, append_assoc, append-nil}
use Rattle.std.proofs.lemmas.Bool.{and_parts, and_from, leb-true, le-leb}
use Rattle.std.proofs.lemmas.List.Concat.{flat_map-append}
use Rattle.std.proofs.lemmas.List.Folds.{list_all-append}
use Rattle.std.proofs.lemmas.List.FromFn.{length-map-range_with_len}
use Rattle.arrow_schema.specs.Column.{Column, lists, large_lists}
use Rattle.batch_build.specs.laws.Arrays.{lists_are}
use Rattle.array_build.proofs.AsWritten.{no_byte_below, null_slot}
use Rattle.dictionary_codes.specs.laws.Repeated.{none_each}
use Rattle.array_build.proofs.RunArrays.{kind_slots}
use Rattle.batch_build.specs.Batch.{PlainBatch, built_at, with_arrays}
use Rattle.batch_build.specs.Nodes.{list_kind, with_buffer, with_slots}
use Rattle.array_build.specs.inner.RunItems.{AreItems, HasSlots, list_column, list_sizes, run_lists}
use Rattle.array_build.specs.inner.Runs.{is_as_written, is_run_as_written, kind_cells, offsets_width, slot_sizes, with_run_slots}
use Rattle.dictionary_codes.specs.Masks.{runs_bits}
use Rattle.columns.specs.Runs.{run_cells, runs_cells, is_run_sound, are_runs_sound}
use Rattle.columns.specs.declared.slot_runs.SlotRun.{SlotRun}
use Rattle.columns.specs.declared.slot_runs.SlotRun.TheVariants.{Slots, Nulls}
use Rattle.cells.specs.Cell.{Cell, null}
use Rattle.cells.specs.Dictionary.{item_list}
use Rattle.cells.specs.laws.Cells.{cells_listed}
use Rattle.columns.specs.Array.{Array, empty_array, slots_in, offsets_in, items_in}
use Rattle.columns.specs.Built.{list_offsets}
use Rattle.columns.specs.CellAt.{cell_at, kind_cell, cells_from, is_valid, number_at, span_cells, span_size, span_start}
use Rattle.columns.specs.Offsets.{width_of}
use Rattle.columns.specs.Sound.{is_sound, has_sound_children}
use Rattle.columns.specs.Tests.{are_few_offsets, are_unordered}
use Rattle.columns.specs.View.{view_array}
use Rattle.columns.specs.declared.numbers.OffsetWidth.{OffsetWidth}
use Rattle.columns.specs.declared.numbers.OffsetWidth.TheVariants.{Four, Eight}
use Rattle.columns.specs.declared.view.ArrayView.{ArrayView}
use Rattle.columns.specs.laws.Offsets.{offsets_ascend, spans_fit}
use Rattle.columns.specs.laws.SoundParts.{sound_buffer, sound_offsets, sound_children}
use Rattle.columns.specs.laws.Rows.{cells_from-append}

-- ---- lists that stand as they are written

-- what is known of a run of slots
pub record AreLists (width : OffsetWidth) (item : Column) (v : ArrayView) (from n : ℕ) : Type 0 where
  pub few : are_few_offsets (width_of width) (view_array v) ≡ false
  pub up : are_unordered (width_of width) (slots_in (items_in (view_array v))) (view_array v) ≡ false
  pub sound : is_sound item (items_in (view_array v)) ≡ true
  pub within : from + n ≤ slots_in (view_array v)
  pub written : list_all (is_as_written (list_kind width item) (view_array v)) (range_with_len from n) ≡ true

pub list_tests : (width : OffsetWidth) (item : Column) (a : Array) → is_sound (list_column width item) a ≡ true
    → (are_few_offsets (width_of width) a ≡ false) × ((are_unordered (width_of width) (slots_in (items_in a)) a ≡ false) × (is_sound item (items_in a) ≡ true))
unfolding is_sound has_sound_children
list_tests Four item a h = (sound_buffer (lists item) a h, (sound_offsets (lists item) a h, sound_children (lists item) a h))
list_tests Eight item a h = (sound_buffer (large_lists item) a h, (sound_offsets (large_lists item) a h, sound_children (large_lists item) a h))

pub are_lists : (width : OffsetWidth) (item : Column) (v : ArrayView) (from n : ℕ) (run : SlotRun) → run ≡ Slots v from n → is_run_sound (list_column width item) run ≡ true
    → is_run_as_written (list_kind width item) run ≡ true → AreLists width item v from n
are_lists width item v from n run is sound written =
    let sound_slots : is_run_sound (list_column width item) (Slots v from n) ≡ true = ap (is_run_sound (list_column width item)) (sym is) ∙ sound in
    let written_slots : is_run_as_written (list_kind width item) (Slots v from n) ≡ true = ap (is_run_as_written (list_kind width item)) (sym is) ∙ written in
    let parts = and_parts (is_sound (list_column width item) (view_array v)) (nat_le (from + n) (slots_in (view_array v))) sound_slots in
    let tests = list_tests width item (view_array v) parts.0 in
    record { few = tests.0; up = tests.1.0; sound = tests.1.1; within = leb-true _ _ parts.1; written = written_slots }

pub valid_items : (width : OffsetWidth) (item : Column) (a : Array) (i : ℕ) → is_valid a i ≡ true
    → item_list (cell_at (list_column width item) a i) ≡ span_cells (width_of width) (cell_at item (items_in a)) a i
unfolding cell_at kind_cell
valid_items Four item a i valid = rw valid (cells_listed (span_cells 4 (cell_at item (items_in a)) a i))
valid_items Eight item a i valid = rw valid (cells_listed (span_cells 8 (cell_at item (items_in a)) a i))

-- a list has the offsets of its width
list_width : (width : OffsetWidth) (item : Column) → offsets_width (list_kind width item) ≡ Some (width_of width)
list_width Four item = refl
list_width Eight item = refl

-- of a slot that is valid, or has no item
items_by : (b : Bool) (width : OffsetWidth) (item : Column) (a : Array) (i : ℕ) → is_as_written (list_kind width item) a i ≡ true → is_valid a i ≡ b
    → item_list (cell_at (list_column width item) a i) ≡ span_cells (width_of width) (cell_at item (items_in a)) a i
items_by true width item a i written valid = valid_items width item a i valid
items_by false width item a i written unset =
    let none : span_size (width_of width) a i ≡ 0 = no_byte_below (list_kind width item) (width_of width) a i (list_width width item) written unset in
    ap item_list (null_slot (list_kind width item) a i unset) ∙ sym (ap (cells_from (cell_at item (items_in a)) (span_start (width_of width) a i)) none)

slot_items : (width : OffsetWidth) (item : Column) (a : Array) (i : ℕ) → is_as_written (list_kind width item) a i ≡ true
    → item_list (cell_at (list_column width item) a i) ≡ span_cells (width_of width) (cell_at item (items_in a)) a i
slot_items width item a i written = items_by (is_valid a i) width item a i written refl

-- the items of slots are those between the first offset and the last
pub slots_items : (width : OffsetWidth) (item : Column) (a : Array) (from n : ℕ) → are_unordered (width_of width) (slots_in (items_in a)) a ≡ false → from + n ≤ slots_in a
    → list_all (is_as_written (list_kind width item) a) (range_with_len from n) ≡ true
    → flat_map item_list (cells_from (cell_at (list_column width item) a) from n)
    ≡ cells_from (cell_at item (items_in a)) (span_start (width_of width) a from) (number_at (width_of width) (offsets_in a) (from + n) - span_start (width_of width) a from)
slots_items width item a from zero up within written =
    let f : ℕ → ℕ = number_at (width_of width) (offsets_in a) in
    let end : f from ≡ f (from + 0) = (let e : from ≡ from + 0 = omega arith in ap f e) in
    let none : 0 ≡ f (from + 0) - f from = omega (arith, end) in
    ap (cells_from (cell_at item (items_in a)) (f from)) none
slots_items width item a from (suc n) up within written =
    let f : ℕ → ℕ = number_at (width_of width) (offsets_in a) in
    let g : ℕ → Cell = cell_at item (items_in a) in
    let both = and_parts (is_as_written (list_kind width item) a from) (list_all (is_as_written (list_kind width item) a) (range_with_len (from + 1) n)) written in
    let first : f from ≤ f (from + 1) = offsets_ascend (width_of width) (slots_in (items_in a)) a from 1 up (omega arith) (omega arith) in
    let others : f (from + 1) ≤ f (from + 1 + n) = offsets_ascend (width_of width) (slots_in (items_in a)) a (from + 1) n up (omega arith) (omega arith) in
    let end : f (from + 1 + n) ≡ f (from + suc n) = (let e : from + 1 + n ≡ from + suc n = omega arith in ap f e) in
    let next : f (from + 1) ≡ f from + (f (from + 1) - f from) = omega (arith, first) in
    let whole : (f (from + 1) - f from) + (f (from + 1 + n) - f (from + 1)) ≡ f (from + suc n) - f from = omega (arith, first, others, end) in
    ap₂ (λ (xs ys : List Cell). xs ++ ys) (slot_items width item a from both.0) (slots_items width item a (from + 1) n up (omega arith) both.1)
    ∙ ap (λ (s : ℕ). cells_from g (f from) (f (from + 1) - f from) ++ cells_from g s (f (from + 1 + n) - f (from + 1))) next
    ∙ sym (cells_from-append g (f from) (f (from + 1) - f from) (f (from + 1 + n) - f (from + 1)))
    ∙ ap (cells_from g (f from)) whole

pub item_found : (a : Array) (child : ArrayView) (from n : ℕ) → view_array child ≡ a → from + n ≤ slots_in a → HasSlots a from n (Slots child from n)
item_found a child from n same within =
    let most : from + n ≤ slots_in (view_array child) = (let slots = ap slots_in same in omega (arith, within, slots)) in
    record {
      cells = λ c. ap (λ (x : Array). cells_from (cell_at c x) from n) same;
      sound = λ c h. and_from _ _ (ap (is_sound c) same ∙ h) (le-leb _ _ most);
    }

pub item_absent : (a : Array) (from n : ℕ) → empty_array ≡ a → from + n ≤ slots_in a → HasSlots a from n (Nulls 0)
item_absent a from n none within =
    let short : 0 ≡ n = (let slots : 0 ≡ slots_in a = ap slots_in none in omega (arith, within, slots)) in
    record {
      cells = λ c. ap (cells_from (cell_at c a) from) short;
      sound = λ c h. refl;
    }

-- the span of a run lies within the items
pub span_within : (width : OffsetWidth) (item : Column) (v : ArrayView) (from n start size : ℕ) → AreLists width item v from n → (n ≡ 0 → ⊥) → start ≡ span_start (width_of width) (view_array v) from
    → size ≡ number_at (width_of width) (offsets_in (view_array v)) (from + n) - span_start (width_of width) (view_array v) from → start + size ≤ slots_in (items_in (view_array v))
span_within width item v from n start size are some begins sizes =
    let a : Array = view_array v in
    let some_slot : 0 < slots_in a = (let within = are.within in let filled : 0 < n = omega (arith, some) in omega (arith, within, filled)) in
    let fits = spans_fit (width_of width) (slots_in (items_in a)) a from n are.up some_slot are.within in
    omega (arith, fits, begins, sizes)

pub items_found : (width : OffsetWidth) (item : Column) (v : ArrayView) (from n start size : ℕ) (run part : SlotRun) → run ≡ Slots v from n → AreLists width item v from n
    → start ≡ span_start (width_of width) (view_array v) from
    → size ≡ number_at (width_of width) (offsets_in (view_array v)) (from + n) - span_start (width_of width) (view_array v) from
    → HasSlots (items_in (view_array v)) start size part → AreItems item_list item part (run_lists width item run)
items_found width item v from n start size run part is are begins sizes has = record {
  cells = has.cells item
      ∙ ap₂ (λ (s k : ℕ). cells_from (cell_at item (items_in (view_array v))) s k) begins sizes
      ∙ sym (slots_items width item (view_array v) from n are.up are.within are.written)
      ∙ ap (λ (r : SlotRun). flat_map item_list (run_lists width item r)) (sym is);
  sound = has.sound item are.sound;
}

pub items_of_none : (width : OffsetWidth) (item : Column) (v : ArrayView) (from n : ℕ) (run : SlotRun) → run ≡ Slots v from n → n ≡ 0 → AreItems item_list item (Nulls 0) (run_lists width item run)
items_of_none width item v from n run is none = record {
  cells = ap (λ (k : ℕ). flat_map item_list (cells_from (cell_at (list_column width item) (view_array v)) from k)) (sym none)
      ∙ ap (λ (r : SlotRun). flat_map item_list (run_lists width item r)) (sym is);
  sound = refl;
}

pub items_of_nulls : (width : OffsetWidth) (item : Column) (n : ℕ) (run : SlotRun) → run ≡ Nulls n → AreItems item_list item (Nulls 0) (run_lists width item run)
items_of_nulls width item n run is = record {
  cells = sym (none_each item_list null n refl) ∙ ap (λ (r : SlotRun). flat_map item_list (run_lists width item r)) (sym is);
  sound = refl;
}

-- ---- how many items each list has

slot_list_sizes : (width : OffsetWidth) (item : Column) (a : Array) (from n : ℕ) → list_all (is_as_written (list_kind width item) a) (range_with_len from n) ≡ true
    → list_sizes (cells_from (cell_at (list_column width item) a) from n) ≡ slot_sizes (width_of width) a from n
slot_list_sizes width item a from zero written = refl
slot_list_sizes width item a from (suc n) written =
    let both = and_parts (is_as_written (list_kind width item) a from) (list_all (is_as_written (list_kind width item) a) (range_with_len (from + 1) n)) written in
    let size : length (item_list (cell_at (list_column width item) a from)) ≡ span_size (width_of width) a from =
    ap length (slot_items width item a from both.0) ∙ length-map-range_with_len (cell_at item (items_in a)) (span_start (width_of width) a from) (span_size (width_of width) a from) in
    ap₂ (λ (k : ℕ) (ks : List ℕ). k ∷ ks) size (slot_list_sizes width item a (from + 1) n both.1)

pub run_list_sizes : (width : OffsetWidth) (item : Column) (v : ArrayView) (from n : ℕ) (run : SlotRun) → run ≡ Slots v from n → AreLists width item v from n
    → list_sizes (run_lists width item run) ≡ slot_sizes (width_of width) (view_array v) from n
run_list_sizes width item v from n run is are = ap (λ (r : SlotRun). list_sizes (run_lists width item r)) is ∙ slot_list_sizes width item (view_array v) from n are.written

null_sizes : (n : ℕ) → list_sizes (replicate n null) ≡ replicate n 0
null_sizes zero = refl
null_sizes (suc n) = ap (λ (ks : List ℕ). 0 ∷ ks) (null_sizes n)

pub null_list_sizes : (width : OffsetWidth) (item : Column) (n : ℕ) (run : SlotRun) → run ≡ Nulls n → list_sizes (run_lists width item run) ≡ replicate n 0
null_list_sizes width item n run is = ap (λ (r : SlotRun). list_sizes (run_lists width item r)) is ∙ null_sizes n

-- ---- the items of all runs

-- those of the runs so far, and of the others
pub record AreItemsLeft (test : SlotRun → Bool) (below : Cell → List Cell) (c item : Column) (all left parts : List SlotRun) : Type 0 where
  pub sound : are_runs_sound c left ≡ true
  pub tested : list_all test left ≡ true
  pub good : are_runs_sound item parts ≡ true
  pub cells : runs_cells item parts ++ flat_map below (runs_cells c left) ≡ flat_map below (runs_cells c all)

pub no_items_yet : (test : SlotRun → Bool) (below : Cell → List Cell) (c item : Column) (all : List SlotRun) → are_runs_sound c all ≡ true → list_all test all ≡ true
    → AreItemsLeft test below c item all all []
no_items_yet test below c item all sound tested = record { sound = sound; tested = tested; good = refl; cells = refl }

-- the run that a loop is at can be looked up, and passes the test
pub first_is : (test : SlotRun → Bool) (below : Cell → List Cell) (c item : Column) (all left rest parts : List SlotRun) (run : SlotRun) → left ≡ run ∷ rest → AreItemsLeft test below c item all left parts
    → (is_run_sound c run ≡ true) × (test run ≡ true)
first_is test below c item all left rest parts run here was = (
  (and_parts (is_run_sound c run) (are_runs_sound c rest) (ap (are_runs_sound c) (sym here) ∙ was.sound)).0,
  (and_parts (test run) (list_all test rest) (ap (list_all test) (sym here) ∙ was.tested)).0,
)

pub items_more : (test : SlotRun → Bool) (below : Cell → List Cell) (c item : Column) (all left rest old new : List SlotRun) (run part : SlotRun) → left ≡ run ∷ rest → new ≡ old ++ part ∷ []
    → AreItems below item part (run_cells c run) → AreItemsLeft test below c item all left old → AreItemsLeft test below c item all rest new
items_more test below c item all left rest old new run part here pushed own was =
    let others : List Cell = flat_map below (runs_cells c rest) in
    let one : runs_cells item (old ++ part ∷ []) ≡ runs_cells item old ++ run_cells item part =
    flat_map-append (run_cells item) old (part ∷ []) ∙ ap (λ (xs : List Cell). runs_cells item old ++ xs) (append-nil (run_cells item part)) in
    let both : flat_map below (runs_cells c left) ≡ flat_map below (run_cells c run) ++ others =
    ap (λ (rs : List SlotRun). flat_map below (runs_cells c rs)) here ∙ flat_map-append below (run_cells c run) (runs_cells c rest) in
    record {
      sound = (and_parts (is_run_sound c run) (are_runs_sound c rest) (ap (are_runs_sound c) (sym here) ∙ was.sound)).1;
      tested = (and_parts (test run) (list_all test rest) (ap (list_all test) (sym here) ∙ was.tested)).1;
      good = ap (are_runs_sound item) pushed ∙ list_all-append (is_run_sound item) old (part ∷ []) ∙ and_from _ _ was.good (and_from _ _ own.sound refl);
      cells = ap (λ (rs : List SlotRun). runs_cells item rs ++ others) pushed
          ∙ ap (λ (xs : List Cell). xs ++ others) one
          ∙ append_assoc (runs_cells item old) (run_cells item part) others
          ∙ ap (λ (xs : List Cell). runs_cells item old ++ (xs ++ others)) own.cells
          ∙ ap (λ (xs : List Cell). runs_cells item old ++ xs) (sym both)
          ∙ was.cells;
    }

pub all_items : (test : SlotRun → Bool) (below : Cell → List Cell) (c item : Column) (all left parts : List SlotRun) → left ≡ [] → AreItemsLeft test below c item all left parts → runs_cells item parts ≡ flat_map below (runs_cells c all)
all_items test below c item all left parts none was =
    let end : runs_cells item parts ++ flat_map below (runs_cells c left) ≡ runs_cells item parts =
    ap (λ (rs : List SlotRun). runs_cells item parts ++ flat_map below (runs_cells c rs)) none ∙ append-nil (runs_cells item parts) in
    sym end ∙ was.cells

-- ---- the arrays

list_has : (width : OffsetWidth) (item : Column) (p : PlainBatch) (runs : List SlotRun) → with_run_slots p (runs_bits runs) ≡ with_slots p (kind_cells (list_kind width item) runs)
list_has Four item p runs = kind_slots p (lists item) runs refl
list_has Eight item p runs = kind_slots p (large_lists item) runs refl

-- the node, the validity bitmap and the offsets of lists, and the arrays of their items
pub list_runs_are : (p q r : PlainBatch) (width : OffsetWidth) (item : Column) (runs items : List SlotRun) (offsets : List ℕ)
    → runs_cells item items ≡ flat_map item_list (kind_cells (list_kind width item) runs) → offsets ≡ list_offsets (width_of width) (kind_cells (list_kind width item) runs)
    → q ≡ with_run_slots p (runs_bits runs) → r ≡ with_buffer q offsets
    → with_arrays r (built_at item (runs_cells item items)) ≡ with_arrays p (built_at (list_column width item) (kind_cells (list_kind width item) runs))
list_runs_are p q r width item runs items offsets below ends slots buffer =
    let cells : List Cell = kind_cells (list_kind width item) runs in
    let batch : r ≡ with_buffer (with_slots p cells) (list_offsets (width_of width) cells) =
    buffer ∙ ap₂ (λ (x : PlainBatch) (b : List ℕ). with_buffer x b) (slots ∙ list_has width item p runs) ends in
    ap₂ (λ (x : PlainBatch) (cs : List Cell). with_arrays x (built_at item cs)) batch below ∙ lists_are width item p cells
