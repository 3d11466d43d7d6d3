-- Lists under a mask, slot by slot and run by run.
use Rattle.std.specs.Prelude.{nat_le, if◌then◌else◌}
use Rattle.std.specs.List.{flat_map, list_all, range_with_len}
use Rattle.std.proofs.Common.{◌≡◌, ℕ, zero, suc, ◌+◌, ◌-◌, ◌≤◌, ◌<◌, ◌++◌, Bool, true, false, List, [], ◌∷◌, map, length, refl, ap, ap₂, sym, ◌∙◌, arith, append_assoc, append-nil}
use Rattle.std.proofs.lemmas.Bool.{and_parts, and_from, leb-true}
use Rattle.std.proofs.lemmas.List.Concat.{flat_map-append}
use Rattle.std.proofs.lemmas.List.FromFn.{length-map-range_with_len}
use Rattle.dictionary_codes.specs.laws.MaskedRuns.{mask_counted}
use Rattle.arrow_schema.specs.Column.{Column}
use Rattle.batch_build.specs.laws.Arrays.{lists_are}
use Rattle.array_build.proofs.AsWritten.{valid_runs_written}
use Rattle.array_build.proofs.MaskedContents.{IsNext, run_of_nulls_under}
use Rattle.dictionary_codes.specs.laws.Repeated.{none_each}
use Rattle.array_build.proofs.RunArrays.{has_values, masked_kind_slots}
use Rattle.array_build.proofs.RunItems.{AreLists, list_tests, slots_items, valid_items}
use Rattle.dictionary_codes.specs.laws.SlotCounts.{slots_counted}
use Rattle.batch_build.specs.Batch.{PlainBatch, built_at, with_arrays}
use Rattle.array_build.specs.inner.Masked.{are_below, masked_kind, masked_slots}
use Rattle.dictionary_codes.specs.Masks.{mask_bits, masked, run_bits}
use Rattle.array_build.specs.inner.MaskedContents.{masked_sizes, run_under, runs_under}
use Rattle.array_build.specs.inner.MaskedLists.{AreValidUnder, lists_under}
use Rattle.batch_build.specs.Nodes.{list_kind, with_buffer, with_slots}
use Rattle.array_build.specs.inner.RunItems.{HasSlots, list_column, list_sizes, run_lists}
use Rattle.array_build.specs.inner.Runs.{with_run_slots}
use Rattle.bitmap.specs.Bits.{bit}
use Rattle.cells.specs.Cell.{Cell, null}
use Rattle.cells.specs.Dictionary.{item_list}
use Rattle.columns.specs.Array.{Array, items_in, offsets_in, slots_in}
use Rattle.columns.specs.Built.{list_offsets}
use Rattle.columns.specs.CellAt.{cell_at, cells_from, is_valid, number_at, span_size, span_start}
use Rattle.columns.specs.Offsets.{width_of}
use Rattle.columns.specs.Runs.{are_runs_sound, is_run_sound, run_cells, runs_cells}
use Rattle.columns.specs.Sound.{is_sound}
use Rattle.columns.specs.View.{view_array}
use Rattle.columns.specs.declared.numbers.OffsetWidth.{OffsetWidth}
use Rattle.columns.specs.declared.numbers.OffsetWidth.TheVariants.{Four, Eight}
use Rattle.columns.specs.declared.slot_runs.SlotRun.{SlotRun}
use Rattle.columns.specs.declared.slot_runs.SlotRun.TheVariants.{Slots, Nulls}
use Rattle.columns.specs.declared.view.ArrayView.{ArrayView}
use Rattle.columns.specs.laws.Rows.{cells_from-append}
use Rattle.facts.specs.laws.Lists.{all_pushed, flat_map-push}

pub list_values : (width : OffsetWidth) (item : Column) → has_values (list_kind width item) ≡ true
list_values Four item = refl
list_values Eight item = refl

-- ---- slots in a row

abbrev by_bits : (h : ℕ → Cell) → (set : ℕ → Bool) → (p i n : ℕ) → List Cell
by_bits h set p i n = flat_map item_list (masked (map set (range_with_len i n)) (cells_from h p n))

-- lists whose bits are alike are there, or are not
alike_lists : (h : ℕ → Cell) (b : Bool) (set : ℕ → Bool) (p i k left : ℕ) → ((j : ℕ) → i ≤ j → j < i + k → set j ≡ b)
    → by_bits h set p i (k + left) ≡ (if b then flat_map item_list (cells_from h p k) else []) ++ by_bits h set (p + k) (i + k) left
alike_lists h b set p i zero left alike =
    let place : p + 0 ≡ p = omega arith in
    let first : i + 0 ≡ i = omega arith in
    let count : 0 + left ≡ left = omega arith in
    ap (λ (n : ℕ). by_bits h set p i n) count
    ∙ sym (ap₂ (λ (q j : ℕ). by_bits h set q j left) place first)
    ∙ ap (λ (xs : List Cell). xs ++ by_bits h set (p + 0) (i + 0) left) (sym (nothing b))
  where
    nothing : (x : Bool) → (if x then flat_map item_list (cells_from h p 0) else []) ≡ []
    nothing true = refl
    nothing false = refl
alike_lists h b set p i (suc k) left alike =
    let place : p + suc k ≡ p + 1 + k = omega arith in
    let first : i + suc k ≡ i + 1 + k = omega arith in
    let count : suc k + left ≡ suc (k + left) = omega arith in
    let others : List Cell = by_bits h set (p + 1 + k) (i + 1 + k) left in
    ap (λ (n : ℕ). by_bits h set p i n) count
    ∙ ap₂ (λ (x : Bool) (xs : List Cell). item_list (if x then h p else null) ++ xs) (alike i (omega arith) (omega arith))
    (alike_lists h b set (p + 1) (i + 1) k left (λ j low high. alike j (omega (arith, low)) (omega (arith, high))))
    ∙ joined b others
    ∙ sym (ap₂ (λ (q j : ℕ). (if b then flat_map item_list (cells_from h p (suc k)) else []) ++ by_bits h set q j left) place first)
  where
    joined : (x : Bool) (rest : List Cell)
        → item_list (if x then h p else null) ++ ((if x then flat_map item_list (cells_from h (p + 1) k) else []) ++ rest) ≡ (if x then flat_map item_list (cells_from h p (suc k)) else []) ++ rest
    joined true rest = sym (append_assoc (item_list (h p)) (flat_map item_list (cells_from h (p + 1) k)) rest)
    joined false rest = refl

-- the items of bits that are alike, and those of the bits behind them
pub next_lists : (h : ℕ → Cell) (mask : List ℕ) (from at i stop to : ℕ) → at ≤ i → i ≤ stop → stop ≤ to → ((j : ℕ) → i ≤ j → j < stop → bit mask j ≡ bit mask i)
    → lists_under h mask (from + (i - at)) i (to - i)
    ≡ (if bit mask i then flat_map item_list (cells_from h (from + (i - at)) (stop - i)) else []) ++ lists_under h mask (from + (stop - at)) stop (to - stop)
next_lists h mask from at i stop to low next high alike =
    let count : to - i ≡ (stop - i) + (to - stop) = omega arith in
    let place : from + (i - at) + (stop - i) ≡ from + (stop - at) = omega arith in
    let end : i + (stop - i) ≡ stop = omega arith in
    ap (λ (n : ℕ). lists_under h mask (from + (i - at)) i n) count
    ∙ alike_lists h (bit mask i) (bit mask) (from + (i - at)) i (stop - i) (to - stop) (λ j begins ends. alike j begins (omega (arith, ends, end)))
    ∙ ap₂ (λ (p j : ℕ). (if bit mask i then flat_map item_list (cells_from h (from + (i - at)) (stop - i)) else []) ++ lists_under h mask p j (to - stop)) place end

-- ---- bits that are set at valid slots

impossible : (b : Bool) → false ≡ true → b ≡ true
impossible b h = cc

below_each : (p q : ℕ → Bool) (at from n : ℕ) → are_below (map p (range_with_len at n)) (map q (range_with_len from n)) ≡ true → (j : ℕ) → j < n → p (at + j) ≡ true → q (from + j) ≡ true
below_each p q at from zero h j lt set = absurd (omega (arith, lt))
below_each p q at from (suc n) h j lt set = by (λ g k low own. below_each p q (at + 1) (from + 1) n g k low own) (p at) refl h j lt set
  where
    by : (are_below (map p (range_with_len (at + 1) n)) (map q (range_with_len (from + 1) n)) ≡ true → (k : ℕ) → k < n → p (at + 1 + k) ≡ true → q (from + 1 + k) ≡ true)
        → (b : Bool) → p at ≡ b → are_below (b ∷ map p (range_with_len (at + 1) n)) (q from ∷ map q (range_with_len (from + 1) n)) ≡ true
        → (j : ℕ) → j < suc n → p (at + j) ≡ true → q (from + j) ≡ true
    by later true is g zero low own =
        let here : from + 0 ≡ from = omega arith in
        ap q here ∙ (and_parts (q from) (are_below (map p (range_with_len (at + 1) n)) (map q (range_with_len (from + 1) n))) g).0
    by later false is g zero low own =
        let here : at + 0 ≡ at = omega arith in
        impossible (q (from + 0)) (sym is ∙ ap p (sym here) ∙ own)
    by later true is g (suc j) low own =
        let place : at + 1 + j ≡ at + suc j = omega arith in
        let slot : from + suc j ≡ from + 1 + j = omega arith in
        ap q slot ∙ later (and_parts (q from) (are_below (map p (range_with_len (at + 1) n)) (map q (range_with_len (from + 1) n))) g).1 j (omega (arith, low)) (ap p place ∙ own)
    by later false is g (suc j) low own =
        let place : at + 1 + j ≡ at + suc j = omega arith in
        let slot : from + suc j ≡ from + 1 + j = omega arith in
        ap q slot ∙ later g j (omega (arith, low)) (ap p place ∙ own)

all_in_range : (q : ℕ → Bool) (p k : ℕ) → ((j : ℕ) → j < k → q (p + j) ≡ true) → list_all q (range_with_len p k) ≡ true
all_in_range q p zero each = refl
all_in_range q p (suc k) each =
    let here : p + 0 ≡ p = omega arith in
    and_from (q p) (list_all q (range_with_len (p + 1) k)) (ap q (sym here) ∙ each 0 (omega arith))
    (all_in_range q (p + 1) k (λ j lt. (let next : p + 1 + j ≡ p + suc j = omega arith in ap q next ∙ each (suc j) (omega (arith, lt)))))

-- slots whose bits are all set
pub stretch_valid : (a : Array) (mask : List ℕ) (from at to i stop : ℕ) → AreValidUnder a mask from at to → at ≤ i → i ≤ stop → stop ≤ to → ((j : ℕ) → i ≤ j → j < stop → bit mask j ≡ bit mask i)
    → bit mask i ≡ true → list_all (is_valid a) (range_with_len (from + (i - at)) (stop - i)) ≡ true
stretch_valid a mask from at to i stop under low next high alike set =
    all_in_range (is_valid a) (from + (i - at)) (stop - i)
    (λ j lt. (let here : from + (i - at) + j ≡ from + (i + j - at) = omega arith in
    ap (is_valid a) here ∙ under (i + j) (omega arith) (omega (arith, lt)) (alike (i + j) (omega arith) (omega (arith, lt)) ∙ set)))

pub stretch_lists : (width : OffsetWidth) (item : Column) (v : ArrayView) (from n : ℕ) → is_sound (list_column width item) (view_array v) ≡ true → from + n ≤ slots_in (view_array v)
    → list_all (is_valid (view_array v)) (range_with_len from n) ≡ true → AreLists width item v from n
stretch_lists width item v from n sound within valid =
    let tests = list_tests width item (view_array v) sound in
    record {
      few = tests.0;
      up = tests.1.0;
      sound = tests.1.1;
      within = within;
      written = (and_parts _ true (valid_runs_written (list_kind width item) (Slots v from n ∷ []) (and_from _ true valid refl))).0;
    }

-- the items of such slots stand in a row
pub stretch_items : (width : OffsetWidth) (item : Column) (v : ArrayView) (from n start size : ℕ) → AreLists width item v from n → start ≡ span_start (width_of width) (view_array v) from
    → size ≡ number_at (width_of width) (offsets_in (view_array v)) (from + n) - span_start (width_of width) (view_array v) from
    → cells_from (cell_at item (items_in (view_array v))) start size ≡ flat_map item_list (cells_from (cell_at (list_column width item) (view_array v)) from n)
stretch_items width item v from n start size are begins sizes =
    ap₂ (λ (s k : ℕ). cells_from (cell_at item (items_in (view_array v))) s k) begins sizes
    ∙ sym (slots_items width item (view_array v) from n are.up are.within are.written)

-- ---- items that are added

pub run_added : (item : Column) (a : Array) (start len : ℕ) (old new : List SlotRun) (part : SlotRun) → new ≡ old ++ part ∷ [] → HasSlots a start len part
    → runs_cells item new ≡ runs_cells item old ++ cells_from (cell_at item a) start len
run_added item a start len old new part pushed has =
    ap (runs_cells item) pushed ∙ flat_map-push (run_cells item) old part ∙ ap (λ (cells : List Cell). runs_cells item old ++ cells) (has.cells item)

pub run_sound : (item : Column) (a : Array) (start len : ℕ) (old new : List SlotRun) (part : SlotRun) → new ≡ old ++ part ∷ [] → HasSlots a start len part → is_sound item a ≡ true
    → are_runs_sound item old ≡ true → are_runs_sound item new ≡ true
run_sound item a start len old new part pushed has sound good =
    ap (are_runs_sound item) pushed ∙ all_pushed (is_run_sound item) old part good (has.sound item sound)

pub nothing_added : (h : ℕ → Cell) (start len : ℕ) (old : List Cell) → len ≡ 0 → old ≡ old ++ cells_from h start len
nothing_added h start len old none = sym (ap (λ (n : ℕ). old ++ cells_from h start n) none ∙ append-nil old)

-- items that stand in a row with others
pub joined_items : (h : ℕ → Cell) (start len from count : ℕ) (old : List Cell) → from ≡ start + len → old ++ cells_from h start (len + count) ≡ (old ++ cells_from h start len) ++ cells_from h from count
joined_items h start len from count old next =
    ap (λ (cells : List Cell). old ++ cells) (cells_from-append h start len count ∙ ap (λ (s : ℕ). cells_from h start len ++ cells_from h s count) (sym next))
    ∙ sym (append_assoc old (cells_from h start len) (cells_from h from count))

-- how many items each list has by its bit
lists_sizes : (width : OffsetWidth) (item : Column) (a : Array) (bits : List Bool) (from n : ℕ) → length bits ≡ n → are_below bits (map (is_valid a) (range_with_len from n)) ≡ true
    → list_sizes (masked bits (cells_from (cell_at (list_column width item) a) from n)) ≡ masked_sizes (width_of width) a from bits
lists_sizes width item a [] from zero len h = refl
lists_sizes width item a [] from (suc n) len h = absurd (omega (arith, len))
lists_sizes width item a (b ∷ bits) from zero len h = absurd (omega (arith, len))
lists_sizes width item a (true ∷ bits) from (suc n) len h =
    let both = and_parts (is_valid a from) (are_below bits (map (is_valid a) (range_with_len (from + 1) n))) h in
    ap₂ (λ (k : ℕ) (ks : List ℕ). k ∷ ks)
    (ap length (valid_items width item a from both.0) ∙ length-map-range_with_len (cell_at item (items_in a)) (span_start (width_of width) a from) (span_size (width_of width) a from))
    (lists_sizes width item a bits (from + 1) n (omega (arith, len)) both.1)
lists_sizes width item a (false ∷ bits) from (suc n) len h = ap (λ (ks : List ℕ). 0 ∷ ks) (lists_sizes width item a bits (from + 1) n (omega (arith, len)) h)

-- ---- runs

-- what is known of a run of slots under the bits of a mask
pub record AreListsUnder (width : OffsetWidth) (item : Column) (mask : List ℕ) (at : ℕ) (v : ArrayView) (from n : ℕ) (run : SlotRun) : Type 0 where
  pub sound : is_sound (list_column width item) (view_array v) ≡ true
  pub within : from + (at + n - at) ≤ slots_in (view_array v)
  pub slots : from + n ≤ slots_in (view_array v)
  pub count : length (run_bits run) ≡ n
  pub valid : AreValidUnder (view_array v) mask from at (at + n)
  pub sizes : list_sizes (run_under (list_kind width item) mask at run) ≡ masked_sizes (width_of width) (view_array v) from (mask_bits mask at n)
  pub items : flat_map item_list (run_under (list_kind width item) mask at run) ≡ lists_under (cell_at (list_column width item) (view_array v)) mask from at (at + n - at)

pub run_lists_under : (width : OffsetWidth) (item : Column) (mask : List ℕ) (at : ℕ) (v : ArrayView) (from n : ℕ) (run : SlotRun) → run ≡ Slots v from n
    → is_run_sound (list_column width item) run ≡ true → are_below (mask_bits mask at (length (run_bits run))) (run_bits run) ≡ true → AreListsUnder width item mask at v from n run
run_lists_under width item mask at v from n run is sound below =
    let a : Array = view_array v in
    let sound_slots : is_run_sound (list_column width item) (Slots v from n) ≡ true = ap (is_run_sound (list_column width item)) (sym is) ∙ sound in
    let parts = and_parts (is_sound (list_column width item) a) (nat_le (from + n) (slots_in a)) sound_slots in
    let within : from + n ≤ slots_in a = leb-true (from + n) (slots_in a) parts.1 in
    let same : at + n - at ≡ n = omega arith in
    let many : length (run_bits run) ≡ n = slots_counted v from n run is in
    let own : are_below (mask_bits mask at n) (map (is_valid a) (range_with_len from n)) ≡ true
    = sym (ap₂ (λ (k : ℕ) (r : SlotRun). are_below (mask_bits mask at k) (run_bits r)) many is) ∙ below in
    record {
      sound = parts.0;
      within = omega (arith, within, same);
      slots = within;
      count = many;
      valid = λ j low high set.
          (let here : at + (j - at) ≡ j = omega (arith, low) in
          below_each (bit mask) (is_valid a) at from n own (j - at) (omega (arith, low, high)) (ap (bit mask) here ∙ set));
      sizes =
          ap₂ (λ (k : ℕ) (r : SlotRun). list_sizes (masked (mask_bits mask at k) (run_lists width item r))) many is
          ∙ lists_sizes width item a (mask_bits mask at n) from n (mask_counted mask at n) own;
      items =
          ap₂ (λ (k : ℕ) (r : SlotRun). flat_map item_list (masked (mask_bits mask at k) (run_lists width item r))) many is
          ∙ ap (λ (k : ℕ). flat_map item_list (masked (mask_bits mask at k) (cells_from (cell_at (list_column width item) a) from n))) (sym same)
          ∙ ap (λ (k : ℕ). flat_map item_list (masked (mask_bits mask at (at + n - at)) (cells_from (cell_at (list_column width item) a) from k))) (sym same);
    }

pub nulls_have_none : (width : OffsetWidth) (item : Column) (mask : List ℕ) (at n : ℕ) (run : SlotRun) → run ≡ Nulls n → flat_map item_list (run_under (list_kind width item) mask at run) ≡ []
nulls_have_none width item mask at n run is =
    ap (flat_map item_list) (run_of_nulls_under (list_kind width item) mask at n run is)
    ∙ ap (λ (r : SlotRun). flat_map item_list (run_lists width item r)) is ∙ none_each item_list null n refl

-- ---- runs one after another

-- the items of the run that a loop is at, and of the others
pub next_items : (width : OffsetWidth) (item : Column) (mask : List ℕ) (at : ℕ) (runs : List SlotRun) (run : SlotRun) (others : List SlotRun) → IsNext (list_kind width item) mask at runs run others
    → flat_map item_list (runs_under (list_kind width item) mask at runs)
    ≡ flat_map item_list (run_under (list_kind width item) mask at run) ++ flat_map item_list (runs_under (list_kind width item) mask (at + length (run_bits run)) others)
next_items width item mask at runs run others is =
    ap (flat_map item_list) is.cells
    ∙ flat_map-append item_list (run_under (list_kind width item) mask at run) (runs_under (list_kind width item) mask (at + length (run_bits run)) others)

-- ---- the arrays

pub masked_list_runs_are : (p r : PlainBatch) (width : OffsetWidth) (item : Column) (mask : List ℕ) (runs items : List SlotRun)
    → runs_cells item items ≡ flat_map item_list (masked_kind (list_kind width item) mask runs)
    → r ≡ with_buffer (with_run_slots p (masked_slots mask runs)) (list_offsets (width_of width) (masked_kind (list_kind width item) mask runs))
    → with_arrays r (built_at item (runs_cells item items)) ≡ with_arrays p (built_at (list_column width item) (masked_kind (list_kind width item) mask runs))
masked_list_runs_are p r width item mask runs items below batch =
    let cells : List Cell = masked_kind (list_kind width item) mask runs in
    let whole : r ≡ with_buffer (with_slots p cells) (list_offsets (width_of width) cells)
    = batch ∙ ap (λ (x : PlainBatch). with_buffer x (list_offsets (width_of width) cells)) (masked_kind_slots p (list_kind width item) mask runs (list_values width item)) in
    ap₂ (λ (x : PlainBatch) (cs : List Cell). with_arrays x (built_at item cs)) whole below ∙ lists_are width item p cells
