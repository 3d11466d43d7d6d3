-- The bytes of values of one width, of slots one after another.
use Rattle.std.specs.Prelude.{Some, None, not, ◌&&◌, nat_le, replicate}
use Rattle.std.specs.List.{flat_map, list_all, range_with_len}
use Rattle.std.proofs.Common.{◌≡◌, ℕ, zero, suc, ◌+◌, ◌*◌, ◌/◌, ◌≤◌, ◌<◌, ◌++◌, Bool, true, false, List, length, take, drop, refl, ap, ap₂, sym, ◌∙◌, arith, length-drop, mul-le-mul_right}
use Rattle.std.proofs.lemmas.Bool.{and_parts, ltb-false, leb-true, not-true}
use Rattle.std.proofs.lemmas.List.{drop-drop, length-take-le}
use Rattle.std.proofs.Math.Seq.{take-add}
use Rattle.arrow_schema.specs.Column.{Kind, nulls, booleans, integers, dates, timestamps, texts, large_texts, binaries, large_binaries, fixed_binaries, lists, large_lists, fixed_lists, structs}
use Rattle.array_build.proofs.AsWritten.{null_slot, zeros_are, zeros_below}
use Rattle.array_build.proofs.Numbers.{integer_again}
use Rattle.dictionary_codes.specs.laws.Repeated.{repeated_each}
use Rattle.batch_build.specs.Batch.{plain_column}
use Rattle.array_build.specs.inner.Runs.{fixed_value, fixed_width, is_as_written, is_run_as_written}
use Rattle.columns.specs.Runs.{is_run_sound, run_cells}
use Rattle.columns.specs.declared.slot_runs.SlotRun.{SlotRun}
use Rattle.columns.specs.declared.slot_runs.SlotRun.TheVariants.{Slots, Nulls}
use Rattle.cells.specs.Cell.{Cell, null, number}
use Rattle.cells.specs.Fit.{date_bits}
use Rattle.columns.specs.Array.{Array, slots_in, values_in}
use Rattle.columns.specs.Built.{integer_bytes}
use Rattle.columns.specs.CellAt.{cell_at, kind_cell, cells_from, integer_at, is_valid, value_at}
use Rattle.columns.specs.Sound.{is_sound, has_sound_children}
use Rattle.columns.specs.Tests.{are_few, has_short_buffer, has_short_validity, has_bad_offsets}
use Rattle.columns.specs.View.{view_array}
use Rattle.columns.specs.declared.view.ArrayView.{ArrayView}
use Rattle.facts.specs.Bytes.{AreBytes}
use Rattle.facts.specs.laws.Bytes.{drop-bytes}

abbrev pub plain_cell : Kind → Array → ℕ → Cell
plain_cell kind a i = cell_at (plain_column kind None) a i

-- slots of which each has its bytes among the values
many : (g : Cell → List ℕ) (cell : ℕ → Cell) (valid : ℕ → Bool) (w slots : ℕ) (vs : List ℕ)
    → ((i : ℕ) → i < slots → valid i ≡ true → g (cell i) ≡ take w (drop (i * w) vs))
    → (from n : ℕ) → from + n ≤ slots → list_all valid (range_with_len from n) ≡ true → flat_map g (cells_from cell from n) ≡ take (n * w) (drop (from * w) vs)
many g cell valid w slots vs one from zero fits h = let none : 0 * w ≡ 0 = omega arith in rw none refl
many g cell valid w slots vs one from (suc n) fits h =
    let parts = and_parts (valid from) (list_all valid (range_with_len (from + 1) n)) h in
    let first = one from (omega arith) parts.0 in
    let rest = many g cell valid w slots vs one (from + 1) n (omega arith) parts.1 in
    let next : (from + 1) * w ≡ from * w + w = omega arith in
    let more : drop ((from + 1) * w) vs ≡ drop w (drop (from * w) vs) = ap (λ (k : ℕ). drop k vs) next ∙ sym (drop-drop w (from * w) vs) in
    let size : w + n * w ≡ suc n * w = omega arith in
    ap₂ (λ (xs ys : List ℕ). xs ++ ys) first (rest ∙ ap (λ (xs : List ℕ). take (n * w) xs) more)
    ∙ sym (take-add w (n * w) (drop (from * w) vs))
    ∙ ap (λ (k : ℕ). take k (drop (from * w) vs)) size

-- there is room for one more value after those before a slot
pub room : (i slots w : ℕ) (vs : List ℕ) → slots * w ≤ length vs → i < slots → w ≤ length (drop (i * w) vs)
room i slots w vs long lt =
    let left = length-drop (i * w) vs in
    let most : (i + 1) * w ≤ slots * w = mul-le-mul_right w (omega arith) in
    omega (arith, left, most, long)

pub null_value : (kind : Kind) (width : ℕ) → fixed_width kind ≡ Some width → fixed_value kind null ≡ replicate width 0
null_value (integers bits signed) width is = let e : bits / 8 ≡ width = cc in rw e refl
null_value (dates unit) width is = let e : date_bits unit / 8 ≡ width = cc in rw e refl
null_value (timestamps unit timezone) width is = let e : 8 ≡ width = cc in rw (← e) refl
null_value (fixed_binaries size) width is = let e : size ≡ width = cc in rw e refl
null_value nulls width is = cc
null_value booleans width is = cc
null_value texts width is = cc
null_value large_texts width is = cc
null_value binaries width is = cc
null_value large_binaries width is = cc
null_value (lists item) width is = cc
null_value (large_lists item) width is = cc
null_value (fixed_lists size item) width is = cc
null_value (structs columns) width is = cc

module _ (a : Array) (small : AreBytes (values_in a)) where
  integer_slot : (w : ℕ) (signed : Bool) (i : ℕ) → slots_in a * w ≤ length (values_in a) → i < slots_in a
      → integer_bytes w (number (integer_at w signed (values_in a) i)) ≡ take w (drop (i * w) (values_in a))
  integer_slot w signed i long lt = integer_again w signed (drop (i * w) (values_in a)) (drop-bytes (i * w) (values_in a) small) (room i (slots_in a) w (values_in a) long lt)

  -- the bytes of a slot that is valid
  pub one : (kind : Kind) (width : ℕ) → fixed_width kind ≡ Some width → slots_in a * width ≤ length (values_in a)
      → (i : ℕ) → i < slots_in a → is_valid a i ≡ true → fixed_value kind (plain_cell kind a i) ≡ take width (drop (i * width) (values_in a))
  unfolding cell_at kind_cell
  one (integers bits signed) width is long i lt valid = let e : bits / 8 ≡ width = cc in rw (valid, e) (integer_slot width signed i long lt)
  one (dates unit) width is long i lt valid = let e : date_bits unit / 8 ≡ width = cc in rw (valid, e) (integer_slot width true i long lt)
  one (timestamps unit timezone) width is long i lt valid = let e : 8 ≡ width = cc in rw (valid, ← e) (integer_slot 8 true i (rw (← e) at long) lt)
  one (fixed_binaries size) width is long i lt valid = let e : size ≡ width = cc in rw (valid, e) refl
  one nulls width is long i lt valid = cc
  one booleans width is long i lt valid = cc
  one texts width is long i lt valid = cc
  one large_texts width is long i lt valid = cc
  one binaries width is long i lt valid = cc
  one large_binaries width is long i lt valid = cc
  one (lists item) width is long i lt valid = cc
  one (large_lists item) width is long i lt valid = cc
  one (fixed_lists size item) width is long i lt valid = cc
  one (structs columns) width is long i lt valid = cc

  -- and of one that stands as it is written
  one_as : (b : Bool) (kind : Kind) (width : ℕ) → fixed_width kind ≡ Some width → slots_in a * width ≤ length (values_in a)
      → (i : ℕ) → i < slots_in a → is_as_written kind a i ≡ true → is_valid a i ≡ b → fixed_value kind (plain_cell kind a i) ≡ value_at width (values_in a) i
  one_as true kind width is long i lt written valid = one kind width is long i lt valid
  one_as false kind width is long i lt written unset =
      let own : List ℕ = value_at width (values_in a) i in
      let size : length own ≡ width = length-take-le width (drop (i * width) (values_in a)) (room i (slots_in a) width (values_in a) long lt) in
      ap (fixed_value kind) (null_slot kind a i unset) ∙ null_value kind width is
      ∙ sym (zeros_are own (zeros_below kind width a i is written unset) ∙ ap (λ (n : ℕ). replicate n 0) size)

-- a sound array has values for all its slots
long_values : (a : Array) (w : ℕ) → not (are_few w a (values_in a)) ≡ true → slots_in a * w ≤ length (values_in a)
long_values a w h = ltb-false _ _ (not-true (are_few w a (values_in a)) h)

buffer_long : (kind : Kind) (a : Array) → is_sound (plain_column kind None) a ≡ true → not (has_short_buffer kind a) ≡ true
unfolding is_sound
buffer_long kind a h =
    let rest = (and_parts (not (has_short_validity a)) _ h).1 in
    (and_parts (not (has_short_buffer kind a)) (not (has_bad_offsets kind a) && has_sound_children kind a) rest).0

pub enough : (kind : Kind) (width : ℕ) (a : Array) → fixed_width kind ≡ Some width → is_sound (plain_column kind None) a ≡ true → slots_in a * width ≤ length (values_in a)
enough (integers bits signed) width a is h = let e : bits / 8 ≡ width = cc in rw e at (long_values a (bits / 8) (buffer_long (integers bits signed) a h))
enough (dates unit) width a is h = let e : date_bits unit / 8 ≡ width = cc in rw e at (long_values a (date_bits unit / 8) (buffer_long (dates unit) a h))
enough (timestamps unit timezone) width a is h = let e : 8 ≡ width = cc in rw e at (long_values a 8 (buffer_long (timestamps unit timezone) a h))
enough (fixed_binaries size) width a is h = let e : size ≡ width = cc in rw e at (long_values a size (buffer_long (fixed_binaries size) a h))
enough nulls width a is h = cc
enough booleans width a is h = cc
enough texts width a is h = cc
enough large_texts width a is h = cc
enough binaries width a is h = cc
enough large_binaries width a is h = cc
enough (lists item) width a is h = cc
enough (large_lists item) width a is h = cc
enough (fixed_lists size item) width a is h = cc
enough (structs columns) width a is h = cc

-- what is known of a run that stands as it is written
pub record AreValues (kind : Kind) (width : ℕ) (v : ArrayView) (from n : ℕ) (run : SlotRun) : Type 0 where
  pub long : (from + n) * width ≤ length (values_in (view_array v))
  pub within : from + n ≤ slots_in (view_array v)
  pub bytes : AreBytes (values_in (view_array v)) → flat_map (fixed_value kind) (run_cells (plain_column kind None) run) ≡ take (n * width) (drop (from * width) (values_in (view_array v)))

pub run_values : (kind : Kind) (width : ℕ) (v : ArrayView) (from n : ℕ) (run : SlotRun) → run ≡ Slots v from n → fixed_width kind ≡ Some width → is_run_sound (plain_column kind None) run ≡ true
    → is_run_as_written kind run ≡ true → AreValues kind width v from n run
run_values kind width v from n run is wide sound written =
    let a : Array = view_array v in
    let sound_slots : is_run_sound (plain_column kind None) (Slots v from n) ≡ true = rw is at sound in
    let slots : is_run_as_written kind (Slots v from n) ≡ true = rw is at written in
    let parts = and_parts (is_sound (plain_column kind None) a) (nat_le (from + n) (slots_in a)) sound_slots in
    let within : from + n ≤ slots_in a = leb-true (from + n) (slots_in a) parts.1 in
    let long = enough kind width a wide parts.0 in
    let most : (from + n) * width ≤ slots_in a * width = mul-le-mul_right width within in
    record {
      long = omega (arith, most, long);
      within = within;
      bytes = λ small. rw is (many (fixed_value kind) (plain_cell kind a) (is_as_written kind a) width (slots_in a) (values_in a)
          (λ i lt h. one_as a small (is_valid a i) kind width wide long i lt h refl) from n within slots);
    }

pub null_bytes : (kind : Kind) (width n : ℕ) (run : SlotRun) → run ≡ Nulls n → fixed_width kind ≡ Some width → flat_map (fixed_value kind) (run_cells (plain_column kind None) run) ≡ replicate (n * width) 0
null_bytes kind width n run is wide = rw is (repeated_each (fixed_value kind) width null 0 n (null_value kind width wide))
