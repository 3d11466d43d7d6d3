-- The bytes of texts and binaries, and their offsets, of slots one after another.
use Rattle.std.specs.Prelude.{Some, None, not, ◌*◌, ◌==◌, ◌&&◌, nat_le, replicate}
use Rattle.std.specs.List.{flat_map, list_all, range_with_len}
use Rattle.std.proofs.Common.{◌≡◌, ℕ, zero, suc, ◌+◌, ◌-◌, ◌≤◌, ◌<◌, ◌++◌, Bool, true, false, List, [], ◌∷◌, length, take, drop, refl, ap, ap₂, sym, subst, ◌∙◌, arith, append_assoc, length-drop, mul-le-mul_right}
use Rattle.std.proofs.lemmas.Bool.{and_parts, leb-true, ltb-false, ne_eqb, not-true}
use Rattle.std.proofs.lemmas.List.{drop-drop, length-take-le}
use Rattle.std.proofs.Math.Seq.{take-add}
use Rattle.array_build.proofs.RunValues.{plain_cell}
use Rattle.byteorder.specs.Endian.{little_bytes}
use Rattle.arrow_schema.specs.Column.{Kind, nulls, booleans, integers, dates, timestamps, texts, large_texts, binaries, large_binaries, fixed_binaries, lists, large_lists, fixed_lists, structs}
use Rattle.array_build.proofs.AsWritten.{has_offsets, no_byte_below, null_slot}
use Rattle.batch_build.specs.laws.Premises.{texts_fit, binaries_fit}
use Rattle.dictionary_codes.specs.laws.Repeated.{none_each}
use Rattle.batch_build.specs.Batch.{plain_column}
use Rattle.array_build.specs.inner.Runs.{cell_sizes, is_as_written, is_run_as_written, offsets_width, slot_sizes, span_contents}
use Rattle.columns.specs.Runs.{is_run_sound, run_cells}
use Rattle.columns.specs.declared.slot_runs.SlotRun.{SlotRun}
use Rattle.columns.specs.declared.slot_runs.SlotRun.TheVariants.{Slots, Nulls}
use Rattle.cells.specs.Cell.{Cell, null}
use Rattle.columns.specs.Array.{Array, slots_in, offsets_in, contents_in}
use Rattle.columns.specs.Buildable.{can_build, large_offset}
use Rattle.columns.specs.Built.{contents_of, sums_from}
use Rattle.columns.specs.CellAt.{cell_at, kind_cell, cells_from, contents_at, is_valid, number_at, span_size, span_start}
use Rattle.columns.specs.Sound.{is_sound, has_sound_children}
use Rattle.columns.specs.Tests.{are_few_offsets, are_unordered, has_bad_offsets, has_short_buffer, has_short_validity}
use Rattle.columns.specs.View.{view_array}
use Rattle.columns.specs.declared.numbers.OffsetWidth.TheVariants.{Four, Eight}
use Rattle.columns.specs.declared.view.ArrayView.{ArrayView}
use Rattle.columns.specs.laws.Offsets.{offsets_ascend, spans_fit}
use Rattle.columns.specs.Offsets.{contents_width}

-- ---- offsets of a sound array

by_tests : (kind : Kind) (a : Array) → is_sound (plain_column kind None) a ≡ true → (has_short_buffer kind a ≡ false) × (has_bad_offsets kind a ≡ false)
unfolding is_sound
by_tests kind a h =
    let rest = (and_parts (not (has_short_validity a)) _ h).1 in
    let more = and_parts (not (has_short_buffer kind a)) (not (has_bad_offsets kind a) && has_sound_children kind a) rest in
    (not-true _ more.0, not-true _ (and_parts (not (has_bad_offsets kind a)) (has_sound_children kind a) more.1).0)

abbrev IsOrdered : ℕ → Array → Type 0
IsOrdered width a = (are_few_offsets width a ≡ false) × (are_unordered width (length (contents_in a)) a ≡ false)

pub ordered : (kind : Kind) (width : ℕ) (a : Array) → contents_width kind ≡ Some width → is_sound (plain_column kind None) a ≡ true → IsOrdered width a
ordered texts width a is h = let e : 4 ≡ width = cc in subst (λ (w : ℕ). IsOrdered w a) e (by_tests texts a h)
ordered large_texts width a is h = let e : 8 ≡ width = cc in subst (λ (w : ℕ). IsOrdered w a) e (by_tests large_texts a h)
ordered binaries width a is h = let e : 4 ≡ width = cc in subst (λ (w : ℕ). IsOrdered w a) e (by_tests binaries a h)
ordered large_binaries width a is h = let e : 8 ≡ width = cc in subst (λ (w : ℕ). IsOrdered w a) e (by_tests large_binaries a h)
ordered nulls width a is h = cc
ordered booleans width a is h = cc
ordered (integers bits signed) width a is h = cc
ordered (dates unit) width a is h = cc
ordered (timestamps unit timezone) width a is h = cc
ordered (fixed_binaries size) width a is h = cc
ordered (lists item) width a is h = cc
ordered (large_lists item) width a is h = cc
ordered (fixed_lists size item) width a is h = cc
ordered (structs columns) width a is h = cc

-- there is an offset for each slot, and one more
pub enough_offsets : (kind : Kind) (width : ℕ) (a : Array) → offsets_width kind ≡ Some width → is_sound (plain_column kind None) a ≡ true → are_few_offsets width a ≡ false
enough_offsets texts width a is h = let e : 4 ≡ width = cc in subst (λ (w : ℕ). are_few_offsets w a ≡ false) e (by_tests texts a h).0
enough_offsets large_texts width a is h = let e : 8 ≡ width = cc in subst (λ (w : ℕ). are_few_offsets w a ≡ false) e (by_tests large_texts a h).0
enough_offsets binaries width a is h = let e : 4 ≡ width = cc in subst (λ (w : ℕ). are_few_offsets w a ≡ false) e (by_tests binaries a h).0
enough_offsets large_binaries width a is h = let e : 8 ≡ width = cc in subst (λ (w : ℕ). are_few_offsets w a ≡ false) e (by_tests large_binaries a h).0
enough_offsets nulls width a is h = cc
enough_offsets booleans width a is h = cc
enough_offsets (integers bits signed) width a is h = cc
enough_offsets (dates unit) width a is h = cc
enough_offsets (timestamps unit timezone) width a is h = cc
enough_offsets (fixed_binaries size) width a is h = cc
enough_offsets (lists item) width a is h = let e : 4 ≡ width = cc in subst (λ (w : ℕ). are_few_offsets w a ≡ false) e (by_tests (lists item) a h).0
enough_offsets (large_lists item) width a is h = let e : 8 ≡ width = cc in subst (λ (w : ℕ). are_few_offsets w a ≡ false) e (by_tests (large_lists item) a h).0
enough_offsets (fixed_lists size item) width a is h = cc
enough_offsets (structs columns) width a is h = cc

-- ---- the bytes of slots

module _ (width : ℕ) (a : Array) (up : are_unordered width (length (contents_in a)) a ≡ false) where
  -- offsets ascend
  pub ascends : (i n : ℕ) → i + n ≤ slots_in a → 0 < slots_in a → number_at width (offsets_in a) i ≤ number_at width (offsets_in a) (i + n)
  ascends i n within some = offsets_ascend width (length (contents_in a)) a i n up some within

  pub slot_size : (i : ℕ) → i < slots_in a → length (contents_at width a i) ≡ span_size width a i
  slot_size i lt =
      let fits = spans_fit width (length (contents_in a)) a i 1 up (omega arith) (omega arith) in
      let left = length-drop (span_start width a i) (contents_in a) in
      length-take-le (span_size width a i) (drop (span_start width a i) (contents_in a)) (omega (arith, fits, left))

  -- those of the first slot, and then those of the others
  pub span_more : (i n : ℕ) → i + suc n ≤ slots_in a → span_contents width a i (suc n) ≡ contents_at width a i ++ span_contents width a (i + 1) n
  span_more i n within =
      let f : ℕ → ℕ = number_at width (offsets_in a) in
      let first : f i ≤ f (i + 1) = ascends i 1 (omega arith) (omega arith) in
      let others : f (i + 1) ≤ f (i + 1 + n) = ascends (i + 1) n (omega arith) (omega arith) in
      let end : i + suc n ≡ i + 1 + n = omega arith in
      let sizes : f (i + 1 + n) - f i ≡ (f (i + 1) - f i) + (f (i + 1 + n) - f (i + 1)) = omega (arith, first, others) in
      let next : f i + (f (i + 1) - f i) ≡ f (i + 1) = omega (arith, first) in
      ap (λ (k : ℕ). take (f k - f i) (drop (f i) (contents_in a))) end
      ∙ ap (λ (k : ℕ). take k (drop (f i) (contents_in a))) sizes
      ∙ take-add (f (i + 1) - f i) (f (i + 1 + n) - f (i + 1)) (drop (f i) (contents_in a))
      ∙ ap (λ (xs : List ℕ). contents_at width a i ++ take (f (i + 1 + n) - f (i + 1)) xs) (drop-drop (f (i + 1) - f i) (f i) (contents_in a) ∙ ap (λ (k : ℕ). drop k (contents_in a)) next)

  pub span_none : (i : ℕ) → span_contents width a i 0 ≡ []
  span_none i =
      let none : number_at width (offsets_in a) (i + 0) - number_at width (offsets_in a) i ≡ 0 = (let e : i + 0 ≡ i = omega arith in rw e (omega arith)) in
      rw none refl

  module _ (g : ℕ → Cell) (p : ℕ → Bool) (is : (i : ℕ) → i < slots_in a → p i ≡ true → contents_of (g i) ≡ contents_at width a i) where
    pub spans : (from n : ℕ) → from + n ≤ slots_in a → list_all p (range_with_len from n) ≡ true → flat_map contents_of (cells_from g from n) ≡ span_contents width a from n
    spans from zero within h = sym (span_none from)
    spans from (suc n) within h =
        let parts = and_parts (p from) (list_all p (range_with_len (from + 1) n)) h in
        ap₂ (λ (xs ys : List ℕ). xs ++ ys) (is from (omega arith) parts.0) (spans (from + 1) n (omega arith) parts.1) ∙ sym (span_more from n within)

    pub sizes : (from n : ℕ) → from + n ≤ slots_in a → list_all p (range_with_len from n) ≡ true → cell_sizes (cells_from g from n) ≡ slot_sizes width a from n
    sizes from zero within h = refl
    sizes from (suc n) within h =
        let parts = and_parts (p from) (list_all p (range_with_len (from + 1) n)) h in
        ap₂ (λ (k : ℕ) (ks : List ℕ). k ∷ ks) (ap length (is from (omega arith) parts.0) ∙ slot_size from (omega arith)) (sizes (from + 1) n (omega arith) parts.1)

pub slot_contents : (kind : Kind) (width : ℕ) (a : Array) → contents_width kind ≡ Some width → (i : ℕ) → i < slots_in a → is_valid a i ≡ true → contents_of (plain_cell kind a i) ≡ contents_at width a i
unfolding cell_at kind_cell
slot_contents texts width a is i lt valid = let e : 4 ≡ width = cc in rw (valid, ← e) refl
slot_contents large_texts width a is i lt valid = let e : 8 ≡ width = cc in rw (valid, ← e) refl
slot_contents binaries width a is i lt valid = let e : 4 ≡ width = cc in rw (valid, ← e) refl
slot_contents large_binaries width a is i lt valid = let e : 8 ≡ width = cc in rw (valid, ← e) refl
slot_contents nulls width a is i lt valid = cc
slot_contents booleans width a is i lt valid = cc
slot_contents (integers bits signed) width a is i lt valid = cc
slot_contents (dates unit) width a is i lt valid = cc
slot_contents (timestamps unit timezone) width a is i lt valid = cc
slot_contents (fixed_binaries size) width a is i lt valid = cc
slot_contents (lists item) width a is i lt valid = cc
slot_contents (large_lists item) width a is i lt valid = cc
slot_contents (fixed_lists size item) width a is i lt valid = cc
slot_contents (structs columns) width a is i lt valid = cc

-- or that stands as it is written
written_contents : (b : Bool) (kind : Kind) (width : ℕ) (a : Array) → contents_width kind ≡ Some width → (i : ℕ) → i < slots_in a → is_as_written kind a i ≡ true → is_valid a i ≡ b
    → contents_of (plain_cell kind a i) ≡ contents_at width a i
written_contents true kind width a is i lt written valid = slot_contents kind width a is i lt valid
written_contents false kind width a is i lt written unset =
    ap contents_of (null_slot kind a i unset) ∙ sym (ap (λ (n : ℕ). take n (drop (span_start width a i) (contents_in a))) (no_byte_below kind width a i (has_offsets kind width is) written unset))

-- ---- runs of a type

-- what is known of a run of slots
pub record AreTexts (kind : Kind) (width : ℕ) (v : ArrayView) (from n : ℕ) (run : SlotRun) : Type 0 where
  pub few : are_few_offsets width (view_array v) ≡ false
  pub up : are_unordered width (length (contents_in (view_array v))) (view_array v) ≡ false
  pub within : from + n ≤ slots_in (view_array v)
  pub contents : flat_map contents_of (run_cells (plain_column kind None) run) ≡ span_contents width (view_array v) from n
  pub sizes : cell_sizes (run_cells (plain_column kind None) run) ≡ slot_sizes width (view_array v) from n

pub run_texts : (kind : Kind) (width : ℕ) (v : ArrayView) (from n : ℕ) (run : SlotRun) → run ≡ Slots v from n → contents_width kind ≡ Some width → is_run_sound (plain_column kind None) run ≡ true
    → is_run_as_written kind run ≡ true → AreTexts kind width v from n run
run_texts kind width v from n run is wide sound written =
    let a : Array = view_array v in
    let sound_slots : is_run_sound (plain_column kind None) (Slots v from n) ≡ true = rw is at sound in
    let slots : is_run_as_written kind (Slots v from n) ≡ true = rw is at written in
    let each : (i : ℕ) → i < slots_in a → is_as_written kind a i ≡ true → contents_of (plain_cell kind a i) ≡ contents_at width a i
    = λ i lt h. written_contents (is_valid a i) kind width a wide i lt h refl in
    let parts = and_parts (is_sound (plain_column kind None) a) (nat_le (from + n) (slots_in a)) sound_slots in
    let order = ordered kind width a wide parts.0 in
    let within : from + n ≤ slots_in a = leb-true (from + n) (slots_in a) parts.1 in
    record {
      few = order.0;
      up = order.1;
      within = within;
      contents = rw is (spans width a order.1 (plain_cell kind a) (is_as_written kind a) each from n within slots);
      sizes = rw is (sizes width a order.1 (plain_cell kind a) (is_as_written kind a) each from n within slots);
    }

pub no_contents : (kind : Kind) (n : ℕ) (run : SlotRun) → run ≡ Nulls n → flat_map contents_of (run_cells (plain_column kind None) run) ≡ []
no_contents kind n run is = rw is (none_each contents_of null n refl)

pub no_sizes : (kind : Kind) (n : ℕ) (run : SlotRun) → run ≡ Nulls n → cell_sizes (run_cells (plain_column kind None) run) ≡ replicate n 0
no_sizes kind n run is = rw is (each n)
  where
    each : (k : ℕ) → cell_sizes (replicate k null) ≡ replicate k 0
    each zero = refl
    each (suc k) = ap (λ (ks : List ℕ). 0 ∷ ks) (each k)

-- ---- offsets, one by one

-- the offsets so far, and those of what is left
abbrev pub offsets_with : (width : ℕ) → (written : List ℕ) → (next : ℕ) → (sizes rest : List ℕ) → List ℕ
offsets_with width written next sizes rest = written ++ flat_map (little_bytes width) (sums_from next (sizes ++ rest))

pub one_offset : (width : ℕ) (written : List ℕ) (next size : ℕ) (sizes rest : List ℕ) → offsets_with width (written ++ little_bytes width next) (next + size) sizes rest ≡ offsets_with width written next (size ∷ sizes) rest
one_offset width written next size sizes rest = append_assoc written (little_bytes width next) (flat_map (little_bytes width) (sums_from (next + size) (sizes ++ rest)))

pub slot_offset : (width : ℕ) (a : Array) (written : List ℕ) (next i to : ℕ) (rest : List ℕ) → i < to
    → offsets_with width (written ++ little_bytes width next) (next + span_size width a i) (slot_sizes width a (i + 1) (to - (i + 1))) rest
    ≡ offsets_with width written next (slot_sizes width a i (to - i)) rest
slot_offset width a written next i to rest lt =
    let left : to - i ≡ suc (to - (i + 1)) = omega arith in
    one_offset width written next (span_size width a i) (slot_sizes width a (i + 1) (to - (i + 1))) rest
    ∙ ap (λ (n : ℕ). offsets_with width written next (slot_sizes width a i n) rest) (sym left)

pub null_offset : (width : ℕ) (written : List ℕ) (next count k : ℕ) (rest : List ℕ) → k < count
    → offsets_with width (written ++ little_bytes width next) next (replicate (count - (k + 1)) 0) rest ≡ offsets_with width written next (replicate (count - k) 0) rest
null_offset width written next count k rest lt =
    let left : count - k ≡ suc (count - (k + 1)) = omega arith in
    let same : next ≡ next + 0 = omega arith in
    ap (λ (m : ℕ). offsets_with width (written ++ little_bytes width next) m (replicate (count - (k + 1)) 0) rest) same
    ∙ one_offset width written next 0 (replicate (count - (k + 1)) 0) rest
    ∙ ap (λ (n : ℕ). offsets_with width written next (replicate n 0) rest) (sym left)

-- ---- what a loop over slots asks

-- two offsets of a slot are there
pub offset_room : (width : ℕ) (a : Array) (i : ℕ) → are_few_offsets width a ≡ false → i < slots_in a → (i + 1 + 1) * width ≤ length (offsets_in a)
offset_room width a i few lt =
    let some : (slots_in a == 0) ≡ false = ne_eqb _ _ (λ e. omega arith) in
    let long : (slots_in a + 1) * width ≤ length (offsets_in a) = ltb-false _ _ (rw some at few) in
    let most : (i + 1 + 1) * width ≤ (slots_in a + 1) * width = mul-le-mul_right width (omega arith) in
    omega (arith, long, most)

-- offsets up to the largest hold all texts or binaries that can be built
pub contents_room : (kind : Kind) (width : ℕ) (cells : List Cell) → contents_width kind ≡ Some width → can_build (plain_column kind None) cells ≡ true → length (flat_map contents_of cells) ≤ large_offset
contents_room texts width cells is h = leb-true _ _ (texts_fit Four cells h)
contents_room large_texts width cells is h = leb-true _ _ (texts_fit Eight cells h)
contents_room binaries width cells is h = leb-true _ _ (binaries_fit Four cells h)
contents_room large_binaries width cells is h = leb-true _ _ (binaries_fit Eight cells h)
contents_room nulls width cells is h = cc
contents_room booleans width cells is h = cc
contents_room (integers bits signed) width cells is h = cc
contents_room (dates unit) width cells is h = cc
contents_room (timestamps unit timezone) width cells is h = cc
contents_room (fixed_binaries size) width cells is h = cc
contents_room (lists item) width cells is h = cc
contents_room (large_lists item) width cells is h = cc
contents_room (fixed_lists size item) width cells is h = cc
contents_room (structs columns) width cells is h = cc
