-- Texts and binaries under a mask, slot by slot and run by run.
use Rattle.std.specs.Prelude.{Some, None, nat_le, replicate, if◌then◌else◌}
use Rattle.std.specs.List.{flat_map, list_all, range_with_len}
use Rattle.std.proofs.Common.{◌≡◌, ℕ, zero, suc, ◌+◌, ◌-◌, ◌≤◌, ◌<◌, ◌++◌, Bool, true, false, List, [], ◌∷◌, map, length, refl, ap, ap₂, sym, ◌∙◌, arith, append_assoc, length-append}
use Rattle.std.proofs.lemmas.Bool.{and_parts, leb-true}
use Rattle.std.proofs.lemmas.List.{length-replicate}
use Rattle.std.proofs.lemmas.List.Sums.{sum_by-cons}
use Rattle.std.proofs.lemmas.List.Folds.{list_all-append, list_all-map}
use Rattle.dictionary_codes.specs.laws.MaskedRuns.{bits_append, mask_counted}
use Rattle.byteorder.specs.Endian.{little_bytes}
use Rattle.arrow_schema.specs.Column.{Kind}
use Rattle.array_build.proofs.AsWritten.{valid_runs_written}
use Rattle.dictionary_codes.specs.laws.MaskedItems.{all_alike, all_kept, masked_append, masked_twice}
use Rattle.array_build.proofs.MaskedParts.{all_joined, below_append, joined_below, masked_itself}
use Rattle.dictionary_codes.specs.laws.Bitmaps.{bitmap_long, bits_counted, bits_with, bits_without}
use Rattle.array_build.proofs.RunArrays.{contents_has, count_cells, count_run, has_values, runs_there, no_value}
use Rattle.array_build.proofs.RunContents.{offsets_with, one_offset, ordered, slot_contents, slot_size, span_more, span_none}
use Rattle.dictionary_codes.specs.laws.SlotCounts.{slots_counted}
use Rattle.array_build.proofs.RunValues.{plain_cell}
use Rattle.batch_build.specs.Batch.{plain_column}
use Rattle.dictionary_codes.specs.Masks.{IsMask, bitmap_bits, mask_bits, masked, masked_cells, slots_mask, run_bits, runs_bits}
use Rattle.array_build.specs.inner.Masked.{are_below, masked_slots}
use Rattle.array_build.specs.inner.MaskedContents.{AreUnder, masked_sizes, masked_spans, run_under, runs_under, total}
use Rattle.array_build.specs.inner.Runs.{AreAsWritten, cell_sizes, kind_cells, span_contents}
use Rattle.bitmap.specs.Bits.{bit}
use Rattle.cells.specs.Cell.{Cell, null}
use Rattle.columns.specs.Array.{Array, contents_in, slots_in}
use Rattle.columns.specs.Buildable.{can_build}
use Rattle.columns.specs.Built.{contents_of}
use Rattle.columns.specs.CellAt.{cells_from, contents_at, is_valid, span_size}
use Rattle.columns.specs.Runs.{are_runs_sound, are_runs_valid, is_run_sound, is_run_valid, run_cells}
use Rattle.columns.specs.Sound.{is_sound}
use Rattle.columns.specs.Tests.{are_few_offsets, are_unordered}
use Rattle.columns.specs.View.{view_array}
use Rattle.columns.specs.declared.slot_runs.SlotRun.{SlotRun}
use Rattle.columns.specs.declared.slot_runs.SlotRun.TheVariants.{Slots, Nulls}
use Rattle.columns.specs.declared.view.ArrayView.{ArrayView}
use Rattle.columns.specs.Offsets.{contents_width}

-- ---- slots in a row

module _ (width : ℕ) (a : Array) (up : are_unordered width (length (contents_in a)) a ≡ false) where
  -- those whose bits are alike are there, or are not
  alike_spans : (b : Bool) (set : ℕ → Bool) (from i k left : ℕ) → from + k ≤ slots_in a → ((j : ℕ) → i ≤ j → j < i + k → set j ≡ b)
      → masked_spans width a from (map set (range_with_len i (k + left)))
      ≡ (if b then span_contents width a from k else []) ++ masked_spans width a (from + k) (map set (range_with_len (i + k) left))
  alike_spans b set from i zero left within alike =
      let place : from + 0 ≡ from = omega arith in
      let first : i + 0 ≡ i = omega arith in
      let count : 0 + left ≡ left = omega arith in
      ap (λ (n : ℕ). masked_spans width a from (map set (range_with_len i n))) count
      ∙ sym (ap₂ (λ (p j : ℕ). masked_spans width a p (map set (range_with_len j left))) place first)
      ∙ ap (λ (xs : List ℕ). xs ++ masked_spans width a (from + 0) (map set (range_with_len (i + 0) left))) (sym (nothing b))
    where
      nothing : (x : Bool) → (if x then span_contents width a from 0 else []) ≡ []
      nothing true = span_none width a up from
      nothing false = refl
  alike_spans b set from i (suc k) left within alike =
      let place : from + suc k ≡ from + 1 + k = omega arith in
      let first : i + suc k ≡ i + 1 + k = omega arith in
      let count : suc k + left ≡ suc (k + left) = omega arith in
      let others : List ℕ = masked_spans width a (from + 1 + k) (map set (range_with_len (i + 1 + k) left)) in
      ap (λ (n : ℕ). masked_spans width a from (map set (range_with_len i n))) count
      ∙ ap₂ (λ (x : Bool) (xs : List ℕ). (if x then contents_at width a from else []) ++ xs) (alike i (omega arith) (omega arith))
      (alike_spans b set (from + 1) (i + 1) k left (omega arith) (λ j low high. alike j (omega (arith, low)) (omega (arith, high))))
      ∙ joined b others
      ∙ sym (ap₂ (λ (p j : ℕ). (if b then span_contents width a from (suc k) else []) ++ masked_spans width a p (map set (range_with_len j left))) place first)
    where
      joined : (x : Bool) (rest : List ℕ)
          → (if x then contents_at width a from else []) ++ ((if x then span_contents width a (from + 1) k else []) ++ rest) ≡ (if x then span_contents width a from (suc k) else []) ++ rest
      joined true rest =
          sym (append_assoc (contents_at width a from) (span_contents width a (from + 1) k) rest) ∙ ap (λ (xs : List ℕ). xs ++ rest) (sym (span_more width a up from k within))
      joined false rest = refl

  -- the bytes of bits that are alike, and those of the bits behind them
  pub next_spans : (mask : List ℕ) (from at i stop to : ℕ) → at ≤ i → i ≤ stop → stop ≤ to → from + (to - at) ≤ slots_in a
      → ((j : ℕ) → i ≤ j → j < stop → bit mask j ≡ bit mask i)
      → masked_spans width a (from + (i - at)) (mask_bits mask i (to - i))
      ≡ (if bit mask i then span_contents width a (from + (i - at)) (stop - i) else []) ++ masked_spans width a (from + (stop - at)) (mask_bits mask stop (to - stop))
  next_spans mask from at i stop to low next high within alike =
      let count : to - i ≡ (stop - i) + (to - stop) = omega arith in
      let place : from + (i - at) + (stop - i) ≡ from + (stop - at) = omega arith in
      let end : i + (stop - i) ≡ stop = omega arith in
      ap (λ (n : ℕ). masked_spans width a (from + (i - at)) (mask_bits mask i n)) count
      ∙ alike_spans (bit mask i) (bit mask) (from + (i - at)) i (stop - i) (to - stop) (omega arith) (λ j begins ends. alike j begins (omega (arith, ends, end)))
      ∙ ap₂ (λ (p j : ℕ). (if bit mask i then span_contents width a (from + (i - at)) (stop - i) else []) ++ masked_spans width a p (mask_bits mask j (to - stop))) place end

-- ---- sizes

-- so many bytes or items there are
pub total_length : {X : Type 0} (f : Cell → List X) (cells : List Cell) → total (map (λ c. length (f c)) cells) ≡ length (flat_map f cells)
total_length f [] = refl
total_length f (c ∷ cells) =
    let rest = total_length f cells in
    let one = sum_by-cons (λ (n : ℕ). n) (length (f c)) (map (λ d. length (f d)) cells) in
    let both = length-append (f c) (flat_map f cells) in
    omega (arith, rest, one, both)

-- one slot more
pub next_total : (width : ℕ) (a : Array) (mask : List ℕ) (from at i to next whole : ℕ) → at ≤ i → i < to
    → next + total (masked_sizes width a (from + (i - at)) (mask_bits mask i (to - i))) ≡ whole
    → next + (if bit mask i then span_size width a (from + (i - at)) else 0) + total (masked_sizes width a (from + (i + 1 - at)) (mask_bits mask (i + 1) (to - (i + 1)))) ≡ whole
next_total width a mask from at i to next whole low lt h =
    let p : ℕ = from + (i - at) in
    let left : to - i ≡ suc (to - (i + 1)) = omega arith in
    let place : from + (i + 1 - at) ≡ from + (i - at) + 1 = omega arith in
    let rest : List ℕ = masked_sizes width a (p + 1) (mask_bits mask (i + 1) (to - (i + 1))) in
    let own : ℕ = if bit mask i then span_size width a p else 0 in
    let first : total (masked_sizes width a p (mask_bits mask i (to - i))) ≡ own + total rest
    = ap (λ (n : ℕ). total (masked_sizes width a p (mask_bits mask i n))) left ∙ sum_by-cons (λ (n : ℕ). n) own rest in
    let others : total (masked_sizes width a (from + (i + 1 - at)) (mask_bits mask (i + 1) (to - (i + 1)))) ≡ total rest
    = ap (λ (k : ℕ). total (masked_sizes width a k (mask_bits mask (i + 1) (to - (i + 1))))) place in
    omega (arith, first, others, h)

pub next_offset : (width : ℕ) (a : Array) (mask written : List ℕ) (from at i to next : ℕ) (rest : List ℕ) → at ≤ i → i < to
    → offsets_with width (written ++ little_bytes width next) (next + (if bit mask i then span_size width a (from + (i - at)) else 0))
    (masked_sizes width a (from + (i + 1 - at)) (mask_bits mask (i + 1) (to - (i + 1)))) rest
    ≡ offsets_with width written next (masked_sizes width a (from + (i - at)) (mask_bits mask i (to - i))) rest
next_offset width a mask written from at i to next rest low lt =
    let size : ℕ = if bit mask i then span_size width a (from + (i - at)) else 0 in
    let left : to - i ≡ suc (to - (i + 1)) = omega arith in
    let place : from + (i + 1 - at) ≡ from + (i - at) + 1 = omega arith in
    ap (λ (p : ℕ). offsets_with width (written ++ little_bytes width next) (next + size) (masked_sizes width a p (mask_bits mask (i + 1) (to - (i + 1)))) rest) place
    ∙ one_offset width written next size (masked_sizes width a (from + (i - at) + 1) (mask_bits mask (i + 1) (to - (i + 1)))) rest
    ∙ ap (λ (n : ℕ). offsets_with width written next (masked_sizes width a (from + (i - at)) (mask_bits mask i n)) rest) (sym left)

-- ---- the cells of slots

module _ (kind : Kind) (width : ℕ) (a : Array) (is : contents_width kind ≡ Some width) (up : are_unordered width (length (contents_in a)) a ≡ false) where
  slots_contents : (bits : List Bool) (from n : ℕ) → length bits ≡ n → from + n ≤ slots_in a → are_below bits (map (is_valid a) (range_with_len from n)) ≡ true
      → flat_map contents_of (masked bits (cells_from (plain_cell kind a) from n)) ≡ masked_spans width a from bits
  slots_contents [] from zero len within h = refl
  slots_contents [] from (suc n) len within h = absurd (omega (arith, len))
  slots_contents (b ∷ bits) from zero len within h = absurd (omega (arith, len))
  slots_contents (true ∷ bits) from (suc n) len within h =
      let both = and_parts (is_valid a from) (are_below bits (map (is_valid a) (range_with_len (from + 1) n))) h in
      ap₂ (λ (xs ys : List ℕ). xs ++ ys) (slot_contents kind width a is from (omega arith) both.0) (slots_contents bits (from + 1) n (omega (arith, len)) (omega arith) both.1)
  slots_contents (false ∷ bits) from (suc n) len within h = slots_contents bits (from + 1) n (omega (arith, len)) (omega arith) h

  slots_sizes : (bits : List Bool) (from n : ℕ) → length bits ≡ n → from + n ≤ slots_in a → are_below bits (map (is_valid a) (range_with_len from n)) ≡ true
      → cell_sizes (masked bits (cells_from (plain_cell kind a) from n)) ≡ masked_sizes width a from bits
  slots_sizes [] from zero len within h = refl
  slots_sizes [] from (suc n) len within h = absurd (omega (arith, len))
  slots_sizes (b ∷ bits) from zero len within h = absurd (omega (arith, len))
  slots_sizes (true ∷ bits) from (suc n) len within h =
      let both = and_parts (is_valid a from) (are_below bits (map (is_valid a) (range_with_len (from + 1) n))) h in
      ap₂ (λ (k : ℕ) (ks : List ℕ). k ∷ ks) (ap length (slot_contents kind width a is from (omega arith) both.0) ∙ slot_size width a up from (omega arith))
      (slots_sizes bits (from + 1) n (omega (arith, len)) (omega arith) both.1)
  slots_sizes (false ∷ bits) from (suc n) len within h = ap (λ (ks : List ℕ). 0 ∷ ks) (slots_sizes bits (from + 1) n (omega (arith, len)) (omega arith) h)

-- ---- runs

-- what is known of a run of slots under the bits of a mask
pub record AreTextsUnder (kind : Kind) (width : ℕ) (mask : List ℕ) (at : ℕ) (v : ArrayView) (from n : ℕ) (run : SlotRun) : Type 0 where
  pub few : are_few_offsets width (view_array v) ≡ false
  pub up : are_unordered width (length (contents_in (view_array v))) (view_array v) ≡ false
  pub within : from + (at + n - at) ≤ slots_in (view_array v)
  pub count : length (run_bits run) ≡ n
  pub contents : flat_map contents_of (run_under kind mask at run) ≡ masked_spans width (view_array v) from (mask_bits mask at (at + n - at))
  pub sizes : cell_sizes (run_under kind mask at run) ≡ masked_sizes width (view_array v) from (mask_bits mask at n)

pub run_texts_under : (kind : Kind) (width : ℕ) (mask : List ℕ) (at : ℕ) (v : ArrayView) (from n : ℕ) (run : SlotRun) → run ≡ Slots v from n → contents_width kind ≡ Some width
    → is_run_sound (plain_column kind None) run ≡ true → are_below (mask_bits mask at (length (run_bits run))) (run_bits run) ≡ true → AreTextsUnder kind width mask at v from n run
run_texts_under kind width mask at v from n run is wide sound below =
    let a : Array = view_array v in
    let bits : List Bool = mask_bits mask at n in
    let sound_slots : is_run_sound (plain_column kind None) (Slots v from n) ≡ true = rw is at sound in
    let parts = and_parts (is_sound (plain_column kind None) a) (nat_le (from + n) (slots_in a)) sound_slots in
    let order = ordered kind width a wide parts.0 in
    let within : from + n ≤ slots_in a = leb-true (from + n) (slots_in a) parts.1 in
    let same : at + n - at ≡ n = omega arith in
    let many : length (run_bits run) ≡ n = slots_counted v from n run is in
    let own : are_below bits (map (is_valid a) (range_with_len from n)) ≡ true
    = sym (ap₂ (λ (k : ℕ) (r : SlotRun). are_below (mask_bits mask at k) (run_bits r)) many is) ∙ below in
    let cells : run_under kind mask at run ≡ masked bits (cells_from (plain_cell kind a) from n)
    = ap₂ (λ (k : ℕ) (r : SlotRun). masked (mask_bits mask at k) (run_cells (plain_column kind None) r)) many is in
    record {
      few = order.0;
      up = order.1;
      within = omega (arith, within, same);
      count = many;
      contents = ap (flat_map contents_of) cells ∙ slots_contents kind width a wide order.1 bits from n (mask_counted mask at n) within own
          ∙ ap (λ (k : ℕ). masked_spans width a from (mask_bits mask at k)) (sym same);
      sizes = ap cell_sizes cells ∙ slots_sizes kind width a wide order.1 bits from n (mask_counted mask at n) within own;
    }

-- nulls stay nulls
nulls_under : (bits : List Bool) → masked bits (replicate (length bits) null) ≡ replicate (length bits) null
nulls_under [] = refl
nulls_under (b ∷ bits) = ap₂ (λ (c : Cell) (cs : List Cell). c ∷ cs) (no_value b) (nulls_under bits)

pub run_of_nulls_under : (kind : Kind) (mask : List ℕ) (at n : ℕ) (run : SlotRun) → run ≡ Nulls n → run_under kind mask at run ≡ run_cells (plain_column kind None) run
run_of_nulls_under kind mask at n run is =
    let count : length (run_bits run) ≡ n = ap (λ (r : SlotRun). length (run_bits r)) is ∙ length-replicate n false in
    let long : length (mask_bits mask at n) ≡ n = mask_counted mask at n in
    let nulls : masked (mask_bits mask at n) (replicate n null) ≡ replicate n null
    = sym (ap (λ (k : ℕ). masked (mask_bits mask at n) (replicate k null)) long) ∙ nulls_under (mask_bits mask at n) ∙ ap (λ (k : ℕ). replicate k null) long in
    ap₂ (λ (k : ℕ) (r : SlotRun). masked (mask_bits mask at k) (run_cells (plain_column kind None) r)) count is ∙ nulls
    ∙ sym (ap (λ (r : SlotRun). run_cells (plain_column kind None) r) is)

-- the run that a loop is at, and the others
pub record IsNext (kind : Kind) (mask : List ℕ) (at : ℕ) (runs : List SlotRun) (run : SlotRun) (others : List SlotRun) : Type 0 where
  pub count : length (runs_bits runs) ≡ length (run_bits run) + length (runs_bits others)
  pub own : are_below (mask_bits mask at (length (run_bits run))) (run_bits run) ≡ true
  pub below : are_below (mask_bits mask (at + length (run_bits run)) (length (runs_bits others))) (runs_bits others) ≡ true
  pub cells : runs_under kind mask at runs ≡ run_under kind mask at run ++ runs_under kind mask (at + length (run_bits run)) others

pub next_run : (kind : Kind) (mask : List ℕ) (at : ℕ) (runs : List SlotRun) (run : SlotRun) (others : List SlotRun) → runs ≡ run ∷ others
    → are_below (mask_bits mask at (length (runs_bits runs))) (runs_bits runs) ≡ true → IsNext kind mask at runs run others
next_run kind mask at runs run others is h =
    let m : ℕ = length (run_bits run) in
    let n : ℕ = length (runs_bits others) in
    let first : List Bool = mask_bits mask at m in
    let rest : List Bool = mask_bits mask (at + m) n in
    let own : List Cell = run_cells (plain_column kind None) run in
    let left : List Cell = kind_cells kind others in
    let count : length (runs_bits runs) ≡ m + n = ap (λ (rs : List SlotRun). length (runs_bits rs)) is ∙ length-append (run_bits run) (runs_bits others) in
    let bits : mask_bits mask at (length (runs_bits runs)) ≡ first ++ rest = ap (mask_bits mask at) count ∙ bits_append mask at m n in
    let slots : runs_bits runs ≡ run_bits run ++ runs_bits others = ap runs_bits is in
    let both = below_append first rest (run_bits run) (runs_bits others) (mask_counted mask at m) (sym (ap₂ are_below bits slots) ∙ h) in
    let split : runs_under kind mask at runs ≡ masked first own ++ masked rest left
    = ap₂ masked bits (ap (kind_cells kind) is) ∙ masked_append null first rest own left (mask_counted mask at m ∙ count_run kind run) in
    record {
      count = count;
      own = both.0;
      below = both.1;
      cells = split;
    }

-- ---- runs under a mask, by the validity bitmap that is written for them

run_valid : (run : SlotRun) → list_all (λ b. b) (run_bits run) ≡ true → is_run_valid run ≡ true
run_valid (Slots v from n) all = sym (list_all-map (λ (b : Bool). b) (is_valid (view_array v)) (range_with_len from n)) ∙ all
run_valid (Nulls n) all = refl

runs_valid : (runs : List SlotRun) → list_all (λ b. b) (runs_bits runs) ≡ true → are_runs_valid runs ≡ true
runs_valid [] all = refl
runs_valid (run ∷ runs) all =
    let both = and_parts (list_all (λ b. b) (run_bits run)) (list_all (λ b. b) (runs_bits runs)) (sym (list_all-append (λ (b : Bool). b) (run_bits run) (runs_bits runs)) ∙ all) in
    rw (run_valid run both.0) (runs_valid runs both.1)

-- without a byte none is null
pub record AreCopied (kind : Kind) (mask : List ℕ) (runs : List SlotRun) : Type 0 where
  pub ready : AreAsWritten kind runs
  pub cells : kind_cells kind runs ≡ masked_cells (plain_column kind None) mask runs

pub copied_below : (kind : Kind) (mask below : List ℕ) (runs : List SlotRun) → are_runs_sound (plain_column kind None) runs ≡ true
    → can_build (plain_column kind None) (masked_cells (plain_column kind None) mask runs) ≡ true
    → bitmap_bits below (length (runs_bits runs)) ≡ masked_slots mask runs → length below ≡ 0 → AreCopied kind mask runs
copied_below kind mask below runs sound fits is none =
    let n : ℕ = length (runs_bits runs) in
    let all : list_all (λ b. b) (masked_slots mask runs) ≡ true = ap (list_all (λ b. b)) (sym is ∙ bits_without below n none) ∙ all_alike n in
    let both = all_joined (slots_mask mask runs) (runs_bits runs) (bits_counted mask n) all in
    let same : masked_cells (plain_column kind None) mask runs ≡ kind_cells kind runs
    = all_kept null (slots_mask mask runs) (kind_cells kind runs) (bits_counted mask n ∙ count_cells kind runs) both.0 in
    record {
      ready = record {
        sound = sound;
        written = valid_runs_written kind runs (runs_valid runs both.1);
        fit = ap (can_build (plain_column kind None)) (sym same) ∙ fits;
      };
      cells = sym same;
    }

-- with bytes it is a mask that is set at no null
pub record AreMaskedBelow (kind : Kind) (mask below : List ℕ) (runs : List SlotRun) : Type 0 where
  pub under : AreUnder kind below runs
  pub cells : runs_under kind below 0 runs ≡ masked_cells (plain_column kind None) mask runs

pub under_below : (kind : Kind) (mask below : List ℕ) (runs : List SlotRun) → has_values kind ≡ true → are_runs_sound (plain_column kind None) runs ≡ true
    → can_build (plain_column kind None) (masked_cells (plain_column kind None) mask runs) ≡ true
    → bitmap_bits below (length (runs_bits runs)) ≡ masked_slots mask runs → IsMask below runs → (length below ≡ 0 → ⊥) → AreMaskedBelow kind mask below runs
under_below kind mask below runs values sound fits is bitmap some =
    let n : ℕ = length (runs_bits runs) in
    let own : List Bool = runs_bits runs in
    let cells : List Cell = kind_cells kind runs in
    let bits : mask_bits below 0 n ≡ masked_slots mask runs = sym (bits_with below n some) ∙ is in
    let kept : masked own cells ≡ cells = ap (λ (bs : List Bool). masked bs cells) (sym (runs_there kind runs values)) ∙ masked_itself cells in
    let same : runs_under kind below 0 runs ≡ masked_cells (plain_column kind None) mask runs
    = ap (λ (bs : List Bool). masked bs cells) bits ∙ sym (masked_twice null (slots_mask mask runs) own cells (bits_counted mask n)) ∙ ap (masked (slots_mask mask runs)) kept in
    let count = bits_counted below n in
    let long = bitmap_long below (slots_mask below runs) bitmap some in
    record {
      under = record {
        sound = sound;
        long = omega (arith, count, long);
        below = ap (λ (bs : List Bool). are_below bs own) bits ∙ joined_below (slots_mask mask runs) own (bits_counted mask n);
        fit = ap (can_build (plain_column kind None)) same ∙ fits;
      };
      cells = same;
    }

pub masked_below : (kind : Kind) (width : ℕ) (mask below : List ℕ) (runs : List SlotRun) → contents_width kind ≡ Some width → are_runs_sound (plain_column kind None) runs ≡ true
    → can_build (plain_column kind None) (masked_cells (plain_column kind None) mask runs) ≡ true
    → bitmap_bits below (length (runs_bits runs)) ≡ masked_slots mask runs → IsMask below runs → (length below ≡ 0 → ⊥) → AreMaskedBelow kind mask below runs
masked_below kind width mask below runs wide sound fits is bitmap some = under_below kind mask below runs (contents_has kind width wide) sound fits is bitmap some
