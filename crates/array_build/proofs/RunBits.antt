-- The bits of booleans, of slots one after another.
use Rattle.std.specs.Prelude.{None, not, ◌&&◌, nat_le, replicate}
use Rattle.std.specs.List.{range_with_len}
use Rattle.std.proofs.Common.{◌≡◌, ℕ, ◌+◌, ◌-◌, ◌*◌, ◌≤◌, true, false, map, length, ap, ◌∙◌, arith}
use Rattle.std.proofs.lemmas.Bool.{and_parts, leb-true, ltb-false, not-true}
use Rattle.arrow_schema.specs.Column.{booleans}
use Rattle.batch_build.specs.Batch.{plain_column}
use Rattle.array_build.specs.inner.Runs.{run_values}
use Rattle.columns.specs.Runs.{is_run_sound}
use Rattle.columns.specs.declared.slot_runs.SlotRun.{SlotRun}
use Rattle.columns.specs.declared.slot_runs.SlotRun.TheVariants.{Slots, Nulls}
use Rattle.bitmap.specs.Bits.{bit, bytes_of}
use Rattle.columns.specs.Array.{Array, bits_in, slots_in}
use Rattle.columns.specs.Sound.{is_sound, has_sound_children}
use Rattle.columns.specs.Tests.{has_bad_offsets, has_short_buffer, has_short_validity}
use Rattle.columns.specs.View.{view_array}
use Rattle.columns.specs.declared.view.ArrayView.{ArrayView}

bits_long : (a : Array) → is_sound (plain_column booleans None) a ≡ true → slots_in a ≤ 8 * length (bits_in a)
unfolding is_sound
bits_long a h =
    let rest = (and_parts (not (has_short_validity a)) _ h).1 in
    let own = and_parts (not (has_short_buffer booleans a)) (not (has_bad_offsets booleans a) && has_sound_children booleans a) rest in
    let long : bytes_of (slots_in a) ≤ length (bits_in a) = ltb-false _ _ (not-true _ own.0) in
    omega (arith, long)

-- what is known of a run of booleans
pub record AreBooleans (v : ArrayView) (from n : ℕ) (run : SlotRun) : Type 0 where
  pub within : from + n ≤ slots_in (view_array v)
  pub long : from + n ≤ 8 * length (bits_in (view_array v))
  pub values : run_values run ≡ map (bit (bits_in (view_array v))) (range_with_len from (from + n - from))

pub are_booleans : (v : ArrayView) (from n : ℕ) (run : SlotRun) → run ≡ Slots v from n → is_run_sound (plain_column booleans None) run ≡ true → AreBooleans v from n run
are_booleans v from n run is sound =
    let a : Array = view_array v in
    let sound_slots : is_run_sound (plain_column booleans None) (Slots v from n) ≡ true = rw is at sound in
    let parts = and_parts (is_sound (plain_column booleans None) a) (nat_le (from + n) (slots_in a)) sound_slots in
    let within : from + n ≤ slots_in a = leb-true (from + n) (slots_in a) parts.1 in
    let all = bits_long a parts.0 in
    let size : n ≡ from + n - from = omega arith in
    record {
      within = within;
      long = omega (arith, within, all);
      values = ap run_values is ∙ ap (λ (k : ℕ). map (bit (bits_in a)) (range_with_len from k)) size;
    }

pub no_values : (n : ℕ) (run : SlotRun) → run ≡ Nulls n → run_values run ≡ replicate n false
no_values n run is = ap run_values is
