-- How many slots a run has.
use Rattle.std.proofs.Common.{◌≡◌, ℕ, length, ap, ◌∙◌}
use Rattle.std.proofs.lemmas.List.FromFn.{length-map-range_with_len}
use Rattle.dictionary_codes.specs.Masks.{run_bits}
use Rattle.columns.specs.declared.slot_runs.SlotRun.{SlotRun}
use Rattle.columns.specs.declared.slot_runs.SlotRun.TheVariants.{Slots}
use Rattle.columns.specs.CellAt.{is_valid}
use Rattle.columns.specs.View.{view_array}
use Rattle.columns.specs.declared.view.ArrayView.{ArrayView}

pub slots_counted : (v : ArrayView) (from n : ℕ) (run : SlotRun) → run ≡ Slots v from n → length (run_bits run) ≡ n
slots_counted v from n run is = ap (λ (r : SlotRun). length (run_bits r)) is ∙ length-map-range_with_len (is_valid (view_array v)) from n
