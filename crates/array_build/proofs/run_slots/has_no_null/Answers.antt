use Rattle.std.specs.List.{list_all, range_with_len}
use Rattle.std.proofs.Common.{Bool, ap, sym, ◌∙◌}
use Rattle.std.proofs.lemmas.List.Folds.{list_all-map}
use Rattle.dictionary_codes.specs.Masks.{run_bits}
use Rattle.columns.specs.declared.slot_runs.SlotRun.{SlotRun}
use Rattle.columns.specs.CellAt.{is_valid}
use Rattle.columns.specs.View.{view_array}
use Rattle.array_build.proofs.run_slots.has_no_null.Goals as goal

pub returns-in-Slots : goal.returns-in-Slots
returns-in-Slots c =
    c.are_all_valid.ensures
    ∙ sym (list_all-map (λ (b : Bool). b) (is_valid (view_array c.in-Slots.array)) (range_with_len c.in-Slots.from c.in-Slots.len))
    ∙ ap (λ (run : SlotRun). list_all (λ (b : Bool). b) (run_bits run)) (sym c.in-Slots.is)
