use Rattle.std.specs.Prelude.{replicate}
use Rattle.std.proofs.Common.{◌≡◌, ◌∙◌, ℕ, List, length, ap, sym}
use Rattle.std.proofs.lemmas.List.{length-replicate}
use Rattle.arrow_schema.specs.Column.{Column}
use Rattle.arrow_schema.specs.View.{column_of}
use Rattle.cells.specs.Cell.{Cell, null}
use Rattle.cells.specs.Dictionary.{with_entries}
use Rattle.columns.specs.Runs.{run_cells}
use Rattle.columns.specs.declared.slot_runs.SlotRun.{SlotRun}
use Rattle.dictionary_codes.specs.Named.{named_cells}
use Rattle.dictionary_codes.proofs.Codes.{nulls_add_nothing}
use Rattle.dictionary_codes.proofs.Named.{all_named}
use Rattle.dictionary_codes.proofs.named_slots.name_slots.Goals as goal

pub returns-in-Nulls : goal.returns-in-Nulls
returns-in-Nulls c =
    let col : Column = column_of c.args.field.now in
    let start : List Cell = named_cells c.args.entries.now in
    let n : ℕ = c.in-Nulls.count in
    let cells : run_cells col c.args.run ≡ replicate n null = ap (λ (r : SlotRun). run_cells col r) c.in-Nulls.is in
    let size : length (run_cells col c.args.run) ≡ n = ap length cells ∙ length-replicate n null in
    let same : with_entries start (run_cells col c.args.run) ≡ start = ap (with_entries start) cells ∙ nulls_add_nothing start n in
    all_named c.args.most start start (run_cells col c.args.run) n (sym size) (sym same) c.requires.few
