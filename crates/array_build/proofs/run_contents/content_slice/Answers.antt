use Rattle.std.specs.Prelude.{None}
use Rattle.std.specs.List.{flat_map}
use Rattle.std.proofs.Common.{◌∙◌, ap, sym}
use Rattle.arrow_schema.specs.Column.{Kind}
use Rattle.arrow_schema.specs.View.{kind_of}
use Rattle.array_build.proofs.run_contents.content_slice.Goals as goal
use Rattle.batch_build.specs.Batch.{plain_column}
use Rattle.columns.specs.Runs.{run_cells}
use Rattle.columns.specs.declared.slot_runs.SlotRun.{SlotRun}
use Rattle.columns.specs.Built.{contents_of}

pub returns-in-Slots : goal.returns-in-Slots
returns-in-Slots c =
    let kind : Kind = kind_of c.args.data_type.now in
    c.run_slice.ensures ∙ ap (λ (run : SlotRun). flat_map contents_of (run_cells (plain_column kind None) run)) (sym c.in-Slots.is)
