use Rattle.std.proofs.Common.{List, ap, ◌∙◌}
use Rattle.arrow_schema.specs.View.{column_of, index_of}
use Rattle.array_build.proofs.CodeArrays.{codes_are}
use Rattle.array_build.specs.inner.Runs.{with_run_slots}
use Rattle.batch_build.specs.Batch.{batch_in}
use Rattle.batch_build.specs.Nodes.{with_buffer}
use Rattle.cells.specs.Cell.{Cell}
use Rattle.dictionary_codes.specs.Masks.{masked_cells}
use Rattle.array_build.proofs.run_indices.push_run_indices.Goals as goal

pub returns-clause-batch : goal.returns-clause-batch
returns-clause-batch c =
    let cells : List Cell = masked_cells (column_of c.args.field.now) c.args.mask.now c.args.runs.now in
    let codes = c.in_ok-codes.ensures in
    c.in_ok-push_any_buffer.ensures
    ∙ ap (with_buffer (batch_in c.push_bit_slots.new.batch)) c.kept_buffer.ensures
    ∙ codes_are (batch_in c.args.batch.now) (batch_in c.push_bit_slots.new.batch) (index_of c.args.spec) cells c.in_ok-codes.codes.indices.items c.in_ok-codes.codes.valid.items
    (c.in_ok-push_bit_slots.ensures ∙ ap (with_run_slots (batch_in c.args.batch.now)) c.deref.ensures.value) codes.valid codes.indices
