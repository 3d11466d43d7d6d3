use Rattle.std.specs.Prelude.{List, [], ◌∷◌, map, length}
use Rattle.std.proofs.Common.{ap, sym, ◌∙◌}
use Rattle.arrow_schema.specs.Column.{Columns, columns_of}
use Rattle.columns.specs.Array.{Array, Arrays}
use Rattle.columns.specs.Built.{built_parts}
use Rattle.columns.specs.Buffers.{dictionaries_of}
use Rattle.arrays.specs.Checks.{batch_arrays, are_too_heavy}
use Rattle.ipc_canonical.specs.WrittenBatch.{written_batch, written_body}
use Rattle.ipc_canonical.proofs.Checked.{batch_is}
use Rattle.ipc_canonical.proofs.Answered.{fit_of_rows, light, slots_pass}
use Rattle.ipc_canonical.proofs.laws.written_rows_are_read.Goals as goal

pub returns : goal.returns
returns c s before rows w all weighs =
    let columns : Columns = columns_of s.columns in
    let xs : Arrays = built_parts columns rows in
    let slots = c.written_slots_pass.ensures in
    let fit = fit_of_rows s rows all in
    let back = c.built_reads_back.ensures.rows columns rows w.can in
    let known = c.dictionaries_are_written_alone.ensures.known columns rows w.can in
    let arrays = ap (λ (ds : List (List Array)). batch_arrays columns (written_batch columns xs (length rows)) (written_body columns xs) ds) (sym known) ∙ c.written_batches_pass.ensures.arrays columns rows w in
    batch_is s before (written_batch columns xs (length rows)) (written_body columns xs) (map (λ t. t.array ∷ []) (dictionaries_of columns xs)) xs arrays
    (c.written_batches_pass.ensures.checks columns rows w)
    (slots_pass s before (length rows) xs (slots.indices columns rows w.can fit) (slots.texts columns rows w.can fit) (slots.nulls columns rows w.can fit)
    (ap (are_too_heavy s before) back ∙ light s before rows all weighs))
