use Rattle.std.proofs.Common.{List, map, ap, sym, ◌∙◌}
use Rattle.std.specs.Prelude.{IfOk}
use Rattle.std.proofs.lemmas.List.{length-map}
use Rattle.std.proofs.lemmas.Result.{IfOk-weaker}
use Rattle.arrow_schema.specs.Column.{PlainSchema, columns_of}
use Rattle.arrow_schema.specs.View.{column_of, schema_of}
use Rattle.arrow_schema.specs.declared.types.Field.{Field}
use Rattle.ipc_encode.proofs.Steps.{PieceLaws, IsBuiltPiece, built_piece}
use Rattle.batch_build.specs.Batch.{batch_of, built_below}
use Rattle.cells.specs.Cell.{Cell}
use Rattle.columns.specs.Borrowed.{borrowed_cells}
use Rattle.ipc_encode.proofs.messages.build_piece.Goals as goal

pub returns : goal.returns
returns c =
    let s : PlainSchema = schema_of c.args.schema.now in
    let rows : List (List Cell) = map borrowed_cells c.args.rows.now in
    let laws : PieceLaws = record {
      weight = c.written_arrays_have_their_shape.ensures.weight;
      alone = c.dictionaries_are_written_alone.ensures.alone;
      batch = c.written_batches_pass.ensures.writable;
      entries = c.written_entries_are_read.ensures.writable;
    } in
    let fields = ap (λ (fs : List Field). batch_of (built_below (columns_of (map column_of fs)) rows)) c.deref.ensures.value in
    let piece : IfOk c.build.result (IsBuiltPiece s rows) = IfOk-weaker c.build.result _ (IsBuiltPiece s rows) (λ b is. built_piece laws s rows b c.requires (is ∙ fields)) c.build.ensures in
    let count = length-map c.args.rows.now borrowed_cells in
    record {
      entries = IfOk-weaker c.build.result _ _ (λ b is. is.entries) piece;
      rows = IfOk-weaker c.build.result _ _ (λ b is. rw (sym count) is.batch) piece;
      few_entries = IfOk-weaker c.build.result _ _ (λ b is. is.few_entries) piece;
      few_rows = IfOk-weaker c.build.result _ _ (λ b is. is.few_rows) piece;
    }
