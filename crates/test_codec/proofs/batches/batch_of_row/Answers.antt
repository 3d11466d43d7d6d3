use Rattle.std.proofs.Common.{◌∙◌, List, [], ◌∷◌, map, ap, sym}
use Rattle.arrow_schema.specs.Column.{PlainSchema, columns_of}
use Rattle.arrow_schema.specs.View.{column_of}
use Rattle.arrow_schema.specs.declared.types.Field.{Field}
use Rattle.cells.specs.Cell.{Cell}
use Rattle.columns.specs.Buildable.{can_build_rows}
use Rattle.columns.specs.Borrowed.{borrowed_cells}
use Rattle.values.specs.TableView.{table_of}
use Rattle.test_codec.proofs.FirstRow.{first_can_be_built}
use Rattle.test_codec.proofs.batches.batch_of_row.Goals as goal

pub build-requires : goal.build-requires
build-requires c =
    let row : List Cell = borrowed_cells c.in-Some.row in
    ap (λ (fields : List Field). can_build_rows (columns_of (map column_of fields)) (row ∷ [])) c.deref.ensures.value
    ∙ ap (λ (s : PlainSchema). can_build_rows (columns_of s.columns) (row ∷ [])) c.schema.ensures.schema
    ∙ first_can_be_built c.rows_can_be_built.ensures (table_of c.args.table.now) row c.schema.ensures.kept (sym c.in-Some.ensures)
