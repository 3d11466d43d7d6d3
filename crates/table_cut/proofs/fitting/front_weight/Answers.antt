use Rattle.std.proofs.Common.{◌+◌, map, sym, ap, ◌∙◌, arith}
use Rattle.arrow_schema.specs.Column.{columns_of}
use Rattle.arrow_schema.specs.View.{column_of, schema_of}
use Rattle.cells.specs.Cell.{Cell}
use Rattle.cells.specs.Weight.{capped_weight, table_weight}
use Rattle.std.proofs.Common.{List}
use Rattle.table_cut.specs.Rows.{arrays_of_run}
use Rattle.table_cut.proofs.RowLemmas.{front_rows}
use Rattle.table_cut.proofs.SpanWeights.{sound_front}
use Rattle.table_cut.proofs.fitting.front_weight.Goals as goal

pub row_span_weight-requires : goal.row_span_weight-requires
row_span_weight-requires c =
    sound_front c.deref.result.now c.args.schema.now.fields.items (arrays_of_run c.args.run) (c.args.run.from + c.args.run.len) (c.args.run.from + c.args.rows) c.deref.ensures.value c.requires.sound (omega (arith, c.requires.within))

pub returns : goal.returns
returns c =
    let s = schema_of c.args.schema.now in
    c.row_span_weight.ensures s (ap (map column_of) (sym c.deref.ensures.value))
    ∙ ap (λ (rows : List (List Cell)). capped_weight (table_weight s rows)) (front_rows (columns_of s.columns) (arrays_of_run c.args.run) c.args.run.from c.args.run.len c.args.rows c.requires.within)
