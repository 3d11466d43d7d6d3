use Rattle.std.proofs.Common.{◌+◌, List, ap, ◌∙◌, arith}
use Rattle.arrow_schema.specs.declared.types.Field.{Field}
use Rattle.arrow_schema.specs.View.{schema_of}
use Rattle.columns.specs.CellAt.{part_cells, row_at}
use Rattle.columns.specs.Texts.{have_utf8_texts}
use Rattle.columns.specs.View.{fields_of}
use Rattle.table_cut.specs.Rows.{arrays_of_run}
use Rattle.table_cut.proofs.RoomLemmas.{row_utf8}
use Rattle.table_cut.proofs.SpanWeights.{sound_front}
use Rattle.table_cut.proofs.room.row_of.Goals as goal

pub row-requires-clause-sound : goal.row-requires-clause-sound
row-requires-clause-sound c =
    sound_front c.deref.result.now c.args.schema.now.fields.items (arrays_of_run c.args.run) (c.args.run.from + c.args.run.len) (c.args.run.from + c.args.run.len) c.deref.ensures.value c.requires.run.sound (omega arith)

pub row-requires-clause-texts : goal.row-requires-clause-texts
row-requires-clause-texts c =
    ap (λ (fields : List Field). have_utf8_texts (part_cells (fields_of fields) (arrays_of_run c.args.run) (c.args.run.from + c.args.i))) c.deref.ensures.value
    ∙ row_utf8 (schema_of c.args.schema.now) c.args.run c.args.i c.requires.run.rows c.requires.within

pub returns : goal.returns
returns c =
    c.row.ensures
    ∙ ap (λ (fields : List Field). row_at (fields_of fields) (arrays_of_run c.args.run) (c.args.run.from + c.args.i)) c.deref.ensures.value
