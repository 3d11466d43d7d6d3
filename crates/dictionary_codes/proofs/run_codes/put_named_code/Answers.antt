use Rattle.std.specs.Prelude.{None, Some}
use Rattle.std.proofs.Common.{◌≡◌, ◌∙◌, sym}
use Rattle.arrow_schema.specs.View.{column_of}
use Rattle.dictionary_codes.proofs.CodedRuns.{hidden_cell}
use Rattle.dictionary_codes.proofs.Codes.{null_code}
use Rattle.dictionary_codes.proofs.Written.{put_is, set_already}
use Rattle.dictionary_codes.proofs.run_codes.put_named_code.Goals as goal
use Rattle.dictionary_codes.specs.Named.{named_cells}
use Rattle.cells.specs.Cell.{Cell, null}
use Rattle.columns.specs.CellAt.{cell_at}
use Rattle.columns.specs.View.{view_array}

pub returns-then-not-is_valid-clause-entries : goal.returns-then-not-is_valid-clause-entries
returns-then-not-is_valid-clause-entries g c = λ _.
    let cell : Cell = cell_at (column_of c.args.field.now) (view_array c.args.slots.view) c.args.i in
    let hidden : cell ≡ null = hidden_cell c.args.field.now c.args.slots.spec (view_array c.args.slots.view) c.args.i c.requires.slot.spec (sym c.is_valid.ensures ∙ c.if-not-is_valid.true) in
    (null_code (named_cells c.args.entries.now) cell hidden).0

pub returns-then-not-is_valid-clause-put : goal.returns-then-not-is_valid-clause-put
returns-then-not-is_valid-clause-put g c = λ _.
    let cell : Cell = cell_at (column_of c.args.field.now) (view_array c.args.slots.view) c.args.i in
    let hidden : cell ≡ null = hidden_cell c.args.field.now c.args.slots.spec (view_array c.args.slots.view) c.args.i c.requires.slot.spec (sym c.is_valid.ensures ∙ c.if-not-is_valid.true) in
    put_is g.row.SIZE c.args.place (named_cells c.args.entries.now) cell c.args.indices.now _ c.args.valid.now _ None (null_code (named_cells c.args.entries.now) cell hidden).1
    c.put_at.ensures.index c.put_at.ensures.valid

pub returns-in-Some-clause-put : goal.returns-in-Some-clause-put
returns-in-Some-clause-put g c = λ _.
    put_is g.row.SIZE c.args.place (named_cells c.args.entries.now) _ c.args.indices.now _ c.args.valid.now _ (Some c.in-Some.code) c.in-Some.ensures.code
    c.put_index.ensures (set_already c.args.valid.now c.args.place c.requires.set)
