use Rattle.std.specs.List.{list_all}
use Rattle.std.proofs.Common.{◌∙◌, List, map, ap, sym}
use Rattle.std.proofs.lemmas.Bool.{and_parts}
use Rattle.arrow_schema.specs.Column.{Columns, columns_of}
use Rattle.arrow_schema.specs.declared.types.Field.{Field}
use Rattle.arrow_schema.specs.View.{column_of}
use Rattle.facts.specs.laws.Lists.{drop-item}
use Rattle.cells.specs.Cell.{Cell}
use Rattle.columns.specs.Buildable.{can_build, can_build_parts, has_each_part}
use Rattle.columns.specs.Borrowed.{borrowed_cell, borrowed_cells}
use Rattle.batch_build.specs.Batch.{PlainBatch, batch_in, built_at, built_below, with_arrays}
use Rattle.batch_build.proofs.PartColumns.{rows_start, field_can, field_arrays, last_field}
use Rattle.batch_build.proofs.building.build.Goals as goal

pub loop-place-init : goal.loop-place-init
loop-place-init c =
    let columns : Columns = columns_of (map column_of c.args.fields.now) in
    let rows : List (List Cell) = map borrowed_cells c.args.rows.now in
    let all = and_parts (list_all (has_each_part columns) rows) (can_build_parts columns rows) c.requires in
    record {
      can = ap (can_build_parts columns) (rows_start rows) ∙ all.1;
      batch = ap (λ (xs : List (List Cell)). with_arrays (batch_in c.empty_batch-batch.result) (built_below columns xs)) (rows_start rows)
          ∙ ap (λ (p : PlainBatch). with_arrays p (built_below columns rows)) c.empty_batch-batch.ensures;
    }

pub build_column-requires : goal.build_column-requires
build_column-requires c =
    let fields : List Field = c.args.fields.now in
    let field : Field = c.index-fields-place.result in
    let item = drop-item fields c.loop-place.place field c.loop-place-test.true c.index-fields-place.is in
    let here = field_can fields c.loop-place.place field (map borrowed_cells c.args.rows.now) item c.loop-place.invariant.can in
    ap (can_build (column_of field)) (ap (map borrowed_cell) c.deref.ensures.value ∙ c.in_ok-cells.ensures) ∙ here.0

pub loop-place-preserved : goal.loop-place-preserved
loop-place-preserved c =
    let fields : List Field = c.args.fields.now in
    let field : Field = c.index-fields-place.result in
    let rows : List (List Cell) = map borrowed_cells c.args.rows.now in
    let before : PlainBatch = batch_in c.loop-place.batch in
    let item = drop-item fields c.loop-place.place field c.loop-place-test.true c.index-fields-place.is in
    let built = c.in_ok-build_column.ensures
    ∙ ap (λ (xs : List Cell). with_arrays before (built_at (column_of field) xs)) (ap (map borrowed_cell) c.deref.ensures.value ∙ c.in_ok-cells.ensures) in
    record {
      can = (field_can fields c.loop-place.place field rows item c.loop-place.invariant.can).1;
      batch = field_arrays fields c.loop-place.place field rows before (batch_in c.build_column.new.batch) item built ∙ c.loop-place.invariant.batch;
    }

pub returns : goal.returns
returns c =
    sym (last_field c.args.fields.now c.loop-place.place (map borrowed_cells c.args.rows.now) (batch_in c.loop-place.batch) c.loop-place-test.false) ∙ c.loop-place.invariant.batch
