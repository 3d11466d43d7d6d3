use Rattle.std.specs.Prelude.{Vec}
use Rattle.std.specs.Global.{Global}
use Rattle.std.proofs.Common.{◌≡◌, true, ◌∙◌, List, [], drop, ap, refl, subst, sym}
use Rattle.dictionary_codes.specs.laws.MaskedRuns.{cells_without, no_mask}
use Rattle.array_build.proofs.RunColumns.{column_arrays, last_column, next_left, place_left}
use Rattle.array_build.proofs.by_runs.build_run_parts.Goals as goal
use Rattle.batch_build.specs.Batch.{batch_in, built_at, with_arrays}
use Rattle.columns.specs.Runs.{are_runs_sound, runs_cells}
use Rattle.columns.specs.declared.slot_runs.SlotRun.{SlotRun}
use Rattle.arrow_schema.specs.View.{column_of}
use Rattle.arrow_schema.specs.declared.types.Field.{Field}
use Rattle.cells.specs.Cell.{Cell}
use Rattle.columns.specs.Buildable.{can_build}
use Rattle.facts.specs.laws.Lists.{drop-item}

pub bounds-columns-place : goal.bounds-columns-place
bounds-columns-place c =
    let item = drop-item c.args.fields.now c.loop-place.place c.index-fields-place.result c.loop-place-test.true c.index-fields-place.is in
    place_left c.args.fields.now c.loop-place.place c.index-fields-place.result c.args.columns.now item c.loop-place.invariant.left

pub build_run_column-requires-clause-sound : goal.build_run_column-requires-clause-sound
build_run_column-requires-clause-sound c =
    let field : Field = c.index-fields-place.result in
    let item = drop-item c.args.fields.now c.loop-place.place field c.loop-place-test.true c.index-fields-place.is in
    let within = place_left c.args.fields.now c.loop-place.place field c.args.columns.now item c.loop-place.invariant.left in
    let here = drop-item c.args.columns.now c.loop-place.place c.index-columns-place.result within c.index-columns-place.is in
    let own = (next_left c.args.fields.now c.loop-place.place field c.args.columns.now c.index-columns-place.result item here c.loop-place.invariant.left).0 in
    subst (λ (runs : List SlotRun). are_runs_sound (column_of field) runs ≡ true) (sym c.deref.ensures.value) own.sound

pub build_run_column-requires-clause-mask : goal.build_run_column-requires-clause-mask
build_run_column-requires-clause-mask c = no_mask [] c.deref.result.now refl

pub build_run_column-requires-clause-fits : goal.build_run_column-requires-clause-fits
build_run_column-requires-clause-fits c =
    let field : Field = c.index-fields-place.result in
    let item = drop-item c.args.fields.now c.loop-place.place field c.loop-place-test.true c.index-fields-place.is in
    let within = place_left c.args.fields.now c.loop-place.place field c.args.columns.now item c.loop-place.invariant.left in
    let here = drop-item c.args.columns.now c.loop-place.place c.index-columns-place.result within c.index-columns-place.is in
    let own = (next_left c.args.fields.now c.loop-place.place field c.args.columns.now c.index-columns-place.result item here c.loop-place.invariant.left).0 in
    ap (can_build (column_of field)) (cells_without (column_of field) [] c.deref.result.now refl)
    ∙ subst (λ (runs : List SlotRun). can_build (column_of field) (runs_cells (column_of field) runs) ≡ true) (sym c.deref.ensures.value) own.fits

pub loop-place-preserved : goal.loop-place-preserved
loop-place-preserved c =
    let fields : List Field = c.args.fields.now in
    let field : Field = c.index-fields-place.result in
    let columns : List (Vec SlotRun Global) = c.args.columns.now in
    let column : Vec SlotRun Global = c.index-columns-place.result in
    let item = drop-item fields c.loop-place.place field c.loop-place-test.true c.index-fields-place.is in
    let within = place_left fields c.loop-place.place field columns item c.loop-place.invariant.left in
    let here = drop-item columns c.loop-place.place column within c.index-columns-place.is in
    let built = c.in_ok-build_run_column.ensures
    ∙ ap (λ (cells : List Cell). with_arrays (batch_in c.loop-place.batch) (built_at (column_of field) cells)) (cells_without (column_of field) [] c.deref.result.now refl)
    ∙ ap (λ (runs : List SlotRun). with_arrays (batch_in c.loop-place.batch) (built_at (column_of field) (runs_cells (column_of field) runs))) c.deref.ensures.value in
    record {
      left = (next_left fields c.loop-place.place field columns column item here c.loop-place.invariant.left).1;
      batch = column_arrays fields c.loop-place.place field columns column (batch_in c.loop-place.batch) (batch_in c.build_run_column.new.batch) item here built ∙ c.loop-place.invariant.batch;
    }

pub returns : goal.returns
returns c =
    sym (last_column c.args.fields.now c.loop-place.place (drop c.loop-place.place c.args.columns.now) (batch_in c.loop-place.batch) c.loop-place-test.false) ∙ c.loop-place.invariant.batch
