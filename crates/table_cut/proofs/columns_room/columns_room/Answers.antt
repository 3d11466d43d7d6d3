use Rattle.std.specs.Prelude.{◌&&◌, nat_le}
use Rattle.std.specs.List.{flat_map}
use Rattle.std.proofs.Common.{◌+◌, ◌∷◌, [], ℕ, Bool, List, ap, arith, drop, sym, ◌∙◌}
use Rattle.std.proofs.Math.Bool.{and-true}
use Rattle.std.proofs.lemmas.Bool.{and_parts}
use Rattle.std.proofs.lemmas.List.{append-nil, drop_all}
use Rattle.arrow_schema.specs.View.{column_of}
use Rattle.arrow_schema.specs.declared.types.Field.{Field}
use Rattle.cells.specs.Cell.{Cell}
use Rattle.columns.specs.View.{fields_of}
use Rattle.facts.specs.laws.Lists.{drop-item}
use Rattle.table_cut.specs.declared.row_run.RowRun.{RowRun}
use Rattle.table_cut.specs.inner.Columns.{cells_at_place}
use Rattle.table_cut.specs.inner.Fit.{column_fits, fit_with}
use Rattle.table_cut.proofs.FitLemmas.{first_counted, least_room, next_fits, run_counted}
use Rattle.table_cut.proofs.columns_room.columns_room.Goals as goal

pub column_room-requires-clause-before : goal.column_room-requires-clause-before
column_room-requires-clause-before c =
    let item = drop-item c.args.fields.now c.loop-place.place c.index-fields-place.result c.loop-place-test.true c.index-fields-place.is in
    (first_counted c.args.fields.now c.loop-place.place c.index-fields-place.result c.args.piece.now item c.loop-place.invariant.before).0

pub column_room-requires-clause-own : goal.column_room-requires-clause-own
column_room-requires-clause-own c =
    let item = drop-item c.args.fields.now c.loop-place.place c.index-fields-place.result c.loop-place-test.true c.index-fields-place.is in
    (first_counted c.args.fields.now c.loop-place.place c.index-fields-place.result (c.args.run ∷ []) item c.loop-place.invariant.own).0

pub column_room-requires-clause-fits : goal.column_room-requires-clause-fits
column_room-requires-clause-fits c =
    let fields : List Field = c.args.fields.now in
    let i : ℕ = c.loop-place.place in
    let field : Field = c.index-fields-place.result in
    let item = drop-item fields i field c.loop-place-test.true c.index-fields-place.is in
    let before : List Cell = flat_map (cells_at_place i (column_of field)) c.args.piece.now in
    let both = and_parts _ _ (sym (next_fits fields i field c.args.piece.now c.args.run 0 item) ∙ c.loop-place.invariant.fits) in
    ap (column_fits (column_of field)) (sym (append-nil before)) ∙ both.0

pub loop-place-preserved : goal.loop-place-preserved
loop-place-preserved c =
    let fields : List Field = c.args.fields.now in
    let piece : List RowRun = c.args.piece.now in
    let run : RowRun = c.args.run in
    let i : ℕ = c.loop-place.place in
    let field : Field = c.index-fields-place.result in
    let n : ℕ = c.in_ok-column_room.field-0 in
    let is = c.loop-place.invariant in
    let item = drop-item fields i field c.loop-place-test.true c.index-fields-place.is in
    let size = run_counted i (column_of field) run in
    let rest : ℕ → Bool = fit_with (i + 1) (fields_of (drop (i + 1) fields)) piece run in
    record {
      before = (first_counted fields i field piece item is.before).1;
      own = (first_counted fields i field (run ∷ []) item is.own).1;
      fits = (and_parts _ _ (sym (next_fits fields i field piece run 0 item) ∙ is.fits)).1;
      within = omega (arith, is.within, c.min-rows.ensures);
      room = λ k le.
          is.room k le
          ∙ ap (λ (b : Bool). nat_le k c.loop-place.rows && b) (next_fits fields i field piece run k item)
          ∙ ap (λ (b : Bool). nat_le k c.loop-place.rows && (b && rest k)) (c.in_ok-column_room.ensures.room k (omega (arith, le, size)))
          ∙ least_room k c.loop-place.rows n c.min-rows.result (rest k) (omega (arith, c.min-rows.ensures)) (omega (arith, c.min-rows.ensures)) (λ a b. omega (arith, c.min-rows.ensures, a, b));
    }

pub returns : goal.returns
unfolding fit_with
returns c =
    let fields : List Field = c.args.fields.now in
    let i : ℕ = c.loop-place.place in
    let rows : ℕ = c.loop-place.rows in
    record {
      within = c.loop-place.invariant.within;
      room = λ k le.
          c.loop-place.invariant.room k le
          ∙ ap (λ (fs : List Field). nat_le k rows && fit_with i (fields_of fs) c.args.piece.now c.args.run k) (drop_all i fields c.loop-place-test.false)
          ∙ and-true (nat_le k rows);
    }
