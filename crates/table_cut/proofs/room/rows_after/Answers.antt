use Rattle.std.specs.List.{list_all}
use Rattle.std.proofs.Common.{◌≡◌, ◌++◌, ◌+◌, ◌∷◌, [], ℕ, List, take, refl, ap, sym, subst, ◌∙◌, arith}
use Rattle.std.proofs.lemmas.Bool.{and_from, le-leb, lt-leb}
use Rattle.std.proofs.lemmas.List.{append-nil}
use Rattle.std.proofs.lemmas.Result.{IfOk-weaker}
use Rattle.arrow_schema.specs.Column.{PlainSchema, Columns, columns_of}
use Rattle.arrow_schema.specs.View.{schema_of}
use Rattle.arrow_schema.specs.declared.types.Field.{Field}
use Rattle.cells.specs.Cell.{Cell}
use Rattle.cells.specs.Dictionary.{dictionaries_fit}
use Rattle.cells.specs.Row.{is_row}
use Rattle.columns.specs.View.{fields_of}
use Rattle.table_cut.specs.Rows.{run_rows, runs_rows}
use Rattle.table_cut.specs.declared.row_run.RowRun.{RowRun}
use Rattle.table_cut.specs.inner.Fit.{fit_with, AreCounted}
use Rattle.table_cut.specs.inner.Room.{row_in}
use Rattle.table_cut.proofs.FitLemmas.{all_fit, runs_counted}
use Rattle.table_cut.proofs.RoomLemmas.{one_row_more}
use Rattle.table_cut.proofs.room.rows_after.Goals as goal

pub columns_room-requires-clause-before : goal.columns_room-requires-clause-before
columns_room-requires-clause-before c =
    let piece : List RowRun = c.args.piece.now in
    subst (λ (fs : List Field). AreCounted 0 (fields_of fs) piece) (sym c.deref.ensures.value) (runs_counted (schema_of c.args.schema.now) piece c.requires.flat c.requires.after.before)

pub columns_room-requires-clause-own : goal.columns_room-requires-clause-own
columns_room-requires-clause-own c =
    let s : PlainSchema = schema_of c.args.schema.now in
    let own = c.requires.after.own in
    subst (λ (fs : List Field). AreCounted 0 (fields_of fs) (c.args.run ∷ [])) (sym c.deref.ensures.value)
    (runs_counted s (c.args.run ∷ []) c.requires.flat (record {
      sound = and_from _ _ own.sound refl;
      rows = ap (list_all (is_row s)) (append-nil (run_rows (columns_of s.columns) c.args.run)) ∙ own.rows;
    }))

pub columns_room-requires-clause-fits : goal.columns_room-requires-clause-fits
columns_room-requires-clause-fits c =
    let s : PlainSchema = schema_of c.args.schema.now in
    let piece : List RowRun = c.args.piece.now in
    ap (λ (fs : List Field). fit_with 0 (fields_of fs) piece c.args.run 0) c.deref.ensures.value ∙ all_fit s piece c.args.run 0
    ∙ ap (dictionaries_fit s) (append-nil (runs_rows (columns_of s.columns) piece)) ∙ c.requires.after.fits

pub returns : goal.returns
returns c =
    let s : PlainSchema = schema_of c.args.schema.now in
    let cs : Columns = columns_of s.columns in
    let piece : List RowRun = c.args.piece.now in
    let run : RowRun = c.args.run in
    let before : List (List Cell) = runs_rows cs piece in
    let same : (k : ℕ) → fit_with 0 (fields_of c.deref.result.now) piece run k ≡ dictionaries_fit s (before ++ take k (run_rows cs run)) =
    λ k. ap (λ (fs : List Field). fit_with 0 (fields_of fs) piece run k) c.deref.ensures.value ∙ all_fit s piece run k in
    IfOk-weaker c.columns_room.result _ _
    (λ n room. record {
      within = room.within;
      fits = sym (same n) ∙ room.room n room.within ∙ le-leb n n (omega arith);
      full = λ lt. ap (dictionaries_fit s) (one_row_more s before run n (row_in s run n) lt refl)
          ∙ sym (same (n + 1)) ∙ room.room (n + 1) (omega (arith, lt)) ∙ lt-leb (n + 1) n (omega arith);
    })
    c.columns_room.ensures
