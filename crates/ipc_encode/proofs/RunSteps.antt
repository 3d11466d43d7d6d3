-- What the columns of a piece's rows are, whatever the fields stand in, and the rows that are left after some pieces.
use Rattle.std.specs.List.{AllByRecursion, list_all}
use Rattle.std.proofs.Common.{◌≡◌, ◌≢◌, ◌+◌, ◌<◌, ◌≤◌, ℕ, true, List, [], ◌∷◌, ◌++◌, length, refl, sym, ap, subst, ◌∙◌, arith, length-append}
use Rattle.std.proofs.lemmas.Bool.{and_parts}
use Rattle.std.proofs.lemmas.List.Folds.{list_all-append}
use Rattle.std.proofs.lemmas.List.Sums.{list_all-from_AllPass}
use Rattle.columns.specs.Runs.{HaveRuns, are_columns_sound, can_build_columns}
use Rattle.columns.specs.declared.slot_runs.SlotRun.{SlotRun}
use Rattle.columns.specs.laws.RunsOfRows.{runs_can_be_built}
use Rattle.arrow_schema.specs.Column.{PlainSchema, Columns, columns_of}
use Rattle.arrow_schema.specs.declared.types.Field.{Field}
use Rattle.ipc_canonical.specs.Pieces.{IsPieceOf}
use Rattle.cells.specs.Cell.{Cell, PlainTable}
use Rattle.cells.specs.Row.{is_row}
use Rattle.columns.specs.Buildable.{can_build_parts, has_each_part}
use Rattle.columns.specs.View.{fields_of}
use Rattle.table_cut.specs.Left.{runs_left, rows_left}
use Rattle.table_cut.specs.Rows.{runs_rows, are_runs_sound}
use Rattle.table_cut.specs.declared.left.RowsLeft.{RowsLeft}
use Rattle.table_cut.specs.declared.row_run.RowRun.{RowRun}
use Rattle.table_cut.specs.Cut.{pieces}
use Rattle.table_cut.specs.Piece.{pieces_of, within_piece}
use Rattle.values.specs.PlainTables.{plain_table}
use Rattle.values.specs.Table.{IsTable}

-- the runs of rows, by columns that are given again
abbrev pub AreRunsOf : List Field → List (List SlotRun) → List RowRun → Type 0
AreRunsOf fields columns runs = HaveRuns (fields_of fields) columns (runs_rows (fields_of fields) runs)

pub same_runs : (fields own : List Field) (columns given : List (List SlotRun)) (runs : List RowRun) → fields ≡ own → given ≡ columns → AreRunsOf fields columns runs → AreRunsOf own given runs
same_runs fields own columns given runs same is have =
    subst (λ (xs : List (List SlotRun)). AreRunsOf own xs runs) (sym is) (subst (λ (fs : List Field). AreRunsOf fs columns runs) same have)

pub same_sound : (fields own : List Field) (columns given : List (List SlotRun)) → fields ≡ own → given ≡ columns → are_columns_sound (fields_of fields) columns ≡ true → are_columns_sound (fields_of own) given ≡ true
same_sound fields own columns given same is sound =
    subst (λ (xs : List (List SlotRun)). are_columns_sound (fields_of own) xs ≡ true) (sym is) (subst (λ (fs : List Field). are_columns_sound (fields_of fs) columns ≡ true) same sound)

pub piece_can : (s : PlainSchema) (rows : List (List Cell)) (columns : List (List SlotRun)) → IsPieceOf s rows → HaveRuns (columns_of s.columns) columns rows → can_build_columns (columns_of s.columns) columns ≡ true
piece_can s rows columns piece have =
    let cs : Columns = columns_of s.columns in
    runs_can_be_built cs columns rows have (and_parts (list_all (has_each_part cs) rows) (can_build_parts cs rows) piece.built).1

-- ---- the rows that are left

-- what is known of a table's pieces: a clause of a law
abbrev pub PiecesLaw : Type 0
PiecesLaw = (t : PlainTable) → IsTable t → AllByRecursion (IsPieceOf t.schema) (pieces_of t)

-- the rows of a table that are left after n: all others of n, in pieces
pub record AreLeft (s : PlainSchema) (left : RowsLeft) (from rows : ℕ) : Type 0 where
  pub within : from + length (rows_left (columns_of s.columns) left) ≡ rows
  pub are : list_all (is_row s) (rows_left (columns_of s.columns) left) ≡ true
  pub sound : are_runs_sound (columns_of s.columns) (runs_left left) ≡ true
  pub each : AllByRecursion (IsPieceOf s) (pieces (within_piece s) (rows_left (columns_of s.columns) left))

pub all_left : PiecesLaw → (s : PlainSchema) (left : RowsLeft) (rows : ℕ) (all : List (List Cell)) → rows_left (columns_of s.columns) left ≡ all → IsTable (plain_table s all)
    → are_runs_sound (columns_of s.columns) (runs_left left) ≡ true → rows ≡ length all → AreLeft s left 0 rows
all_left law s left rows all is table sound count = record {
  within = omega (arith, ap length is, count);
  are = ap (list_all (is_row s)) is ∙ list_all-from_AllPass (is_row s) all table.rows;
  sound = sound;
  each = subst (λ (xs : List (List Cell)). AllByRecursion (IsPieceOf s) (pieces (within_piece s) xs)) (sym is) (law (plain_table s all) table);
}

not_empty : (rows : List (List Cell)) → 1 ≤ length rows → rows ≢ []
not_empty [] some = absurd (omega arith)
not_empty (row ∷ rows) some = λ h. cc

pub some_left : {s : PlainSchema} {left : RowsLeft} {from rows : ℕ} → AreLeft s left from rows → from < rows → rows_left (columns_of s.columns) left ≢ []
some_left {s = s} {left = left} is more = not_empty (rows_left (columns_of s.columns) left) (omega (arith, is.within, more))

no_rows : (rows : List (List Cell)) → length rows ≤ 0 → rows ≡ []
no_rows [] none = refl
no_rows (row ∷ rows) none = absurd (omega (arith, none))

pub none_left : {s : PlainSchema} {left : RowsLeft} {from rows : ℕ} → AreLeft s left from rows → rows ≤ from → rows_left (columns_of s.columns) left ≡ []
none_left {s = s} {left = left} is past = no_rows (rows_left (columns_of s.columns) left) (omega (arith, is.within, past))

pub first_piece : {s : PlainSchema} {left : RowsLeft} {from rows : ℕ} {piece : List (List Cell)} {rest : List (List (List Cell))} → AreLeft s left from rows
    → pieces (within_piece s) (rows_left (columns_of s.columns) left) ≡ piece ∷ rest → IsPieceOf s piece
first_piece {s = s} is cut = (subst (AllByRecursion (IsPieceOf s)) cut is.each).0

-- the rows of the first piece are rows of the table, and those after it are
pub next_left : {s : PlainSchema} {old : RowsLeft} {from rows : ℕ} (new : RowsLeft) (count : ℕ) (piece : List (List Cell)) → AreLeft s old from rows
    → pieces (within_piece s) (rows_left (columns_of s.columns) old) ≡ piece ∷ pieces (within_piece s) (rows_left (columns_of s.columns) new)
    → rows_left (columns_of s.columns) old ≡ piece ++ rows_left (columns_of s.columns) new → are_runs_sound (columns_of s.columns) (runs_left new) ≡ true
    → count ≡ length piece → AreLeft s new (from + count) rows
next_left {s = s} new count piece is cut front sound many =
    let rest : List (List Cell) = rows_left (columns_of s.columns) new in
    let are : list_all (is_row s) (piece ++ rest) ≡ true = sym (ap (list_all (is_row s)) front) ∙ is.are in
    record {
      within = omega (arith, is.within, many, ap length front, length-append piece rest);
      are = (and_parts (list_all (is_row s) piece) (list_all (is_row s) rest) (sym (list_all-append (is_row s) piece rest) ∙ are)).1;
      sound = sound;
      each = (subst (AllByRecursion (IsPieceOf s)) cut is.each).1;
    }
