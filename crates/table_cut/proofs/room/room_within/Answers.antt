use Rattle.std.proofs.Common.{◌≤◌, ◌++◌, List, length, sym, ◌∙◌, arith, length-append}
use Rattle.std.proofs.lemmas.Result.{IfOk-weaker}
use Rattle.arrow_schema.specs.Column.{PlainSchema, Columns, columns_of}
use Rattle.arrow_schema.specs.View.{schema_of}
use Rattle.cells.specs.Cell.{Cell}
use Rattle.cells.specs.declared.limits.TheConstants.{MAX_PIECE_ROWS}
use Rattle.table_cut.specs.Rows.{run_rows, runs_rows}
use Rattle.table_cut.specs.laws.Runs.{run_size}
use Rattle.table_cut.proofs.FillingLemmas.{filled_is_limited, rows_fill_none}
use Rattle.table_cut.proofs.RoomLemmas.{all_room}
use Rattle.table_cut.proofs.room.room_within.Goals as goal

pub room_for-requires-clause-limited : goal.room_for-requires-clause-limited
room_for-requires-clause-limited c =
    filled_is_limited MAX_PIECE_ROWS (columns_of (schema_of c.args.schema.now).columns) (sym c.requires.can_fill ∙ c.if-can_fill.true)

pub room_for-requires-clause-seen : goal.room_for-requires-clause-seen
room_for-requires-clause-seen c = c.requires.seen (sym c.requires.can_fill ∙ c.if-can_fill.true)

pub returns-then-can_fill : goal.returns-then-can_fill
returns-then-can_fill c = record {
  room = IfOk-weaker c.room_for.result _ _ (λ room is. is.room) c.room_for.ensures;
  seen = IfOk-weaker c.room_for.result _ _ (λ room is all filled. is.known all) c.room_for.ensures;
}

pub returns : goal.returns
returns c =
    let s : PlainSchema = schema_of c.args.schema.now in
    let cs : Columns = columns_of s.columns in
    let free = sym c.requires.can_fill ∙ c.if-can_fill.false in
    let before : List (List Cell) = runs_rows cs c.args.piece.now in
    let own : List (List Cell) = run_rows cs c.args.run in
    let few : length (before ++ own) ≤ MAX_PIECE_ROWS = omega (arith, length-append before own, run_size cs c.args.run, c.requires.few) in
    record {
      room = all_room s before c.args.run (rows_fill_none MAX_PIECE_ROWS s (before ++ own) free few);
      seen = λ all filled. absurd cc;
    }
