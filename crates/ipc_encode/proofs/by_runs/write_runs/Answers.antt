use Rattle.std.proofs.Common.{◌++◌, [], List, refl, arith}
use Rattle.arrow_schema.specs.Column.{PlainSchema, columns_of}
use Rattle.arrow_schema.specs.View.{schema_of}
use Rattle.ipc_canonical.specs.Canonical.{piece_messages, rows_messages}
use Rattle.ipc_encode.proofs.RunSteps.{all_left, none_left, some_left, first_piece, next_left}
use Rattle.ipc_encode.proofs.Steps.{first_written, last_written, next_written}
use Rattle.ipc_encode.specs.inner.Stream.{stream_in}
use Rattle.cells.specs.Cell.{Cell, PlainTable}
use Rattle.table_cut.specs.Left.{runs_left, rows_left}
use Rattle.table_cut.specs.Rows.{runs_rows, runs_table}
use Rattle.table_cut.specs.Cut.{pieces}
use Rattle.table_cut.specs.Piece.{within_piece}
use Rattle.ipc_encode.proofs.by_runs.write_runs.Goals as goal

pub loop-from-init : goal.loop-from-init
loop-from-init c =
    let s : PlainSchema = schema_of c.args.schema.now in
    let t : PlainTable = runs_table s (runs_left c.args.left.now) in
    record {
      left = all_left c.pieces_can_be_built.ensures s c.args.left.now c.args.rows t.rows refl c.requires.table c.requires.sound c.requires.count;
      written = first_written s t.rows (stream_in c.args.stream.now);
    }

pub next_piece-requires-clause-some : goal.next_piece-requires-clause-some
next_piece-requires-clause-some c = some_left c.loop-from.invariant.left c.loop-from-test.true

pub write_run_piece-requires-clause-piece : goal.write_run_piece-requires-clause-piece
write_run_piece-requires-clause-piece c = first_piece c.loop-from.invariant.left c.in_ok-piece.ensures.piece

pub overflow_add-from : goal.overflow_add-from
overflow_add-from c =
    let piece : List (List Cell) = runs_rows (columns_of (schema_of c.args.schema.now).columns) c.in_ok-piece.piece.runs.items in
    let next = next_left c.next_piece.new.self c.in_ok-piece.piece.rows piece c.loop-from.invariant.left c.in_ok-piece.ensures.piece c.in_ok-piece.ensures.front c.in_ok-piece.ensures.left c.in_ok-piece.ensures.count in
    omega (arith, next.within)

pub loop-from-preserved : goal.loop-from-preserved
loop-from-preserved c =
    let s : PlainSchema = schema_of c.args.schema.now in
    let is = c.loop-from.invariant in
    let old : List (List Cell) = rows_left (columns_of s.columns) c.loop-from.left in
    let new : List (List Cell) = rows_left (columns_of s.columns) c.next_piece.new.self in
    let piece : List (List Cell) = runs_rows (columns_of s.columns) c.in_ok-piece.piece.runs.items in
    record {
      left = next_left c.next_piece.new.self c.in_ok-piece.piece.rows piece is.left c.in_ok-piece.ensures.piece c.in_ok-piece.ensures.front c.in_ok-piece.ensures.left c.in_ok-piece.ensures.count;
      written = next_written (piece_messages s) (stream_in c.loop-from.stream) (stream_in c.write_run_piece.new.stream) [] (stream_in c.args.stream.now ++ rows_messages s (rows_left (columns_of s.columns) c.args.left.now)) piece
          (pieces (within_piece s) old) (pieces (within_piece s) new) c.in_ok-piece.ensures.piece c.in_ok-write_run_piece.ensures is.written;
    }

pub loop-from-smaller : goal.loop-from-smaller
loop-from-smaller c =
    let first = first_piece c.loop-from.invariant.left c.in_ok-piece.ensures.piece in
    omega (arith, first.some, c.in_ok-piece.ensures.count, c.loop-from-test.true)

pub returns : goal.returns
returns c =
    let s : PlainSchema = schema_of c.args.schema.now in
    let none = none_left c.loop-from.invariant.left c.loop-from-test.false in
    last_written s (stream_in c.loop-from.stream) (stream_in c.args.stream.now ++ rows_messages s (rows_left (columns_of s.columns) c.args.left.now)) (rows_left (columns_of s.columns) c.loop-from.left) none c.loop-from.invariant.written
