use Rattle.std.specs.Global.{Vec}
use Rattle.std.specs.List.{AllByRecursion}
use Rattle.std.proofs.Common.{◌≡◌, ◌<◌, ◌^◌, ◌++◌, List, ℕ, [], ◌∷◌, length, refl, ap, sym, subst, ◌∙◌, arith}
use Rattle.std.proofs.lemmas.List.{map-append}
use Rattle.batch_build.specs.declared.batch.Buffer.{Buffer}
use Rattle.arrow_schema.specs.Column.{PlainSchema, Columns, columns_of}
use Rattle.arrow_schema.specs.View.{schema_of}
use Rattle.ipc_encode.proofs.Alone.{IsAlone, each_alone}
use Rattle.ipc_encode.proofs.RunSteps.{all_left, none_left, some_left, first_piece, next_left}
use Rattle.ipc_encode.proofs.Steps.{first_streams, first_counts, last_made, next_made}
use Rattle.ipc_canonical.specs.PieceStreams.{piece_stream, piece_streams, piece_counts}
use Rattle.ipc_encode.specs.View.{joined_parts, streams_behind}
use Rattle.cells.specs.Cell.{Cell, PlainTable}
use Rattle.facts.specs.laws.Lists.{all_more}
use Rattle.ipc_write.specs.Written.{schema_message}
use Rattle.table_cut.specs.Left.{runs_left, rows_left}
use Rattle.table_cut.specs.Rows.{runs_rows, runs_table}
use Rattle.table_cut.specs.Cut.{pieces}
use Rattle.table_cut.specs.Piece.{within_piece}
use Rattle.ipc_encode.proofs.by_runs.push_left.Goals as goal

pub loop-from-init : goal.loop-from-init
loop-from-init c =
    let s : PlainSchema = schema_of c.args.schema.now in
    let t : PlainTable = runs_table s (runs_left c.args.left.now) in
    let made : List (List ℕ) = streams_behind (schema_message s) c.args.pieces.now.parts.items in
    let none : made ≡ [] = ap (streams_behind (schema_message s)) c.requires.none in
    record {
      left = all_left c.pieces_can_be_built.ensures s c.args.left.now c.args.rows t.rows refl c.requires.table c.requires.sound c.requires.count;
      alone = each_alone (within_piece s) (rows_left (columns_of s.columns) c.args.left.now);
      streams = first_streams s t made none;
      counts = first_counts s t c.args.pieces.now.rows.items c.requires.uncounted;
      message = refl;
      short = rw c.requires.none tt;
    }

pub next_piece-requires-clause-some : goal.next_piece-requires-clause-some
next_piece-requires-clause-some c = some_left c.loop-from.invariant.left c.loop-from-test.true

pub encode_run_piece-requires-clause-piece : goal.encode_run_piece-requires-clause-piece
encode_run_piece-requires-clause-piece c = first_piece c.loop-from.invariant.left c.in_ok-piece.ensures.piece

pub encode_run_piece-requires-clause-alone : goal.encode_run_piece-requires-clause-alone
encode_run_piece-requires-clause-alone c =
    let s : PlainSchema = schema_of c.args.schema.now in
    (subst (AllByRecursion (IsAlone (within_piece s))) c.in_ok-piece.ensures.piece c.loop-from.invariant.alone).0

pub overflow_add-from : goal.overflow_add-from
overflow_add-from c =
    let piece : List (List Cell) = runs_rows (columns_of (schema_of c.args.schema.now).columns) c.in_ok-piece.piece.runs.items in
    let next = next_left c.next_piece.new.self c.in_ok-piece.piece.rows piece c.loop-from.invariant.left c.in_ok-piece.ensures.piece c.in_ok-piece.ensures.front c.in_ok-piece.ensures.left c.in_ok-piece.ensures.count in
    omega (arith, next.within)

pub loop-from-preserved : goal.loop-from-preserved
loop-from-preserved c =
    let s : PlainSchema = schema_of c.args.schema.now in
    let cs : Columns = columns_of s.columns in
    let t : PlainTable = runs_table s (runs_left c.args.left.now) in
    let is = c.loop-from.invariant in
    let piece : List (List Cell) = runs_rows cs c.in_ok-piece.piece.runs.items in
    let cut : List (List (List Cell)) = pieces (within_piece s) (rows_left cs c.loop-from.left) in
    let rest : List (List (List Cell)) = pieces (within_piece s) (rows_left cs c.next_piece.new.self) in
    let front : List ℕ = schema_message s in
    let made : List (List ℕ) = streams_behind front c.loop-from.pieces.parts.items in
    let stream : List ℕ = front ++ joined_parts c.in_ok-stream.stream.items in
    let pushed : streams_behind front c.push_stream.new.pieces.parts.items ≡ made ++ stream ∷ [] =
    ap (streams_behind front) c.in_ok-push_stream.ensures.streams ∙ map-append (λ (parts : Vec Buffer). front ++ joined_parts parts.items) c.loop-from.pieces.parts.items (c.in_ok-stream.stream ∷ []) in
    record {
      left = next_left c.next_piece.new.self c.in_ok-piece.piece.rows piece is.left c.in_ok-piece.ensures.piece c.in_ok-piece.ensures.front c.in_ok-piece.ensures.left c.in_ok-piece.ensures.count;
      alone = (subst (AllByRecursion (IsAlone (within_piece s))) c.in_ok-piece.ensures.piece is.alone).1;
      streams = next_made (piece_stream s) made (streams_behind front c.push_stream.new.pieces.parts.items) (piece_streams t) stream piece cut rest
          c.in_ok-piece.ensures.piece pushed c.in_ok-stream.ensures.stream is.streams;
      counts = next_made length c.loop-from.pieces.rows.items c.push_stream.new.pieces.rows.items (piece_counts t) c.in_ok-piece.piece.rows piece cut rest
          c.in_ok-piece.ensures.piece c.in_ok-push_stream.ensures.counts c.in_ok-piece.ensures.count is.counts;
      message = c.in_ok-push_stream.ensures.message ∙ is.message;
      short = subst (AllByRecursion (λ (x : List ℕ). length x < 2 ^ 64)) (sym pushed) (all_more (λ (x : List ℕ). length x < 2 ^ 64) made stream is.short c.in_ok-stream.ensures.short);
    }

pub loop-from-smaller : goal.loop-from-smaller
loop-from-smaller c =
    let first = first_piece c.loop-from.invariant.left c.in_ok-piece.ensures.piece in
    omega (arith, first.some, c.in_ok-piece.ensures.count, c.loop-from-test.true)

pub returns-clause-message : goal.returns-clause-message
returns-clause-message c = c.loop-from.invariant.message

pub returns-clause-streams : goal.returns-clause-streams
returns-clause-streams c =
    let s : PlainSchema = schema_of c.args.schema.now in
    last_made s (piece_stream s) (streams_behind (schema_message s) c.loop-from.pieces.parts.items) _ (rows_left (columns_of s.columns) c.loop-from.left)
    (none_left c.loop-from.invariant.left c.loop-from-test.false) c.loop-from.invariant.streams

pub returns-clause-rows : goal.returns-clause-rows
returns-clause-rows c =
    let s : PlainSchema = schema_of c.args.schema.now in
    last_made s length c.loop-from.pieces.rows.items _ (rows_left (columns_of s.columns) c.loop-from.left) (none_left c.loop-from.invariant.left c.loop-from-test.false)
    c.loop-from.invariant.counts

pub returns-clause-short : goal.returns-clause-short
returns-clause-short c = c.loop-from.invariant.short
