use Rattle.std.specs.List.{AllByRecursion}
use Rattle.std.proofs.Common.{◌<◌, ◌^◌, List, ℕ, length, ap, sym, subst, ◌∙◌, arith}
use Rattle.arrow_schema.specs.Column.{PlainSchema, columns_of}
use Rattle.arrow_schema.specs.View.{schema_of}
use Rattle.ipc_canonical.specs.PieceStreams.{piece_streams, piece_counts}
use Rattle.ipc_encode.specs.View.{streams_behind}
use Rattle.cells.specs.Cell.{Cell}
use Rattle.values.specs.PlainTables.{plain_table}
use Rattle.values.specs.Table.{IsTable}
use Rattle.ipc_encode.proofs.by_runs.encode_parts_pieces.Goals as goal

pub push_left-requires-clause-table : goal.push_left-requires-clause-table
push_left-requires-clause-table c =
    let s : PlainSchema = schema_of c.args.schema.now in
    subst (λ (rows : List (List Cell)). IsTable (plain_table s rows)) (sym (c.in_ok-left.ensures.rows (columns_of s.columns))) c.requires.table

pub push_left-requires-clause-sound : goal.push_left-requires-clause-sound
push_left-requires-clause-sound c = c.in_ok-left.ensures.sound (columns_of (schema_of c.args.schema.now).columns) c.requires.sound

pub push_left-requires-clause-count : goal.push_left-requires-clause-count
push_left-requires-clause-count c =
    omega (arith, c.requires.count, ap length (c.in_ok-left.ensures.rows (columns_of (schema_of c.args.schema.now).columns)))

pub push_left-requires-clause-none : goal.push_left-requires-clause-none
push_left-requires-clause-none c = c.no_pieces-pieces.ensures.none

pub push_left-requires-clause-uncounted : goal.push_left-requires-clause-uncounted
push_left-requires-clause-uncounted c = c.no_pieces-pieces.ensures.uncounted

pub returns-clause-streams : goal.returns-clause-streams
returns-clause-streams c =
    let s : PlainSchema = schema_of c.args.schema.now in
    ap (λ (front : List ℕ). streams_behind front c.push_left.new.pieces.parts.items) (c.in_ok-push_left.ensures.message ∙ c.no_pieces-pieces.ensures.message ∙ c.requires.message)
    ∙ c.in_ok-push_left.ensures.streams
    ∙ ap (λ (rows : List (List Cell)). piece_streams (plain_table s rows)) (c.in_ok-left.ensures.rows (columns_of s.columns))

pub returns-clause-rows : goal.returns-clause-rows
returns-clause-rows c =
    let s : PlainSchema = schema_of c.args.schema.now in
    c.in_ok-push_left.ensures.rows
    ∙ ap (λ (rows : List (List Cell)). piece_counts (plain_table s rows)) (c.in_ok-left.ensures.rows (columns_of s.columns))

pub returns-clause-short : goal.returns-clause-short
returns-clause-short c =
    subst (λ (front : List ℕ). AllByRecursion (λ (stream : List ℕ). length stream < 2 ^ 64) (streams_behind front c.push_left.new.pieces.parts.items))
    (sym (c.in_ok-push_left.ensures.message ∙ c.no_pieces-pieces.ensures.message ∙ c.requires.message)) c.in_ok-push_left.ensures.short
