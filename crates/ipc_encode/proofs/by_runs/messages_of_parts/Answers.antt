use Rattle.std.proofs.Common.{◌≡◌, ◌++◌, [], List, ℕ, length, sym, ap, subst, ◌∙◌, arith}
use Rattle.arrow_schema.specs.Column.{PlainSchema, columns_of}
use Rattle.arrow_schema.specs.View.{schema_of}
use Rattle.ipc_canonical.specs.Canonical.{rows_messages}
use Rattle.ipc_encode.specs.inner.Stream.{stream_in}
use Rattle.cells.specs.Cell.{Cell}
use Rattle.table_cut.specs.Left.{rows_left}
use Rattle.values.specs.Table.{IsTable}
use Rattle.ipc_encode.proofs.by_runs.messages_of_parts.Goals as goal

pub write_runs-requires-clause-table : goal.write_runs-requires-clause-table
write_runs-requires-clause-table c =
    let s : PlainSchema = schema_of c.args.schema.now in
    let all = c.in_ok-left.ensures.rows (columns_of s.columns) in
    let P : List (List Cell) → Type 0 = λ rows. IsTable (record { schema = s; rows = rows }) in
    subst P (sym all) c.requires.table

pub write_runs-requires-clause-sound : goal.write_runs-requires-clause-sound
write_runs-requires-clause-sound c = c.in_ok-left.ensures.sound (columns_of (schema_of c.args.schema.now).columns) c.requires.sound

pub write_runs-requires-clause-count : goal.write_runs-requires-clause-count
write_runs-requires-clause-count c = omega (arith, c.requires.count, ap length (c.in_ok-left.ensures.rows (columns_of (schema_of c.args.schema.now).columns)))

pub returns : goal.returns
returns c =
    let s : PlainSchema = schema_of c.args.schema.now in
    let left : List (List Cell) = rows_left (columns_of s.columns) c.in_ok-left.left in
    let none : stream_in c.begin_stream-stream.result ≡ [] = c.begin_stream-stream.ensures ∙ c.new-2.ensures.items in
    c.in_ok-write_runs.ensures ∙ ap (λ (x : List ℕ). x ++ rows_messages s left) none ∙ ap (rows_messages s) (c.in_ok-left.ensures.rows (columns_of s.columns))
