use Rattle.std.proofs.Common.{List, length, sym, ap, subst, ◌∙◌, arith}
use Rattle.std.proofs.lemmas.Result.{IfOk-weaker}
use Rattle.arrow_schema.specs.Column.{PlainSchema, columns_of}
use Rattle.arrow_schema.specs.View.{schema_of}
use Rattle.ipc_canonical.specs.Canonical.{canonical}
use Rattle.cells.specs.Cell.{Cell, PlainTable}
use Rattle.values.specs.Table.{IsTable}
use Rattle.ipc_encode.proofs.by_runs.encode_parts.Goals as goal

pub encode_left-requires-clause-table : goal.encode_left-requires-clause-table
encode_left-requires-clause-table c =
    let s : PlainSchema = schema_of c.args.schema.now in
    let all = c.in_ok-left.ensures.rows (columns_of s.columns) in
    let P : List (List Cell) → Type 0 = λ rows. IsTable (record { schema = s; rows = rows }) in
    subst P (sym all) c.requires.table

pub encode_left-requires-clause-sound : goal.encode_left-requires-clause-sound
encode_left-requires-clause-sound c =
    c.in_ok-left.ensures.sound (columns_of (schema_of c.args.schema.now).columns) c.requires.sound

pub encode_left-requires-clause-count : goal.encode_left-requires-clause-count
encode_left-requires-clause-count c =
    omega (arith, c.requires.count, ap length (c.in_ok-left.ensures.rows (columns_of (schema_of c.args.schema.now).columns)))

pub returns : goal.returns
returns c =
    let s : PlainSchema = schema_of c.args.schema.now in
    let all = c.in_ok-left.ensures.rows (columns_of s.columns) in
    let P : List (List Cell) → PlainTable = λ rows. record { schema = s; rows = rows } in
    IfOk-weaker c.encode_left.result _ _ (λ stream h. h ∙ ap (λ (rows : List (List Cell)). canonical (P rows)) all) c.encode_left.ensures
