use Rattle.std.proofs.Common.{◌≡◌, ap, sym, ◌∙◌, subst, string_bytes}
use Rattle.arrow_schema.specs.Column.{PlainSchema}
use Rattle.arrow_schema.specs.View.{schema_of}
use Rattle.cells.specs.Cell.{PlainTable}
use Rattle.values.specs.TableView.{table_of}
use Rattle.catalogue.specs.Entries.{PlainEntry, plain_entry}
use Rattle.commit.specs.Placing.{AreShort}
use Rattle.store_runs.specs.Changes.{PlainChange, extend, IsChange, rows_under}
use Rattle.store_runs.specs.Deciding.{pieces_put}
use Rattle.store_changes.specs.laws.Pieces.{pieces_each, pieces_some, pieces_few}
use Rattle.store_changes.proofs.appending.extension.Goals as goal

pub returns-clause-ok : goal.returns-clause-ok
returns-clause-ok c = λ listed there short.
    let e : PlainEntry = plain_entry c.args.entry.now in
    let behind : PlainSchema → PlainChange = λ s. pieces_put (extend (string_bytes c.args.name)) (rows_under s (table_of c.args.new).rows) in
    let table : PlainTable = rows_under e.schema (table_of c.args.new).rows in
    let each = c.pieces_are_tables.ensures.each table c.requires.table in
    let same : behind (schema_of c.in_ok-schema.schema) ≡ behind e.schema = ap behind (c.in_ok-schema.ensures ∙ c.schema.ensures) in
    subst (IsChange listed) (sym same)
    (record {
      edit = (e, there);
      each = pieces_each table;
      some = pieces_some table each;
      short = subst (λ (x : PlainChange). AreShort x.streams) same short;
      rows = pieces_few table each;
    })

pub returns-clause-change : goal.returns-clause-change
returns-clause-change c =
    let behind : PlainSchema → PlainChange = λ s. pieces_put (extend (string_bytes c.args.name)) (rows_under s (table_of c.args.new).rows) in
    ap behind (c.in_ok-schema.ensures ∙ c.schema.ensures)
