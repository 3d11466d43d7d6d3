use Rattle.std.specs.Prelude.{Ok}
use Rattle.std.proofs.Common.{sym, ap, subst, ◌∙◌}
use Rattle.std.proofs.lemmas.Result.{err_from_is_err_and}
use Rattle.query.specs.View.{query_in}
use Rattle.values.specs.Table.{IsTable}
use Rattle.values.specs.TableView.{table_of}
use Rattle.selection.specs.SelectionBuilder.{PlainBuilder, SelectsOf, builder_in, builder_after, table_built}
use Rattle.selection.proofs.selection_builder.select.Goals as goal

pub append-requires : goal.append-requires
append-requires c = record { tables = subst (SelectsOf (builder_in c.in_ok-builder.builder)) c.schema.ensures.schema c.in_ok-builder.ensures.tables }

pub finish-requires : goal.finish-requires
finish-requires c =
    let t = table_of c.args.table.now in
    let built = c.selection_is_a_table.ensures t (query_in c.args.query.now) (table_built (builder_after (builder_in c.in_ok-builder.builder) t.rows)) c.schema.ensures.kept
    (c.in_ok-builder.ensures.selects t c.schema.ensures.schema) in
    record { table = subst (λ (b : PlainBuilder). IsTable (table_built b)) (sym c.in_ok-append.ensures.ok) built }

pub returns-clause-ok : goal.returns-clause-ok
returns-clause-ok c =
    let t = table_of c.args.table.now in
    c.in_ok-builder.ensures.selects t c.schema.ensures.schema ∙ ap (λ (b : PlainBuilder). Ok (table_built b)) (sym c.in_ok-append.ensures.ok) ∙ ap Ok (sym c.in_ok-selected.ensures.ok)

pub returns-in_err-builder-clause-refused : goal.returns-in_err-builder-clause-refused
returns-in_err-builder-clause-refused c =
    let p = err_from_is_err_and c.from_residual.result c.from_residual.ensures.1 in
    rw (p.1, p.2) (c.in_err-builder.ensures.refused (table_of c.args.table.now) c.schema.ensures.schema)
