use Rattle.std.specs.Prelude.{◌⊎◌, IfOk, IfErr}
use Rattle.std.proofs.Common.{◌≡◌, List, Ok, Err, inl, refl, sym, ap, ◌∙◌, subst}
use Rattle.std.proofs.lemmas.Result.{err_from_is_err_and}
use Rattle.arrow_schema.specs.Column.{PlainSchema}
use Rattle.cells.specs.Cell.{Cell, PlainTable}
use Rattle.cells.specs.Weight.{table_weight}
use Rattle.values.specs.Table.{IsTable, table_from}
use Rattle.values.specs.TableView.{table_of}
use Rattle.catalogue.specs.Entries.{PlainEntry, plain_entry}
use Rattle.tables.specs.declared.refusal.Refusal.TheVariants.{OutOfMemory}
use Rattle.store_runs.specs.Changes.{rows_under}
use Rattle.store_runs.specs.Deciding.{given_rows}
use Rattle.store_changes.specs.Appending.{ArePassed}
use Rattle.store_changes.proofs.GivenRows.{made_by, given_fit}
use Rattle.store_changes.proofs.new_rows.pass_table.Goals as goal

pub returns-then-equals-clause-passed : goal.returns-then-equals-clause-passed
returns-then-equals-clause-passed c =
    let e : PlainEntry = plain_entry c.args.entry.now in
    let t : PlainTable = table_of c.args.new.table in
    let same : t.schema ≡ e.schema = sym c.schema.ensures.schema ∙ c.equals.ensures.0 c.if-equals.true ∙ c.schema-own.ensures in (
      given_fit e t.rows (made_by e.schema t.rows t (subst (λ (s : PlainSchema). table_from s t.rows ≡ Ok t) same (c.accepted_rows_are_a_table.ensures.accepted t c.schema.ensures.kept))),
      c.args.new.weighs ∙ ap (λ (s : PlainSchema). table_weight s t.rows) same,
      subst (λ (s : PlainSchema). IsTable (rows_under s t.rows)) same c.schema.ensures.kept,
    )

pub returns-in_err-rows-clause-passed : goal.returns-in_err-rows-clause-passed
returns-in_err-rows-clause-passed c = rw (err_from_is_err_and c.from_residual.result c.from_residual.ensures.1).1 tt

pub returns-in_err-rows-clause-refused : goal.returns-in_err-rows-clause-refused
returns-in_err-rows-clause-refused c = let p = err_from_is_err_and c.from_residual.result c.from_residual.ensures.1 in rw (p.1, p.2) (inl refl)

-- ---- rows of their own are the same rows

pub returns-clause-passed : goal.returns-clause-passed
returns-clause-passed c =
    let e : PlainEntry = plain_entry c.args.entry.now in
    subst (λ (rows : List (List Cell)). IfOk c.pass_rows.result (ArePassed e (given_rows rows e))) c.in_ok-rows.ensures c.pass_rows.ensures.passed

pub returns-clause-refused : goal.returns-clause-refused
returns-clause-refused c =
    let e : PlainEntry = plain_entry c.args.entry.now in
    subst (λ (rows : List (List Cell)). IfErr c.pass_rows.result (λ r. (r ≡ OutOfMemory) ⊎ (given_rows rows e ≡ Err r))) c.in_ok-rows.ensures c.pass_rows.ensures.refused
