use Rattle.std.proofs.Common.{◌≡◌, List, Ok, Err, inr, sym, ap, ◌∙◌, subst, map}
use Rattle.arrow_schema.specs.Column.{PlainSchema}
use Rattle.cells.specs.Cell.{Cell, PlainTable}
use Rattle.cells.specs.Row.{row_of}
use Rattle.cells.specs.Weight.{table_weight}
use Rattle.values.specs.Table.{IsTable, unfit, too_heavy, table_from}
use Rattle.values.specs.TableView.{table_of, Reports}
use Rattle.values.specs.declared.errors.TableError.{TableError}
use Rattle.catalogue.specs.Entries.{PlainEntry, plain_entry}
use Rattle.store_runs.specs.Changes.{rows_under}
use Rattle.store_changes.proofs.GivenRows.{made_by, heavy_by, unfit_by, given_fit, given_unfit}
use Rattle.store_changes.proofs.new_rows.pass_rows.Goals as goal

pub returns-in-Ok-clause-passed : goal.returns-in-Ok-clause-passed
returns-in-Ok-clause-passed c =
    let e : PlainEntry = plain_entry c.args.entry.now in
    let rows : List (List Cell) = map row_of c.args.rows.items in
    let t : PlainTable = table_of c.in-Ok.table in
    let own : t.rows ≡ rows = ap (λ (x : PlainTable). x.rows) c.in-Ok.ensures.made in
    let taken : table_from e.schema rows ≡ Ok t = ap (λ (s : PlainSchema). table_from s rows) (sym (c.in_ok-copy.ensures ∙ c.schema.ensures)) ∙ c.in-Ok.ensures.taken in
    let weighed : c.in-Ok.weight ≡ table_weight e.schema rows = c.in-Ok.ensures.weight ∙ ap (λ (s : PlainSchema). table_weight s rows) (c.in_ok-copy.ensures ∙ c.schema.ensures) in
    let kept = c.accepted_rows_are_a_table.ensures.kept e.schema rows t c.requires taken in (
      given_fit e rows (made_by e.schema rows t taken) ∙ ap (λ (x : List (List Cell)). Ok (record { entry = e; rows = x })) (sym own),
      weighed ∙ ap (table_weight e.schema) (sym own),
      subst IsTable (kept.0 ∙ ap (rows_under e.schema) (sym own)) kept.1,
    )

pub returns-in-Err-Unfit-clause-refused : goal.returns-in-Err-Unfit-clause-refused
returns-in-Err-Unfit-clause-refused c =
    let e : PlainEntry = plain_entry c.args.entry.now in
    let rows : List (List Cell) = map row_of c.args.rows.items in
    let told : Reports c.in-Err-Unfit.field-0 (table_from e.schema rows) = subst (λ (s : PlainSchema). Reports c.in-Err-Unfit.field-0 (table_from s rows)) (c.in_ok-copy.ensures ∙ c.schema.ensures) c.in-Err-Unfit.ensures.refused in
    let is : table_from e.schema rows ≡ Err (unfit c.in-Err-Unfit.row) = subst (λ (x : TableError). Reports x (table_from e.schema rows)) c.in-Err-Unfit.field-0-is told in
    inr (given_unfit e rows c.in-Err-Unfit.row (unfit_by e.schema rows c.in-Err-Unfit.row is))

pub returns-in-Err-Weight-clause-passed : goal.returns-in-Err-Weight-clause-passed
returns-in-Err-Weight-clause-passed c =
    let e : PlainEntry = plain_entry c.args.entry.now in
    let rows : List (List Cell) = map row_of c.args.rows.items in
    let told : Reports c.in-Err-Weight.field-0 (table_from e.schema rows) = subst (λ (s : PlainSchema). Reports c.in-Err-Weight.field-0 (table_from s rows)) (c.in_ok-copy.ensures ∙ c.schema.ensures) c.in-Err-Weight.ensures.refused in
    let is : table_from e.schema rows ≡ Err too_heavy = subst (λ (x : TableError). Reports x (table_from e.schema rows)) c.in-Err-Weight.field-0-is told in
    let heavy = heavy_by e.schema rows is in
    (rows, given_fit e rows heavy.fit, heavy.heavy)
