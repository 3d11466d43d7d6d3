use Rattle.std.proofs.Common.{inl, inr, refl, ap, ◌∙◌, Some, sym}
use Rattle.arrow_schema.specs.View.{schema_of}
use Rattle.query.specs.Selection.{selection}
use Rattle.query.specs.View.{query_in}
use Rattle.store_runs.specs.Calls.{is_failure}
use Rattle.tables.specs.Verdict.{empty_table}
use Rattle.store.proofs.Selected.{test_of, select_quiet, select_untold}
use Rattle.store.proofs.saving.test_query.Goals as goal

pub returns-in-Ok-clause-ok : goal.returns-in-Ok-clause-ok
returns-in-Ok-clause-ok c = ap test_of (c.in-Ok.ensures.selects (empty_table (schema_of c.args.schema.now)) refl)

pub returns-in-Ok-clause-selects : goal.returns-in-Ok-clause-selects
returns-in-Ok-clause-selects c = record { answers = c.in-Ok.ensures.selects; tables = c.in-Ok.ensures.tables }

pub returns-in-Err-clause-err : goal.returns-in-Err-clause-err
returns-in-Err-clause-err c =
    let empty = empty_table (schema_of c.args.schema.now) in
    elim (select_untold (selection empty (query_in c.args.query.now)) c.in-Err.error (c.in-Err.ensures.refused empty refl)) [ inl memory ↦ inl (c.from.ensures ∙ memory) | inr is ↦ inr (is ∙ ap Some (sym c.from.ensures)) ]

pub returns-in-Err-clause-no_device : goal.returns-in-Err-clause-no_device
returns-in-Err-clause-no_device c = ap is_failure c.from.ensures ∙ (select_quiet c.in-Err.error).0
