use Rattle.std.proofs.Common.{◌∷◌, [], Option, inl, inr, ap}
use Rattle.facts.specs.Checks.{first_some}
use Rattle.arrow_schema.specs.View.{schema_of}
use Rattle.catalogue.specs.View.{catalogue_of}
use Rattle.query.specs.View.{query_in}
use Rattle.tables.specs.declared.refusal.Refusal.{Refusal}
use Rattle.store_runs.specs.Deciding.{create_tests, unselected}
use Rattle.store.proofs.Selected.{create_on, both_pass, later_tells}
use Rattle.store.proofs.saving.test_save.Goals as goal

pub returns-in-Ok-test_create-clause-ok : goal.returns-in-Ok-test_create-clause-ok
returns-in-Ok-test_create-clause-ok c =
    both_pass (unselected (schema_of c.args.schema.now) (query_in c.args.query.now)) (create_tests (catalogue_of c.args.catalogue.now) c.args.to.now) c.in-Ok.ensures.ok c.in-Ok-test_create.ensures.test

pub returns-in-Err-test_create-clause-err : goal.returns-in-Err-test_create-clause-err
returns-in-Err-test_create-clause-err c =
    inr (later_tells (unselected (schema_of c.args.schema.now) (query_in c.args.query.now)) (create_tests (catalogue_of c.args.catalogue.now) c.args.to.now) c.in-Err-test_create.refusal c.in-Ok.ensures.ok c.in-Err-test_create.ensures.test)

pub returns-in-Err-test_create-clause-no_device : goal.returns-in-Err-test_create-clause-no_device
returns-in-Err-test_create-clause-no_device c = (create_on (catalogue_of c.args.catalogue.now) c.args.to.now c.in-Err-test_create.refusal c.in-Err-test_create.ensures.test).1

pub returns-in-Err-clause-err : goal.returns-in-Err-clause-err
returns-in-Err-clause-err c =
    let test = create_tests (catalogue_of c.args.catalogue.now) c.args.to.now in
    elim c.in-Err.ensures.err [ inl memory ↦ inl memory | inr told ↦ inr (ap (λ (o : Option Refusal). first_some (o ∷ test ∷ [])) told) ]
