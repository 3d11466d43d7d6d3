use Rattle.std.proofs.Common.{[], Ok, refl, ap, sym, ◌∙◌, subst, string_bytes}
use Rattle.std.proofs.lemmas.Result.{err_from_is_err_and}
use Rattle.arrow_schema.specs.View.{schema_of}
use Rattle.catalogue.specs.Entries.{PlainCatalogue}
use Rattle.catalogue.specs.View.{catalogue_of}
use Rattle.tables.specs.Commands.{create}
use Rattle.store_runs.specs.Changes.{PlainChange, IsChange}
use Rattle.store_runs.specs.Deciding.{create_tests, IsAnswered}
use Rattle.store_changes.specs.laws.Tested.{Counts, create_names, put_is_edit}
use Rattle.store_changes.specs.laws.Decided.{create_answers}
use Rattle.store_changes.proofs.deciding.decide_create.Goals as goal

pub returns-clause-ok : goal.returns-clause-ok
returns-clause-ok c = λ short.
    let listed : PlainCatalogue = catalogue_of c.args.catalogue.now in
    let name = string_bytes c.args.new.name in
    let counts : Counts listed = record { more = c.counts_after_changes.ensures.put listed; same = c.counts_after_changes.ensures.replaced listed } in
    let names = create_names listed name (sym (ap (create_tests listed) c.deref.ensures) ∙ c.in_ok-test_create.ensures.test) in
    subst (IsChange listed) (sym c.change_of_names.ensures)
    (record {
      edit = put_is_edit listed name (schema_of c.args.new.schema) [] counts c.in_ok-test_create.ensures.kept names.named names.room c.args.new.within;
      each = refl;
      some = tt;
      short = tt;
      rows = refl;
    })

pub returns-in_err-test_create-clause-answers : goal.returns-in_err-test_create-clause-answers
returns-in_err-test_create-clause-answers c = λ tells image.
    let p = err_from_is_err_and c.from_residual.result c.from_residual.ensures.1 in
    rw (p.1, p.2)
    (create_answers tells image (catalogue_of c.args.catalogue.now) (string_bytes c.args.new.name) (schema_of c.args.new.schema) _
    (sym (ap (create_tests (catalogue_of c.args.catalogue.now)) c.deref.ensures) ∙ c.in_err-test_create.ensures.test))

pub returns-clause-answers : goal.returns-clause-answers
returns-clause-answers c = λ tells image.
    subst (λ (x : PlainChange). IsAnswered tells image (catalogue_of c.args.catalogue.now) (create (string_bytes c.args.new.name) (schema_of c.args.new.schema)) (Ok x)) (sym c.change_of_names.ensures)
    (create_answers tells image (catalogue_of c.args.catalogue.now) (string_bytes c.args.new.name) (schema_of c.args.new.schema) _
    (sym (ap (create_tests (catalogue_of c.args.catalogue.now)) c.deref.ensures) ∙ c.in_ok-test_create.ensures.test))
