use Rattle.std.proofs.Common.{Ok, ap, sym, ◌∙◌, subst, string_bytes}
use Rattle.std.proofs.lemmas.Result.{err_from_is_err_and}
use Rattle.catalogue.specs.View.{catalogue_of}
use Rattle.tables.specs.Commands.{drop_table}
use Rattle.store_runs.specs.Changes.{PlainChange, IsChange}
use Rattle.store_runs.specs.Deciding.{missing_in, IsAnswered}
use Rattle.store_changes.specs.laws.Tested.{drop_is_change}
use Rattle.store_changes.specs.laws.Decided.{drop_answers}
use Rattle.store_changes.proofs.deciding.decide_drop.Goals as goal

pub returns-clause-ok : goal.returns-clause-ok
returns-clause-ok c = λ short.
    subst (IsChange (catalogue_of c.args.catalogue.now)) (sym c.change_of_names.ensures)
    (drop_is_change (catalogue_of c.args.catalogue.now) (string_bytes c.args.name)
    (sym (ap (missing_in (catalogue_of c.args.catalogue.now)) c.deref.ensures) ∙ c.in_ok-test_there.ensures))

pub returns-in_err-test_there-clause-answers : goal.returns-in_err-test_there-clause-answers
returns-in_err-test_there-clause-answers c = λ tells image.
    let p = err_from_is_err_and c.from_residual.result c.from_residual.ensures.1 in
    rw (p.1, p.2)
    (drop_answers tells image (catalogue_of c.args.catalogue.now) (string_bytes c.args.name) _
    (sym (ap (missing_in (catalogue_of c.args.catalogue.now)) c.deref.ensures) ∙ c.in_err-test_there.ensures))

pub returns-clause-answers : goal.returns-clause-answers
returns-clause-answers c = λ tells image.
    subst (λ (x : PlainChange). IsAnswered tells image (catalogue_of c.args.catalogue.now) (drop_table (string_bytes c.args.name)) (Ok x)) (sym c.change_of_names.ensures)
    (drop_answers tells image (catalogue_of c.args.catalogue.now) (string_bytes c.args.name) _
    (sym (ap (missing_in (catalogue_of c.args.catalogue.now)) c.deref.ensures) ∙ c.in_ok-test_there.ensures))
