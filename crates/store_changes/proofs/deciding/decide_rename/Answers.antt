use Rattle.std.proofs.Common.{◌≡◌, None, Ok, sym, ◌∙◌, subst, string_bytes}
use Rattle.std.proofs.lemmas.Result.{err_from_is_err_and}
use Rattle.catalogue.specs.View.{catalogue_of}
use Rattle.tables.specs.Commands.{rename}
use Rattle.store_runs.specs.Changes.{PlainChange, IsChange}
use Rattle.store_runs.specs.Deciding.{rename_tests, IsAnswered}
use Rattle.store_changes.specs.laws.Tested.{rename_passed, rename_is_change}
use Rattle.store_changes.specs.laws.Decided.{rename_answers}
use Rattle.store_changes.proofs.deciding.decide_rename.Goals as goal

pub returns-clause-ok : goal.returns-clause-ok
returns-clause-ok c = λ short.
    let tested : rename_tests (catalogue_of c.args.catalogue.now) c.deref.result.now c.deref-2.result.now ≡ rename_tests (catalogue_of c.args.catalogue.now) (string_bytes c.args.from) (string_bytes c.args.to) =
    λ i. rename_tests (catalogue_of c.args.catalogue.now) (c.deref.ensures i) (c.deref-2.ensures i) in
    let none : rename_tests (catalogue_of c.args.catalogue.now) (string_bytes c.args.from) (string_bytes c.args.to) ≡ None = sym tested ∙ c.in_ok-test_rename.ensures in
    subst (IsChange (catalogue_of c.args.catalogue.now)) (sym c.change_of_names.ensures)
    (rename_is_change (catalogue_of c.args.catalogue.now) (string_bytes c.args.from) (string_bytes c.args.to) (rename_passed _ _ _ none))

pub returns-in_err-test_rename-clause-answers : goal.returns-in_err-test_rename-clause-answers
returns-in_err-test_rename-clause-answers c = λ tells image.
    let tested : rename_tests (catalogue_of c.args.catalogue.now) c.deref.result.now c.deref-2.result.now ≡ rename_tests (catalogue_of c.args.catalogue.now) (string_bytes c.args.from) (string_bytes c.args.to) =
    λ i. rename_tests (catalogue_of c.args.catalogue.now) (c.deref.ensures i) (c.deref-2.ensures i) in
    let p = err_from_is_err_and c.from_residual.result c.from_residual.ensures.1 in
    rw (p.1, p.2) (rename_answers tells image (catalogue_of c.args.catalogue.now) (string_bytes c.args.from) (string_bytes c.args.to) _ (sym tested ∙ c.in_err-test_rename.ensures))

pub returns-clause-answers : goal.returns-clause-answers
returns-clause-answers c = λ tells image.
    let tested : rename_tests (catalogue_of c.args.catalogue.now) c.deref.result.now c.deref-2.result.now ≡ rename_tests (catalogue_of c.args.catalogue.now) (string_bytes c.args.from) (string_bytes c.args.to) =
    λ i. rename_tests (catalogue_of c.args.catalogue.now) (c.deref.ensures i) (c.deref-2.ensures i) in
    subst (λ (x : PlainChange). IsAnswered tells image (catalogue_of c.args.catalogue.now) (rename (string_bytes c.args.from) (string_bytes c.args.to)) (Ok x)) (sym c.change_of_names.ensures)
    (rename_answers tells image (catalogue_of c.args.catalogue.now) (string_bytes c.args.from) (string_bytes c.args.to) _ (sym tested ∙ c.in_ok-test_rename.ensures))
