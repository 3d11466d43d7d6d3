use Rattle.std.proofs.Common.{◌∙◌, inl, inr, refl, sym, true≢false}
use Rattle.std.proofs.lemmas.Result.{err_from_is_err_and}
use Rattle.catalogue.specs.Entries.{is_name}
use Rattle.tables.specs.declared.refusal.Refusal.TheVariants.{BadName}
use Rattle.store.specs.Fits.{is_halted, listed_in}
use Rattle.cli_commands.proofs.RefusedInputs.{of_free, of_taken, passed_both, whole_read, whole_unread}
use Rattle.cli_commands.proofs.complete.import_complete.Goals as goal

pub returns-in_err-test_import-clause-taken : goal.returns-in_err-test_import-clause-taken
returns-in_err-test_import-clause-taken g c = λ taken.
    let p = err_from_is_err_and c.from_residual.result c.from_residual.ensures.1 in
    let store = c.args.store.now in
    rw (p.1, p.2) (of_taken c.args.is_new (is_halted store) (listed_in store) c.args.name.now c.in_err-test_import.field-0.0 c.in_err-test_import.ensures.refused taken, refl, refl)

pub returns-in_err-test_import-clause-unread : goal.returns-in_err-test_import-clause-unread
returns-in_err-test_import-clause-unread g c = λ free _.
    let p = err_from_is_err_and c.from_residual.result c.from_residual.ensures.1 in
    let store = c.args.store.now in
    rw (p.1, p.2) (of_free c.args.is_new (is_halted store) (listed_in store) c.args.name.now c.in_err-test_import.field-0.0 c.in_err-test_import.ensures.refused free, refl, refl)

pub returns-in_err-test_import-clause-told : goal.returns-in_err-test_import-clause-told
returns-in_err-test_import-clause-told g c = λ free.
    let p = err_from_is_err_and c.from_residual.result c.from_residual.ensures.1 in
    let store = c.args.store.now in
    let why = of_free c.args.is_new (is_halted store) (listed_in store) c.args.name.now c.in_err-test_import.field-0.0 c.in_err-test_import.ensures.refused free in
    rw (p.1, p.2) (inl (whole_unread g.R.Read.remaining (is_halted store) (is_name c.args.name.now) BadName c.args.input.now c.in_err-test_import.field-0.0 why, refl, refl))

pub returns-in_err-bytes-clause-told : goal.returns-in_err-bytes-clause-told
returns-in_err-bytes-clause-told g c = λ free.
    let p = err_from_is_err_and c.from_residual-in_err-bytes.result c.from_residual-in_err-bytes.ensures.1 in
    let passed = c.in_ok-test_import.ensures.passed in
    rw (p.1, p.2) (inl (whole_read g.R.Read.remaining _ _ BadName _ _ c.in_err-bytes.field-0.0 passed.1 passed.2 c.in_err-bytes.ensures.refused, refl, refl))

pub returns-in_err-bytes-clause-unread : goal.returns-in_err-bytes-clause-unread
returns-in_err-bytes-clause-unread g c = λ free fails.
    let passed = c.in_ok-test_import.ensures.passed in
    passed_both _ _ passed.1 passed.2 fails

pub returns-in_err-name-clause-unread : goal.returns-in_err-name-clause-unread
returns-in_err-name-clause-unread g c = λ free fails.
    let passed = c.in_ok-test_import.ensures.passed in
    passed_both _ _ passed.1 passed.2 fails

pub returns-clause-unread : goal.returns-clause-unread
returns-clause-unread g c = λ free fails.
    let passed = c.in_ok-test_import.ensures.passed in
    passed_both _ _ passed.1 passed.2 fails

pub returns-clause-goes : goal.returns-clause-goes
returns-clause-goes g c = λ _ tells base m fits.
    inr (c.in_ok-bytes.bytes.items, c.in_ok-bytes.ensures.whole, c.in_ok-bytes.ensures.ended, rw c.in_ok-name.ensures.ok at (c.apply_command.ensures.goes tells base m fits))

pub returns-clause-told : goal.returns-clause-told
returns-clause-told g c = λ _. inr (c.in_ok-bytes.bytes.items, c.in_ok-bytes.ensures.whole, c.in_ok-bytes.ensures.ended, rw c.in_ok-name.ensures.ok at c.apply_command.ensures.told)

pub returns-clause-taken : goal.returns-clause-taken
returns-clause-taken g c = λ taken. absurd (true≢false (sym taken ∙ c.in_ok-test_import.ensures.passed.0))
