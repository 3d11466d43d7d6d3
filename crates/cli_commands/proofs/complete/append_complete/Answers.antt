use Rattle.std.proofs.Common.{inl, inr, refl}
use Rattle.std.proofs.lemmas.Result.{err_from_is_err_and}
use Rattle.tables.specs.declared.refusal.Refusal.TheVariants.{NoTable}
use Rattle.store_runs.specs.Deciding.{has_entry}
use Rattle.store.specs.Fits.{is_halted, listed_in}
use Rattle.cli_commands.proofs.RefusedInputs.{passed_both, whole_read, whole_unread}
use Rattle.cli_commands.proofs.complete.append_complete.Goals as goal

pub returns-in_err-test_append-clause-unread : goal.returns-in_err-test_append-clause-unread
returns-in_err-test_append-clause-unread g c = λ _.
    let p = err_from_is_err_and c.from_residual.result c.from_residual.ensures.1 in
    rw (p.1, p.2) (c.in_err-test_append.ensures.refused, refl, refl)

pub returns-in_err-test_append-clause-told : goal.returns-in_err-test_append-clause-told
returns-in_err-test_append-clause-told g c =
    let p = err_from_is_err_and c.from_residual.result c.from_residual.ensures.1 in
    let store = c.args.store.now in
    let passes = has_entry (listed_in store) c.args.name.now in
    let why = c.in_err-test_append.ensures.refused in
    rw (p.1, p.2) (inl (whole_unread g.R.Read.remaining (is_halted store) passes NoTable c.args.input.now c.in_err-test_append.field-0.0 why, refl, refl))

pub returns-in_err-bytes-clause-told : goal.returns-in_err-bytes-clause-told
returns-in_err-bytes-clause-told g c =
    let p = err_from_is_err_and c.from_residual-in_err-bytes.result c.from_residual-in_err-bytes.ensures.1 in
    let passed = c.in_ok-test_append.ensures.passed in
    rw (p.1, p.2) (inl (whole_read g.R.Read.remaining _ _ NoTable _ _ c.in_err-bytes.field-0.0 passed.0 passed.1 c.in_err-bytes.ensures.refused, refl, refl))

pub returns-in_err-bytes-clause-unread : goal.returns-in_err-bytes-clause-unread
returns-in_err-bytes-clause-unread g c = λ fails.
    let passed = c.in_ok-test_append.ensures.passed in
    passed_both _ _ passed.0 passed.1 fails

pub returns-in_err-name-clause-unread : goal.returns-in_err-name-clause-unread
returns-in_err-name-clause-unread g c = λ fails.
    let passed = c.in_ok-test_append.ensures.passed in
    passed_both _ _ passed.0 passed.1 fails

pub returns-clause-unread : goal.returns-clause-unread
returns-clause-unread g c = λ fails.
    let passed = c.in_ok-test_append.ensures.passed in
    passed_both _ _ passed.0 passed.1 fails

pub returns-clause-goes : goal.returns-clause-goes
returns-clause-goes g c = λ tells base m fits.
    inr (c.in_ok-bytes.bytes.items, c.in_ok-bytes.ensures.whole, c.in_ok-bytes.ensures.ended, rw c.in_ok-name.ensures.ok at (c.apply_command.ensures.goes tells base m fits))

pub returns-clause-told : goal.returns-clause-told
returns-clause-told g c = inr (c.in_ok-bytes.bytes.items, c.in_ok-bytes.ensures.whole, c.in_ok-bytes.ensures.ended, rw c.in_ok-name.ensures.ok at c.apply_command.ensures.told)
