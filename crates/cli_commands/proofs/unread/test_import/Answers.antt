use Rattle.std.proofs.lemmas.Result.{err_from_is_err_and}
use Rattle.store.specs.Fits.{is_halted, listed_in}
use Rattle.cli_commands.proofs.RefusedInputs.{looking_import}
use Rattle.cli_commands.proofs.unread.test_import.Goals as goal

pub returns-in_err-found-clause-refused : goal.returns-in_err-found-clause-refused
returns-in_err-found-clause-refused g c =
    let p = err_from_is_err_and c.from_residual.result c.from_residual.ensures.1 in
    let store = c.args.store.now in
    rw (p.1, p.2) (looking_import c.args.is_new (is_halted store) (listed_in store) c.args.name.now c.in_err-found.field-0.0 c.in_err-found.ensures.refused)
