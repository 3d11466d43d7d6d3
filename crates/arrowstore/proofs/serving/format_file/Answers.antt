use Rattle.std.proofs.lemmas.Result.{err_from_is_err_and}
use Rattle.arrowstore.proofs.FileLemmas.{of_making, of_size, of_formatted}
use Rattle.arrowstore.proofs.serving.format_file.Goals as goal

pub returns-in_err-device-clause-refused : goal.returns-in_err-device-clause-refused
returns-in_err-device-clause-refused g c =
    let p = err_from_is_err_and c.from_residual.result c.from_residual.ensures.1 in
    rw (p.1, p.2) (of_making _ c.args.sectors c.args.version c.in_err-device.field-0.0 c.in_err-device.ensures.bad_size)

pub returns-clause-refused : goal.returns-clause-refused
returns-clause-refused g c =
    of_formatted _ _ c.args.sectors c.args.version _ c.in_ok-device.ensures.size (of_size c.args.sectors c.in_ok-device.device c.in_ok-device.ensures.bad_size) c.format_new.ensures.refused
