use Rattle.std.proofs.Common.{refl}
use Rattle.arrowstore.specs.OnFiles.{FailsToFormat}
use Rattle.arrowstore.proofs.serving.format_on.Goals as goal

pub returns-in-Err-clause-refused : goal.returns-in-Err-clause-refused
unfolding FailsToFormat
returns-in-Err-clause-refused g c =
    let e = c.in-Err.ensures in
    (c.args.device, c.in-Err.back, refl, record { told = e.told; reason = e.reason; untouched = e.untouched; quiet = e.quiet; moments = e.moments; limits = e.limits })
