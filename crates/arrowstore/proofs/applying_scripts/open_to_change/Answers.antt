use Rattle.std.proofs.Common.{inl, inr}
use Rattle.std.proofs.lemmas.Result.{err_from_is_err_and}
use Rattle.arrowstore.specs.OnDevice.{RefusesOpening}
use Rattle.arrowstore.proofs.FileLemmas.{of_file}
use Rattle.arrowstore.proofs.applying_scripts.open_to_change.Goals as goal

pub returns-in_err-device-clause-refused : goal.returns-in_err-device-clause-refused
returns-in_err-device-clause-refused g c =
    let p = err_from_is_err_and c.from_residual.result c.from_residual.ensures.1 in
    rw (p.1, p.2) (inl (of_file c.in_err-device.field-0.0))

pub returns-in-Ok-clause-opened : goal.returns-in-Ok-clause-opened
returns-in-Ok-clause-opened g c =
    let e = c.in-Ok.ensures in
    record {
      device = c.in_ok-device.device;
      opened = c.in_ok-device.ensures.opened;
      stands = record { in_limits = e.in_limits; size = e.size; count = e.count; on = e.on; found = e.found; opens = e.opened };
    }

pub returns-in-Err-clause-refused : goal.returns-in-Err-clause-refused
unfolding RefusesOpening
returns-in-Err-clause-refused g c =
    let e = c.in-Err.ensures in
    inr (
      c.in_ok-device.device,
      c.in_ok-device.ensures.opened,
      (
        c.in-Err._back,
        record {
          leaves = record { told = e.told; not_already = e.not_already; quiet = e.quiet; moments = e.moments; limits = e.limits };
          size = e.size_back;
          count = e.count_back;
          shuts = e.refused;
        },
      ),
    )
