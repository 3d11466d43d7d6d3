use Rattle.std.proofs.Common.{◌≡◌, inl, inr, refl}
use Rattle.arrowstore.specs.OnDevice.{RefusesOpening}
use Rattle.arrowstore.proofs.NoteLemmas.{of_counted}
use Rattle.arrowstore.specs.Serving.{remarked}
use Rattle.arrowstore.proofs.serving_device.serve_device.Goals as goal

pub returns-in-Ok-clause-serves : goal.returns-in-Ok-clause-serves
returns-in-Ok-clause-serves g c =
    let e = c.in-Ok.ensures in
    inr (record {
      old = c.in-Ok.opened;
      opened = record { in_limits = e.in_limits; size = e.size; count = e.count; on = e.on; found = e.found; opens = e.opened };
      new = c.serve_open-done.new.store;
      serves = c.serve_open-done.ensures.serves;
      notes = of_counted _ _ _ _ _ c.count_before-counted.ensures c.note_after-remarks.ensures;
      gives_back = c.close.ensures;
    })

pub returns-in-Err-clause-serves : goal.returns-in-Err-clause-serves
unfolding RefusesOpening
returns-in-Err-clause-serves g c =
    let e = c.in-Err.ensures in
    let kept : remarked c.args.input.now c.args.output.now c.args.remarks.now ≡ remarked c.args.input.now c.args.output.now c.args.remarks.now = refl in
    inl (
      record {
        leaves = record { told = e.told; not_already = e.not_already; quiet = e.quiet; moments = e.moments; limits = e.limits };
        size = e.size_back;
        count = e.count_back;
        shuts = e.refused;
      },
      kept,
    )
