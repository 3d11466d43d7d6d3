use Rattle.std.proofs.Common.{◌≡◌, inl, inr, refl}
use Rattle.std.proofs.lemmas.Result.{err_from_is_err_and}
use Rattle.arrowstore.proofs.FileLemmas.{of_file}
use Rattle.arrowstore.proofs.formatting_devices.serve_format_device.Goals as goal

pub returns-in_err-_places-clause-formats : goal.returns-in_err-_places-clause-formats
returns-in_err-_places-clause-formats g c =
    let p = err_from_is_err_and c.from_residual.result c.from_residual.ensures.1 in
    let kept : c.args.output.now ≡ c.args.output.now = refl in
    rw (p.1, p.2) (inl (of_file c.in_err-_places.field-0.0, kept))

pub returns-in_err-device-clause-formats : goal.returns-in_err-device-clause-formats
returns-in_err-device-clause-formats g c =
    let p = err_from_is_err_and c.from_residual-in_err-device.result c.from_residual-in_err-device.ensures.1 in
    let kept : c.args.output.now ≡ c.args.output.now = refl in
    rw (p.1, p.2) (inl (of_file c.in_err-device.field-0.0, kept))

pub returns-in_err-_store-clause-formats : goal.returns-in_err-_store-clause-formats
returns-in_err-_store-clause-formats g c =
    let p = err_from_is_err_and c.from_residual-in_err-_store.result c.from_residual-in_err-_store.ensures.1 in
    let kept : c.args.output.now ≡ c.args.output.now = refl in
    let device = c.in_ok-device in
    rw (p.1, p.2) (inr (record {
      found = device.ensures.kind.0;
      kind = device.ensures.kind.1;
      device = device.device;
      opened = device.ensures.opened;
      given = device.ensures.given;
      formats = inl (c.in_err-_store.ensures.refused, kept);
    }))

pub returns-clause-formats : goal.returns-clause-formats
returns-clause-formats g c =
    let device = c.in_ok-device in
    inr (record {
      found = device.ensures.kind.0;
      kind = device.ensures.kind.1;
      device = device.device;
      opened = device.ensures.opened;
      given = device.ensures.given;
      formats = inr (record {
        store = c.in_ok-_store._store;
        made = c.in_ok-_store.ensures.made;
        size = c.in_ok-_store.ensures.size;
        written = c.write_whole.ensures.written;
        failed = c.write_whole.ensures.io;
      });
    })
