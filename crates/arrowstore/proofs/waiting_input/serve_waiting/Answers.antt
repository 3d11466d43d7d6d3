use Rattle.std.proofs.Common.{◌≡◌, inl, inr, refl}
use Rattle.std.proofs.lemmas.Result.{err_from_is_err_and}
use Rattle.arrowstore.specs.OnFiles.{besides_input}
use Rattle.arrowstore.specs.Serving.{remarked}
use Rattle.arrowstore.proofs.FileLemmas.{of_file}
use Rattle.arrowstore.proofs.waiting_input.serve_waiting.Goals as goal

pub returns-in_err-test_on_file-clause-serves : goal.returns-in_err-test_on_file-clause-serves
returns-in_err-test_on_file-clause-serves g c =
    let p = err_from_is_err_and c.from_residual.result c.from_residual.ensures.1 in
    let kept : remarked c.args.input.now c.args.output.now c.args.remarks.now ≡ remarked c.args.input.now c.args.output.now c.args.remarks.now = refl in
    rw (p.1, p.2) (inl (c.in_err-test_on_file.ensures.refused, kept))

pub returns-in_err-bytes-clause-serves : goal.returns-in_err-bytes-clause-serves
returns-in_err-bytes-clause-serves g c =
    let p = err_from_is_err_and c.from_residual-in_err-bytes.result c.from_residual-in_err-bytes.ensures.1 in
    let before = remarked c.args.input.now c.args.output.now c.args.remarks.now in
    let kept : besides_input before ≡ besides_input before = refl in
    rw (p.1, p.2) (inr (c.in_ok-test_on_file.ensures.passed, inl (c.in_err-bytes.ensures.told, kept)))

pub returns-in_err-device-clause-serves : goal.returns-in_err-device-clause-serves
returns-in_err-device-clause-serves g c =
    let p = err_from_is_err_and c.from_residual-in_err-device.result c.from_residual-in_err-device.ensures.1 in
    let before = remarked c.args.input.now c.args.output.now c.args.remarks.now in
    let kept : besides_input before ≡ besides_input before = refl in
    rw (p.1, p.2) (inr (
      c.in_ok-test_on_file.ensures.passed,
      inr (c.in_ok-bytes.bytes.items, c.in_ok-bytes.ensures.read, inl (of_file c.in_err-device.field-0.0, kept)),
    ))

pub returns-clause-serves : goal.returns-clause-serves
returns-clause-serves g c = inr (
  c.in_ok-test_on_file.ensures.passed,
  inr (
    c.in_ok-bytes.bytes.items,
    c.in_ok-bytes.ensures.read,
    inr (record {
      device = c.in_ok-device.device;
      opened = c.in_ok-device.ensures.opened;
      back = c.serve_device-done.result.1;
      input = c.deref-held.result;
      given = c.deref-held.ensures.value;
      rest = c.serve_device-done.new.input;
      serves = c.serve_device-done.ensures.serves;
    }),
  ),
)
