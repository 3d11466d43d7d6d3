use Rattle.std.proofs.Common.{◌≡◌, inl, inr, refl}
use Rattle.std.proofs.lemmas.Result.{err_from_is_err_and}
use Rattle.arrowstore.proofs.FileLemmas.{of_file}
use Rattle.arrowstore.proofs.receiving_archives.serve_receive.Goals as goal

pub returns-in_err-bytes-clause-receives : goal.returns-in_err-bytes-clause-receives
returns-in_err-bytes-clause-receives g c =
    let p = err_from_is_err_and c.from_residual.result c.from_residual.ensures.1 in
    let kept : c.args.output.now ≡ c.args.output.now = refl in
    rw (p.1, p.2) (inl (c.in_err-bytes.ensures.told, kept))

pub returns-in_err-archive-clause-receives : goal.returns-in_err-archive-clause-receives
returns-in_err-archive-clause-receives g c =
    let p = err_from_is_err_and c.from_residual-in_err-archive.result c.from_residual-in_err-archive.ensures.1 in
    let kept : c.args.output.now ≡ c.args.output.now = refl in
    rw (p.1, p.2) (inr (c.in_ok-bytes.bytes.items, c.in_ok-bytes.ensures.read, inl (c.in_err-archive.ensures.told, kept)))

pub returns-in_err-_places-clause-receives : goal.returns-in_err-_places-clause-receives
returns-in_err-_places-clause-receives g c =
    let p = err_from_is_err_and c.from_residual-in_err-_places.result c.from_residual-in_err-_places.ensures.1 in
    let kept : c.args.output.now ≡ c.args.output.now = refl in
    let read = rw c.deref.ensures.value at c.in_ok-archive.ensures.read in
    rw (p.1, p.2) (inr (
      c.in_ok-bytes.bytes.items,
      c.in_ok-bytes.ensures.read,
      inr (c.in_ok-archive.archive, read, inl (inl (of_file c.in_err-_places.field-0.0), kept)),
    ))

pub returns-in_err-store-clause-receives : goal.returns-in_err-store-clause-receives
returns-in_err-store-clause-receives g c =
    let p = err_from_is_err_and c.from_residual-in_err-store.result c.from_residual-in_err-store.ensures.1 in
    let kept : c.args.output.now ≡ c.args.output.now = refl in
    let read = rw c.deref.ensures.value at c.in_ok-archive.ensures.read in
    rw (p.1, p.2) (inr (
      c.in_ok-bytes.bytes.items,
      c.in_ok-bytes.ensures.read,
      inr (c.in_ok-archive.archive, read, inl (c.in_err-store.ensures.refused, kept)),
    ))

pub returns-clause-receives : goal.returns-clause-receives
returns-clause-receives g c =
    let read = rw c.deref.ensures.value at c.in_ok-archive.ensures.read in
    inr (
      c.in_ok-bytes.bytes.items,
      c.in_ok-bytes.ensures.read,
      inr (
        c.in_ok-archive.archive,
        read,
        inr (record {
          old = c.in_ok-store.store;
          opens = c.in_ok-store.ensures.opened;
          new = c.receive_archive.new.store;
          received = c.receive_archive.ensures.received;
          written = c.receive_archive.ensures.written;
        }),
      ),
    )
