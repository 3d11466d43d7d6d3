use Rattle.std.proofs.Common.{◌≡◌, inl, inr, refl}
use Rattle.std.proofs.lemmas.Result.{err_from_is_err_and}
use Rattle.arrowstore.proofs.FileLemmas.{of_file, sent_in_part}
use Rattle.arrowstore.proofs.sending_archives.serve_send.Goals as goal

pub returns-in_err-had-clause-sends : goal.returns-in_err-had-clause-sends
returns-in_err-had-clause-sends g c =
    let p = err_from_is_err_and c.from_residual.result c.from_residual.ensures.1 in
    let kept : c.args.output.now ≡ c.args.output.now = refl in
    rw (p.1, p.2) (record { sends = inl (c.in_err-had.ensures.told, kept); unread = c.in_err-had.ensures.unread })

pub returns-in_err-_places-clause-sends : goal.returns-in_err-_places-clause-sends
returns-in_err-_places-clause-sends g c =
    let p = err_from_is_err_and c.from_residual-in_err-_places.result c.from_residual-in_err-_places.ensures.1 in
    let kept : c.args.output.now ≡ c.args.output.now = refl in
    rw (p.1, p.2) (record {
      sends = inr (c.in_ok-had.had.items, c.in_ok-had.ensures.read, inl (inl (of_file c.in_err-_places.field-0.0), kept));
      unread = c.in_ok-had.ensures.unread;
    })

pub returns-in_err-store-clause-sends : goal.returns-in_err-store-clause-sends
returns-in_err-store-clause-sends g c =
    let p = err_from_is_err_and c.from_residual-in_err-store.result c.from_residual-in_err-store.ensures.1 in
    let kept : c.args.output.now ≡ c.args.output.now = refl in
    rw (p.1, p.2) (record {
      sends = inr (c.in_ok-had.had.items, c.in_ok-had.ensures.read, inl (c.in_err-store.ensures.refused, kept));
      unread = c.in_ok-had.ensures.unread;
    })

pub returns-clause-sends : goal.returns-clause-sends
returns-clause-sends g c = record {
  sends = inr (
    c.in_ok-had.had.items,
    c.in_ok-had.ensures.read,
    inr (record {
      store = c.in_ok-store.store;
      opens = c.in_ok-store.ensures.opened;
      sent = rw c.deref.ensures.value at c.send_archive.ensures.sent;
      told = c.send_archive.ensures.told;
      after_it = c.send_archive.new.store;
      reads = c.send_archive.ensures.reads;
    }),
  );
  unread = c.in_ok-had.ensures.unread;
}

pub returns-clause-silent : goal.returns-clause-silent
returns-clause-silent g c = sent_in_part _ _ _ _ c.send_archive.result c.send_archive.ensures.told
