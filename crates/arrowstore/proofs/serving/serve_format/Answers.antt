use Rattle.std.proofs.Common.{◌≡◌, inl, inr, refl}
use Rattle.std.proofs.lemmas.Result.{err_from_is_err_and}
use Rattle.arrowstore.proofs.FileLemmas.{of_places}
use Rattle.arrowstore.proofs.serving.serve_format.Goals as goal

pub returns-in_err-_places-clause-formats : goal.returns-in_err-_places-clause-formats
returns-in_err-_places-clause-formats g c =
    let p = err_from_is_err_and c.from_residual.result c.from_residual.ensures.1 in
    let kept : c.args.output.now ≡ c.args.output.now = refl in
    rw (p.1, p.2) (inl (of_places _ c.args.sectors c.args.version c.in_err-_places.field-0.0 c.in_err-_places.ensures, kept))

pub returns-clause-formats : goal.returns-clause-formats
returns-clause-formats g c = inr (record {
  store = c.in_ok-_store._store;
  made = c.in_ok-_store.ensures.made;
  size = c.in_ok-_store.ensures.size;
  written = c.write_whole.ensures.written;
  failed = c.write_whole.ensures.io;
})
