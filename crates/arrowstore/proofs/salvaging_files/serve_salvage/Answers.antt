use Rattle.std.proofs.Common.{◌≡◌, inl, inr, refl}
use Rattle.std.proofs.lemmas.Result.{err_from_is_err_and}
use Rattle.store.specs.Salvaging.{plain_left}
use Rattle.arrowstore.proofs.FileLemmas.{of_file}
use Rattle.arrowstore.proofs.salvaging_files.serve_salvage.Goals as goal

pub returns-in_err-_places-clause-salvages : goal.returns-in_err-_places-clause-salvages
returns-in_err-_places-clause-salvages g c =
    let p = err_from_is_err_and c.from_residual.result c.from_residual.ensures.1 in
    let kept : c.args.output.now ≡ c.args.output.now = refl in
    let left : plain_left c.args.left_out.now.items ≡ plain_left c.args.left_out.now.items = refl in
    rw (p.1, p.2) (inl (inl (of_file c.in_err-_places.field-0.0), kept), left)

pub returns-in_err-store-clause-salvages : goal.returns-in_err-store-clause-salvages
returns-in_err-store-clause-salvages g c =
    let p = err_from_is_err_and c.from_residual-in_err-store.result c.from_residual-in_err-store.ensures.1 in
    let kept : c.args.output.now ≡ c.args.output.now = refl in
    let left : plain_left c.args.left_out.now.items ≡ plain_left c.args.left_out.now.items = refl in
    rw (p.1, p.2) (inl (c.in_err-store.ensures.refused, kept), left)

pub returns-in-Ok-clause-salvages : goal.returns-in-Ok-clause-salvages
returns-in-Ok-clause-salvages g c = record {
  store = c.in_ok-store.store;
  opens = c.in_ok-store.ensures.opened;
  salvages = c.in-Ok.ensures.salvaged;
  after_it = c.salvage_table.new.store;
  reads = c.in-Ok.ensures.reads;
}

pub returns-clause-salvages : goal.returns-clause-salvages
returns-clause-salvages g c = (
  inr (record {
    store = c.in_ok-store.store;
    opens = c.in_ok-store.ensures.opened;
    refuses = c.in-Err.ensures.told;
    after_it = c.salvage_table.new.store;
    reads = c.in-Err.ensures.reads;
  }),
  refl,
)
