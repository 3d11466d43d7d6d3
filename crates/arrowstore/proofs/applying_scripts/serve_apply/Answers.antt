use Rattle.std.proofs.Common.{◌≡◌, inl, inr, refl, subst}
use Rattle.std.proofs.lemmas.Result.{err_from_is_err_and}
use Rattle.arrowstore.proofs.FileLemmas.{of_file}
use Rattle.arrowstore.proofs.applying_scripts.serve_apply.Goals as goal

pub returns-in_err-script-clause-applies : goal.returns-in_err-script-clause-applies
returns-in_err-script-clause-applies g c =
    let p = err_from_is_err_and c.from_residual.result c.from_residual.ensures.1 in
    let kept : c.args.output.now ≡ c.args.output.now = refl in
    rw (p.1, p.2) (record { applies = inl (c.in_err-script.ensures.told, kept); unread = c.in_err-script.ensures.unread })

pub returns-in_err-words-clause-applies : goal.returns-in_err-words-clause-applies
returns-in_err-words-clause-applies g c =
    let p = err_from_is_err_and c.from_residual-in_err-words.result c.from_residual-in_err-words.ensures.1 in
    let kept : c.args.output.now ≡ c.args.output.now = refl in
    rw (p.1, p.2) (record { applies = inr (c.in_ok-script.script.items, c.in_ok-script.ensures.read, inl (inl tt, kept)); unread = c.in_ok-script.ensures.unread })

pub returns-in_err-commands-clause-applies : goal.returns-in_err-commands-clause-applies
returns-in_err-commands-clause-applies g c =
    let p = err_from_is_err_and c.from_residual-in_err-commands.result c.from_residual-in_err-commands.ensures.1 in
    let kept : c.args.output.now ≡ c.args.output.now = refl in
    rw (p.1, p.2) (record {
      applies = inr (c.in_ok-script.script.items, c.in_ok-script.ensures.read, inl (inl (rw c.deref-2.ensures.value at c.in_err-commands.ensures.told), kept));
      unread = c.in_ok-script.ensures.unread;
    })

pub returns-in_err-_places-clause-applies : goal.returns-in_err-_places-clause-applies
returns-in_err-_places-clause-applies g c =
    let p = err_from_is_err_and c.from_residual-in_err-_places.result c.from_residual-in_err-_places.ensures.1 in
    let kept : c.args.output.now ≡ c.args.output.now = refl in
    rw (p.1, p.2) (record {
      applies = inr (
        c.in_ok-script.script.items,
        c.in_ok-script.ensures.read,
        inl (inr (c.in_ok-commands.commands.items, rw c.deref-2.ensures.value at c.in_ok-commands.ensures.commands, inl (of_file c.in_err-_places.field-0.0)), kept),
      );
      unread = c.in_ok-script.ensures.unread;
    })

pub returns-in_err-store-clause-applies : goal.returns-in_err-store-clause-applies
returns-in_err-store-clause-applies g c =
    let p = err_from_is_err_and c.from_residual-in_err-store.result c.from_residual-in_err-store.ensures.1 in
    let kept : c.args.output.now ≡ c.args.output.now = refl in
    rw (p.1, p.2) (record {
      applies = inr (
        c.in_ok-script.script.items,
        c.in_ok-script.ensures.read,
        inl (inr (c.in_ok-commands.commands.items, rw c.deref-2.ensures.value at c.in_ok-commands.ensures.commands, c.in_err-store.ensures.refused), kept),
      );
      unread = c.in_ok-script.ensures.unread;
    })

pub returns-clause-applies : goal.returns-clause-applies
returns-clause-applies g c = record {
  applies = inr (
    c.in_ok-script.script.items,
    c.in_ok-script.ensures.read,
    inr (record {
      commands = c.in_ok-commands.commands.items;
      of_script = rw c.deref-2.ensures.value at c.in_ok-commands.ensures.commands;
      old = c.in_ok-store.store;
      opens = c.in_ok-store.ensures.opened;
      new = c.apply_listed.new.store;
      carries = record { goes = c.apply_listed.ensures.goes; told = c.apply_listed.ensures.told; written = c.apply_listed.ensures.written };
    }),
  );
  unread = c.in_ok-script.ensures.unread;
}
