use Rattle.std.proofs.Common.{inl}
use Rattle.std.proofs.lemmas.Result.{err_from_is_err_and}
use Rattle.arrowstore.specs.OpenCommands.{PassesUnread, RefusesUnreadBy}
use Rattle.arrowstore.proofs.ServingLemmas.{first_passes, first_refuses}
use Rattle.arrowstore.proofs.waiting_input.test_on_file.Goals as goal

pub returns-in_err-store-clause-refused : goal.returns-in_err-store-clause-refused
returns-in_err-store-clause-refused g c =
    let p = err_from_is_err_and c.from_residual.result c.from_residual.ensures.1 in
    rw (p.1, p.2) (inl c.in_err-store.ensures.refused)

pub returns-clause-passed : goal.returns-clause-passed
returns-clause-passed g c =
    first_passes _ _ c.in_ok-store.store c.in_ok-store.ensures.opened (PassesUnread c.args.command.now) c.refuse_unread.result c.refuse_unread.ensures.passed

pub returns-clause-refused : goal.returns-clause-refused
returns-clause-refused g c =
    first_refuses _ _ c.in_ok-store.store c.in_ok-store.ensures.opened (RefusesUnreadBy c.args.command.now) c.refuse_unread.result c.refuse_unread.ensures.refused
