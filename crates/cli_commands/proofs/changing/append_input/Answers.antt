use Rattle.std.specs.Prelude.{Ok, Err}
use Rattle.std.proofs.lemmas.Result.{err_from_is_err_and}
use Rattle.cli_commands.proofs.ChangingLemmas.{follows_refusal, follows_write}
use Rattle.cli_commands.proofs.changing.append_input.Goals as goal

pub returns-clause-told : goal.returns-clause-told
returns-clause-told g c =
    let e = c.in_ok-append_from.ensures in
    (Ok c.in_ok-append_from.field-0, record { takes = e.takes; reads = e.reads }, follows_write _ c.write_whole.result c.write_whole.ensures.io)

pub returns-in_err-append_from-clause-told : goal.returns-in_err-append_from-clause-told
returns-in_err-append_from-clause-told g c =
    let e = c.in_err-append_from.ensures in
    let p = err_from_is_err_and c.from_residual.result c.from_residual.ensures.1 in
    (Err c.in_err-append_from.field-0.0, record { takes = e.takes; reads = e.reads }, follows_refusal c.in_err-append_from.field-0.0 c.from_residual.result p.0 p.1 p.2)
