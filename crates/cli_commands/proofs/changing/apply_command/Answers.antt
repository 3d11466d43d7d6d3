use Rattle.std.specs.Prelude.{Ok, Err}
use Rattle.std.proofs.lemmas.Result.{err_from_is_err_and}
use Rattle.cli_commands.proofs.ChangingLemmas.{follows_refusal, follows_write}
use Rattle.cli_commands.proofs.changing.apply_command.Goals as goal

pub returns-clause-goes : goal.returns-clause-goes
returns-clause-goes g c = λ tells base m fits.
    (Ok c.in_ok-apply.field-0, c.in_ok-apply.ensures.goes tells base m fits, follows_write _ c.write_whole.result c.write_whole.ensures.io)

pub returns-clause-told : goal.returns-clause-told
returns-clause-told g c =
    let e = c.in_ok-apply.ensures in (
      Ok c.in_ok-apply.field-0,
      record { applied = e.applied; kept = e.refused; quiet = e.quiet; reads = e.reads; halted = e.halted; still = e.still; halts = e.halts; writes = e.writes; written = e.written; size_kept = e.size; count = e.count; book = e.book },
      follows_write _ c.write_whole.result c.write_whole.ensures.io,
    )

pub returns-in_err-apply-clause-goes : goal.returns-in_err-apply-clause-goes
returns-in_err-apply-clause-goes g c = λ tells base m fits.
    let p = err_from_is_err_and c.from_residual.result c.from_residual.ensures.1 in
    (Err c.in_err-apply.field-0.0, c.in_err-apply.ensures.goes tells base m fits, follows_refusal c.in_err-apply.field-0.0 c.from_residual.result p.0 p.1 p.2)

pub returns-in_err-apply-clause-told : goal.returns-in_err-apply-clause-told
returns-in_err-apply-clause-told g c =
    let e = c.in_err-apply.ensures in
    let p = err_from_is_err_and c.from_residual.result c.from_residual.ensures.1 in (
      Err c.in_err-apply.field-0.0,
      record { applied = e.applied; kept = e.refused; quiet = e.quiet; reads = e.reads; halted = e.halted; still = e.still; halts = e.halts; writes = e.writes; written = e.written; size_kept = e.size; count = e.count; book = e.book },
      follows_refusal c.in_err-apply.field-0.0 c.from_residual.result p.0 p.1 p.2,
    )
