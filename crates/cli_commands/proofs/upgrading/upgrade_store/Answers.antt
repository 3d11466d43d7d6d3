use Rattle.std.specs.Prelude.{Ok, Err}
use Rattle.std.proofs.lemmas.Result.{err_from_is_err_and}
use Rattle.cli_commands.proofs.ChangingLemmas.{follows_refusal, follows_write}
use Rattle.cli_commands.proofs.upgrading.upgrade_store.Goals as goal

pub returns-clause-goes : goal.returns-clause-goes
returns-clause-goes g c = λ tells base m fits.
    (Ok c.in_ok-upgrade.field-0, c.in_ok-upgrade.ensures.goes tells base m fits, follows_write _ c.write_whole.result c.write_whole.ensures.io)

pub returns-clause-told : goal.returns-clause-told
returns-clause-told g c =
    let e = c.in_ok-upgrade.ensures in (
      Ok c.in_ok-upgrade.field-0,
      record { upgraded = e.upgraded; told = e.told; already = e.already; kept = e.kept; reads = e.reads; halted = e.halted; still = e.same; halts = e.halts; writes = e.writes; written = e.written; each_table = e.tables; listed = e.listed; size_kept = e.size; count = e.count; book = e.book },
      follows_write _ c.write_whole.result c.write_whole.ensures.io,
    )

pub returns-in_err-upgrade-clause-goes : goal.returns-in_err-upgrade-clause-goes
returns-in_err-upgrade-clause-goes g c = λ tells base m fits.
    let p = err_from_is_err_and c.from_residual.result c.from_residual.ensures.1 in
    (Err c.in_err-upgrade.field-0.0, c.in_err-upgrade.ensures.refused tells base m fits, follows_refusal c.in_err-upgrade.field-0.0 c.from_residual.result p.0 p.1 p.2)

pub returns-in_err-upgrade-clause-told : goal.returns-in_err-upgrade-clause-told
returns-in_err-upgrade-clause-told g c =
    let e = c.in_err-upgrade.ensures in
    let p = err_from_is_err_and c.from_residual.result c.from_residual.ensures.1 in (
      Err c.in_err-upgrade.field-0.0,
      record { upgraded = e.upgraded; told = e.told; already = e.already; kept = e.kept; reads = e.reads; halted = e.halted; still = e.same; halts = e.halts; writes = e.writes; written = e.written; each_table = e.tables; listed = e.listed; size_kept = e.size; count = e.count; book = e.book },
      follows_refusal c.in_err-upgrade.field-0.0 c.from_residual.result p.0 p.1 p.2,
    )
