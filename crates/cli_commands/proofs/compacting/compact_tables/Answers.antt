use Rattle.std.specs.Prelude.{Ok, Err}
use Rattle.std.proofs.lemmas.Result.{err_from_is_err_and}
use Rattle.cli_commands.proofs.ChangingLemmas.{follows_refusal, follows_write}
use Rattle.cli_commands.proofs.CompactingLemmas.{written_steps}
use Rattle.cli_commands.proofs.compacting.compact_tables.Goals as goal

pub returns-clause-compacts : goal.returns-clause-compacts
returns-clause-compacts g c =
    let so = c.in_ok-count.ensures.done in
    record {
      taken = so.0;
      answer = Ok tt;
      compacted = so.2;
      follows = follows_write tt c.write_steps.result c.write_steps.ensures.io;
      written = written_steps g.W.Write.contents _ _ c.in_ok-count.count so.0 c.write_steps.result so.1 c.write_steps.ensures.written;
    }

pub returns-in_err-count-clause-compacts : goal.returns-in_err-count-clause-compacts
returns-in_err-count-clause-compacts g c =
    let so = c.in_err-count.ensures.refused in
    let p = err_from_is_err_and c.from_residual.result c.from_residual.ensures.1 in
    record {
      taken = so.0;
      answer = Err c.in_err-count.field-0.0;
      compacted = so.1;
      follows = follows_refusal c.in_err-count.field-0.0 c.from_residual.result p.0 p.1 p.2;
      written = rw p.1 tt;
    }
