use Rattle.tables.specs.View.{command_of}
use Rattle.store_runs.specs.Calls.{apply_call, done, refused}
use Rattle.store.proofs.Answered.{stays_open}
use Rattle.store.proofs.running.apply_in.Goals as goal

pub returns-in-Ok-clause-goes : goal.returns-in-Ok-clause-goes
returns-in-Ok-clause-goes g c = λ told base m fits.
    let D = g.D.SectorDevice in
    stays_open D.size D.story D.failed base m (apply_call (command_of c.args.command)) done c.args.store c.apply.new.self (c.in-Ok.ensures.goes told base m fits)

pub returns-in-Err-clause-goes : goal.returns-in-Err-clause-goes
returns-in-Err-clause-goes g c = λ told base m fits.
    let D = g.D.SectorDevice in
    stays_open D.size D.story D.failed base m (apply_call (command_of c.args.command)) (refused c.in-Err.refusal) c.args.store c.apply.new.self (c.in-Err.ensures.goes told base m fits)

pub returns-in-Ok-clause-answers : goal.returns-in-Ok-clause-answers
returns-in-Ok-clause-answers g c =
    let e = c.in-Ok.ensures in
    record {
      answers = record { applied = e.applied; refused = tt; quiet = tt; reads = tt; halted = e.halted; still = e.still; halts = e.halts; writes = e.writes; written = e.written; book = e.book };
      same = e.size;
      count = e.count;
    }

pub returns-in-Err-clause-answers : goal.returns-in-Err-clause-answers
returns-in-Err-clause-answers g c =
    let e = c.in-Err.ensures in
    record {
      answers = record { applied = e.applied; refused = e.refused; quiet = e.quiet; reads = e.reads; halted = e.halted; still = e.still; halts = e.halts; writes = e.writes; written = tt; book = e.book };
      same = e.size;
      count = e.count;
    }
