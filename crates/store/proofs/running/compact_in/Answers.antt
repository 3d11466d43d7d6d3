use Rattle.std.proofs.Common.{Ok, Err, refl, sym, ap, ◌∙◌, subst}
use Rattle.store.specs.declared.call.StoreOrDevice.TheVariants as places
use Rattle.store_runs.specs.Calls.{compact_call, refused, counted}
use Rattle.store.specs.Compacting.{reply_of}
use Rattle.store.specs.Places.{PlaceGoes}
use Rattle.store.proofs.Answered.{stays_open}
use Rattle.store.proofs.running.compact_in.Goals as goal

pub returns-in-Ok-clause-goes : goal.returns-in-Ok-clause-goes
returns-in-Ok-clause-goes g c = λ told base m fits.
    let D = g.D.SectorDevice in
    let new = c.compact_step.new.self in
    subst (λ r. PlaceGoes {g = D} D.size D.story D.failed base m compact_call r c.args.store.device (places.Open new)) (sym c.step_reply.ensures)
    (stays_open D.size D.story D.failed base m compact_call (reply_of c.in-Ok.done) c.args.store new (c.in-Ok.ensures.goes told base m fits))

pub returns-in-Err-clause-goes : goal.returns-in-Err-clause-goes
returns-in-Err-clause-goes g c = λ told base m fits.
    let D = g.D.SectorDevice in
    stays_open D.size D.story D.failed base m compact_call (refused c.in-Err.refusal) c.args.store c.compact_step.new.self (c.in-Err.ensures.refused told base m fits)

pub returns-in-Ok-clause-answers : goal.returns-in-Ok-clause-answers
returns-in-Ok-clause-answers g c =
    let D = g.D.SectorDevice in
    let e = c.in-Ok.ensures in
    record {
      answers = (
        Ok c.in-Ok.done,
        c.step_reply.ensures,
        record { step = e.step; told = tt; shrinks = e.shrinks; idle = e.still; kept = tt; reads = tt; halted = e.halted; still = e.same; halts = e.halts; writes = e.writes; written = e.written; each_table = e.tables; listed = e.listed; book = e.book },
      );
      same = e.size;
      count = e.count ∙ ap (λ r. counted r (D.failed c.args.store.device)) (sym c.step_reply.ensures);
    }

pub returns-in-Err-clause-answers : goal.returns-in-Err-clause-answers
returns-in-Err-clause-answers g c =
    let e = c.in-Err.ensures in
    record {
      answers = (
        Err c.in-Err.refusal,
        refl,
        record { step = tt; told = e.told; shrinks = tt; idle = e.still; kept = e.kept; reads = e.reads; halted = e.halted; still = e.same; halts = e.halts; writes = e.writes; written = tt; each_table = e.tables; listed = e.listed; book = e.book },
      );
      same = e.size;
      count = e.count;
    }
