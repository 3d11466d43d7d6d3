use Rattle.std.proofs.Common.{Ok, Err, refl, sym, ap, ◌∙◌, subst}
use Rattle.store.specs.declared.call.StoreOrDevice.TheVariants as places
use Rattle.store_runs.specs.Calls.{upgrade_call, refused, counted}
use Rattle.store.specs.Upgrading.{upgrade_reply}
use Rattle.store.specs.Places.{PlaceGoes}
use Rattle.store.proofs.Answered.{stays_open}
use Rattle.store.proofs.running.upgrade_in.Goals as goal

pub returns-in-Ok-clause-goes : goal.returns-in-Ok-clause-goes
returns-in-Ok-clause-goes g c = λ told base m fits.
    let D = g.D.SectorDevice in
    let new = c.upgrade.new.self in
    subst (λ r. PlaceGoes {g = D} D.size D.story D.failed base m upgrade_call r c.args.store.device (places.Open new)) (sym c.upgrade_reply.ensures)
    (stays_open D.size D.story D.failed base m upgrade_call (upgrade_reply c.in-Ok.upgraded) c.args.store new (c.in-Ok.ensures.goes told base m fits))

pub returns-in-Err-clause-goes : goal.returns-in-Err-clause-goes
returns-in-Err-clause-goes g c = λ told base m fits.
    let D = g.D.SectorDevice in
    stays_open D.size D.story D.failed base m upgrade_call (refused c.in-Err.refusal) c.args.store c.upgrade.new.self (c.in-Err.ensures.refused told base m fits)

pub returns-in-Ok-clause-answers : goal.returns-in-Ok-clause-answers
returns-in-Ok-clause-answers g c =
    let D = g.D.SectorDevice in
    let e = c.in-Ok.ensures in
    record {
      answers = (
        Ok c.in-Ok.upgraded,
        c.upgrade_reply.ensures,
        record { upgraded = e.upgraded; told = tt; already = e.already; kept = tt; reads = tt; halted = e.halted; still = e.same; halts = e.halts; writes = e.writes; written = e.written; each_table = e.tables; listed = e.listed; book = e.book },
      );
      same = e.size;
      count = e.count ∙ ap (λ r. counted r (D.failed c.args.store.device)) (sym c.upgrade_reply.ensures);
    }

pub returns-in-Err-clause-answers : goal.returns-in-Err-clause-answers
returns-in-Err-clause-answers g c =
    let e = c.in-Err.ensures in
    record {
      answers = (
        Err c.in-Err.refusal,
        refl,
        record { upgraded = tt; told = e.told; already = e.already; kept = e.kept; reads = e.reads; halted = e.halted; still = e.same; halts = e.halts; writes = e.writes; written = tt; each_table = e.tables; listed = e.listed; book = e.book },
      );
      same = e.size;
      count = e.count;
    }
