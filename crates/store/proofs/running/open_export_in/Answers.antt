use Rattle.std.proofs.Common.{ap}
use Rattle.store_runs.specs.Calls.{open_export_call, export_is, refused}
use Rattle.store.proofs.Answered.{stays_open}
use Rattle.store.proofs.running.open_export_in.Goals as goal

pub returns-in-Ok-clause-goes : goal.returns-in-Ok-clause-goes
returns-in-Ok-clause-goes g c = λ told base m fits.
    let D = g.D.SectorDevice in
    stays_open D.size D.story D.failed base m (open_export_call c.args.name.now) (export_is c.in-Ok.id) c.args.store c.open_export.new.self (c.in-Ok.ensures.goes told base m fits)

pub returns-in-Err-clause-goes : goal.returns-in-Err-clause-goes
returns-in-Err-clause-goes g c = λ told base m fits.
    let D = g.D.SectorDevice in
    stays_open D.size D.story D.failed base m (open_export_call c.args.name.now) (refused c.in-Err.refusal) c.args.store c.open_export.new.self (c.in-Err.ensures.refused told base m fits)

pub returns-in-Ok-clause-answers : goal.returns-in-Ok-clause-answers
returns-in-Ok-clause-answers g c =
    let D = g.D.SectorDevice in
    let e = c.in-Ok.ensures in
    record { answers = (e.opened, e.device); same = ap D.size e.device; count = ap D.failed e.device }

pub returns-in-Err-clause-answers : goal.returns-in-Err-clause-answers
returns-in-Err-clause-answers g c =
    let e = c.in-Err.ensures in
    record { answers = (e.told, e.kept, e.device); same = e.kept.device.same; count = e.kept.device.count }
