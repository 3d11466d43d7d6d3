use Rattle.store_runs.specs.Calls.{export_call, bytes_are, refused}
use Rattle.store.proofs.Answered.{stays_open}
use Rattle.std.proofs.Common.{refl}
use Rattle.store.proofs.Replied.{read_done}
use Rattle.store.proofs.running.export_in.Goals as goal

pub returns-in-Ok-clause-goes : goal.returns-in-Ok-clause-goes
returns-in-Ok-clause-goes g c = λ told base m fits.
    let D = g.D.SectorDevice in
    stays_open D.size D.story D.failed base m (export_call c.args.name.now) (bytes_are c.in-Ok.bytes.items) c.args.store c.export_bytes.new.self (c.in-Ok.ensures.goes told base m fits)

pub returns-in-Err-clause-goes : goal.returns-in-Err-clause-goes
returns-in-Err-clause-goes g c = λ told base m fits.
    let D = g.D.SectorDevice in
    stays_open D.size D.story D.failed base m (export_call c.args.name.now) (refused c.in-Err.refusal) c.args.store c.export_bytes.new.self (c.in-Err.ensures.refused told base m fits)

pub returns-in-Ok-clause-answers : goal.returns-in-Ok-clause-answers
returns-in-Ok-clause-answers g c =
    let D = g.D.SectorDevice in
    let reads = c.in-Ok.ensures.reads in
    record { answers = (c.in-Ok.ensures.found, read_done D.size D.story D.failed D.tells (bytes_are c.in-Ok.bytes.items) c.args.store c.export_bytes.new.self refl refl reads); same = reads.device.same; count = reads.device.count }

pub returns-in-Err-clause-answers : goal.returns-in-Err-clause-answers
returns-in-Err-clause-answers g c = let reads = c.in-Err.ensures.reads in record { answers = (c.in-Err.ensures.told, reads); same = reads.device.same; count = reads.device.count }
