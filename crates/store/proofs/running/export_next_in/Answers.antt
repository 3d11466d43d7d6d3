use Rattle.std.specs.Prelude.{option_map}
use Rattle.store_runs.specs.Calls.{export_next_call, piece_is, refused}
use Rattle.store.proofs.Answered.{stays_open}
use Rattle.store.proofs.running.export_next_in.Goals as goal

pub returns-in-Ok-clause-goes : goal.returns-in-Ok-clause-goes
returns-in-Ok-clause-goes g c = λ told base m fits.
    let D = g.D.SectorDevice in
    stays_open D.size D.story D.failed base m (export_next_call c.args.id) (piece_is (option_map (λ v. v.items) c.in-Ok.piece)) c.args.store c.export_next.new.self (c.in-Ok.ensures.goes told base m fits)

pub returns-in-Err-clause-goes : goal.returns-in-Err-clause-goes
returns-in-Err-clause-goes g c = λ told base m fits.
    let D = g.D.SectorDevice in
    stays_open D.size D.story D.failed base m (export_next_call c.args.id) (refused c.in-Err.refusal) c.args.store c.export_next.new.self (c.in-Err.ensures.refused told base m fits)

pub returns-in-Ok-clause-answers : goal.returns-in-Ok-clause-answers
returns-in-Ok-clause-answers g c =
    let e = c.in-Ok.ensures in
    record { answers = (e.given, e.counted, e.reads); same = e.reads.device.same; count = e.reads.device.count }

pub returns-in-Err-clause-answers : goal.returns-in-Err-clause-answers
returns-in-Err-clause-answers g c =
    let e = c.in-Err.ensures in
    record { answers = (e.told, e.kept, e.reads); same = e.reads.device.same; count = e.reads.device.count }
