use Rattle.store_runs.specs.Calls.{open_call}
use Rattle.store.proofs.Answered.{opens_place, shuts_place}
use Rattle.store.proofs.running.open_place.Goals as goal

pub returns-in-Ok-clause-goes : goal.returns-in-Ok-clause-goes
returns-in-Ok-clause-goes g c = λ told base m fits. let D = g.D.SectorDevice in opens_place D.size D.story D.failed base m open_call c.args.device c.in-Ok.store (c.in-Ok.ensures.opened told base m fits)

pub returns-in-Ok-clause-answers : goal.returns-in-Ok-clause-answers
returns-in-Ok-clause-answers g c = (c.in-Ok.ensures.in_limits, (c.in-Ok.ensures.on, c.in-Ok.ensures.none_open, c.in-Ok.ensures.found))

pub returns-in-Err-clause-goes : goal.returns-in-Err-clause-goes
returns-in-Err-clause-goes g c = λ told base m fits. let D = g.D.SectorDevice in shuts_place D.size D.story D.failed base m open_call c.args.device c.in-Err.refusal c.in-Err.device (c.in-Err.ensures.refused told base m fits)

pub returns-in-Err-clause-answers : goal.returns-in-Err-clause-answers
returns-in-Err-clause-answers g c =
    record { told = c.in-Err.ensures.told; not_already = c.in-Err.ensures.not_already; quiet = c.in-Err.ensures.quiet; moments = c.in-Err.ensures.moments; limits = c.in-Err.ensures.limits }
