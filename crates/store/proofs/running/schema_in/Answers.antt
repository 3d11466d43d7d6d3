use Rattle.std.proofs.Common.{refl}
use Rattle.arrow_schema.specs.View.{schema_of}
use Rattle.store_runs.specs.Calls.{schema_call, schema_is, refused}
use Rattle.store.proofs.Answered.{stays_open}
use Rattle.store.proofs.Replied.{schema_counts}
use Rattle.store.proofs.running.schema_in.Goals as goal

pub returns-in-Ok-clause-goes : goal.returns-in-Ok-clause-goes
returns-in-Ok-clause-goes g c = λ told base m fits.
    let D = g.D.SectorDevice in
    stays_open D.size D.story D.failed base m (schema_call c.args.name.now) (schema_is (schema_of c.in-Ok.schema)) c.args.store c.args.store (c.in-Ok.ensures.goes told base m fits)

pub returns-in-Err-clause-goes : goal.returns-in-Err-clause-goes
returns-in-Err-clause-goes g c = λ told base m fits.
    let D = g.D.SectorDevice in
    stays_open D.size D.story D.failed base m (schema_call c.args.name.now) (refused c.in-Err.refusal) c.args.store c.args.store (c.in-Err.ensures.refused told base m fits)

pub returns-in-Ok-clause-answers : goal.returns-in-Ok-clause-answers
returns-in-Ok-clause-answers g c = record { answers = (c.in-Ok.ensures.found, refl); same = refl; count = refl }

pub returns-in-Err-clause-answers : goal.returns-in-Err-clause-answers
returns-in-Err-clause-answers g c =
    let D = g.D.SectorDevice in
    let told = c.in-Err.ensures.found in
    record { answers = (told, refl); same = refl; count = schema_counts _ _ c.in-Err.refusal (D.failed c.args.store.device) told }
