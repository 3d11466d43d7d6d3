use Rattle.std.proofs.Common.{map, refl, string_bytes}
use Rattle.store_runs.specs.Calls.{tables_call, counts, refused}
use Rattle.store.proofs.Answered.{stays_open}
use Rattle.store.proofs.Replied.{list_counts}
use Rattle.store.proofs.running.list_in.Goals as goal

pub returns-in-Ok-clause-goes : goal.returns-in-Ok-clause-goes
returns-in-Ok-clause-goes g c = λ told base m fits.
    let D = g.D.SectorDevice in
    stays_open D.size D.story D.failed base m tables_call (counts (map (λ t. (string_bytes t.0, t.1)) c.in-Ok.tables.items)) c.args.store c.args.store (c.in-Ok.ensures.goes told base m fits)

pub returns-in-Err-clause-goes : goal.returns-in-Err-clause-goes
returns-in-Err-clause-goes g c = λ told base m fits.
    let D = g.D.SectorDevice in
    stays_open D.size D.story D.failed base m tables_call (refused c.in-Err.refusal) c.args.store c.args.store (c.in-Err.ensures.refused told base m fits)

pub returns-in-Ok-clause-answers : goal.returns-in-Ok-clause-answers
returns-in-Ok-clause-answers g c = record { answers = (c.in-Ok.ensures.listed, refl); same = refl; count = refl }

pub returns-in-Err-clause-answers : goal.returns-in-Err-clause-answers
returns-in-Err-clause-answers g c =
    let D = g.D.SectorDevice in
    let told = c.in-Err.ensures.listed in
    record { answers = (told, refl); same = refl; count = list_counts _ c.in-Err.refusal (D.failed c.args.store.device) told }
