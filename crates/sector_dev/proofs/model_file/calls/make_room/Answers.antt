use Rattle.sector_dev.proofs.model_file.calls.make_room.Goals as goal

pub returns-then-reach-clause-same : goal.returns-then-reach-clause-same
returns-then-reach-clause-same c = c.reach.ensures.same

pub returns-then-reach-clause-recorded : goal.returns-then-reach-clause-recorded
returns-then-reach-clause-recorded c = c.record_row.ensures.recorded

pub returns-then-reach-clause-whole : goal.returns-then-reach-clause-whole
returns-then-reach-clause-whole c = c.record_row.ensures.whole

pub returns-then-reach-clause-full : goal.returns-then-reach-clause-full
returns-then-reach-clause-full c = c.record_row.ensures.full

pub returns-else-reach-clause-same : goal.returns-else-reach-clause-same
returns-else-reach-clause-same c = c.reach.ensures.same

pub returns-else-reach-clause-whole : goal.returns-else-reach-clause-whole
returns-else-reach-clause-whole c = λ first each. each
