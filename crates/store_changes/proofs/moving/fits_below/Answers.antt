use Rattle.store_changes.proofs.moving.fits_below.Goals as goal

pub returns-in-None-clause-still : goal.returns-in-None-clause-still
returns-in-None-clause-still c = λ is run lowest. absurd (c.in-None.ensures run lowest.0 lowest.1)
