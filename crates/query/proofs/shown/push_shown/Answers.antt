use Rattle.query.proofs.shown.push_shown.Goals as goal

pub returns-in-Iso : goal.returns-in-Iso
returns-in-Iso c = rw c.in-Iso.is c.push_dated_field.ensures
