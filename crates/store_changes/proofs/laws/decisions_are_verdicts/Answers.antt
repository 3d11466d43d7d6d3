use Rattle.store_changes.proofs.Verdicts.{decided, decided_held, are_listed, answered, standing_catalogue}
use Rattle.store_changes.proofs.AtLine.{at_line}
use Rattle.store_changes.proofs.laws.decisions_are_verdicts.Goals as goal

pub returns : goal.returns
returns c =
    let laws = c.laws_below.ensures in
    record { decided = decided laws; each = decided_held laws; at_line = at_line laws; listed = are_listed laws; answered = answered laws; catalogues = standing_catalogue laws }
