use Rattle.text_import.proofs.CauseLemmas.{parts_are_causes}
use Rattle.text_import.proofs.PlaceLemmas.{parts_are_at_their_places}
use Rattle.text_import.proofs.laws.refused_parts_are_causes.Goals as goal

pub returns-clause-cause : goal.returns-clause-cause
returns-clause-cause c = parts_are_causes

pub returns-clause-place : goal.returns-clause-place
returns-clause-place c = parts_are_at_their_places
