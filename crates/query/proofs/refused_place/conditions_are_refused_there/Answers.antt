use Rattle.query.proofs.RefusedPlaces.{refused_at_place}
use Rattle.query.proofs.refused_place.conditions_are_refused_there.Goals as goal

pub returns : goal.returns
returns c = refused_at_place
