use Rattle.commit.specs.laws.Sectors.{found_is}
use Rattle.commit.proofs.sector.one_text_each.Goals as goal

pub returns-clause-found : goal.returns-clause-found
returns-clause-found c = found_is
