use Rattle.catalogue.proofs.Sizes.{few_rows_in}
use Rattle.catalogue.proofs.laws.rows_are_few.Goals as goal

pub returns : goal.returns
returns c = few_rows_in
