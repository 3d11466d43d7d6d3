use Rattle.catalogue.proofs.Sizes.{text_has_size}
use Rattle.catalogue.proofs.laws.texts_have_these_sizes.Goals as goal

pub returns : goal.returns
returns c = text_has_size
