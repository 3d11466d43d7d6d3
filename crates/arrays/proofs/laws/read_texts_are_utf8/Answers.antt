use Rattle.arrays.proofs.VisibleUtf8.{read_texts}
use Rattle.arrays.proofs.laws.read_texts_are_utf8.Goals as goal

pub returns : goal.returns
returns c = read_texts
