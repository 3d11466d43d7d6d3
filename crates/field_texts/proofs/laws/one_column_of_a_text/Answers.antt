use Rattle.field_texts.proofs.Parsing.{one_column}
use Rattle.field_texts.proofs.laws.one_column_of_a_text.Goals as goal

pub returns : goal.returns
returns c = one_column
