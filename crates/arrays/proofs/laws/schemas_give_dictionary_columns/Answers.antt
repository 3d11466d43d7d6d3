use Rattle.arrays.proofs.SchemaValues.{values_listed, one_type}
use Rattle.arrays.proofs.laws.schemas_give_dictionary_columns.Goals as goal

pub returns : goal.returns
returns c = record { values = values_listed; one_type = one_type }
