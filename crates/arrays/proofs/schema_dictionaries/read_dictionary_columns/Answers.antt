use Rattle.ipc_message.specs.View.{raw_schema_of}
use Rattle.arrays.proofs.SchemaDictionaries.{as_schema}
use Rattle.arrays.proofs.schema_dictionaries.read_dictionary_columns.Goals as goal

pub returns : goal.returns
returns c = as_schema c.columns_of.result c.in_ok-read_dictionary_types.field-0.items (raw_schema_of c.args.raw.now) c.columns_of.ensures c.in_ok-read_dictionary_types.ensures
