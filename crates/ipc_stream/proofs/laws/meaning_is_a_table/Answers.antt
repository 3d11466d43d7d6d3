use Rattle.ipc_stream.proofs.TableMeant.{meaning_table}
use Rattle.ipc_stream.proofs.laws.meaning_is_a_table.Goals as goal

pub returns : goal.returns
returns c = meaning_table (record {
  within = c.checked_schema_is_within_limits.ensures;
  columns = record { values = c.schemas_give_dictionary_columns.ensures.values; one_type = c.schemas_give_dictionary_columns.ensures.one_type };
  batch = record { readable = c.read_dictionaries_are_readable.ensures.batch; bytes = c.read_dictionaries_have_bytes.ensures.batch };
  rows = record { rows = c.read_rows_are_rows.ensures; readable = c.read_dictionaries_are_readable.ensures.known; bytes = c.read_dictionaries_have_bytes.ensures.known };
  framed = c.next_message_is_framed.ensures.framed;
})
