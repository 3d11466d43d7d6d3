use Rattle.std.proofs.Common.{refl}
use Rattle.ipc_message.specs.Header.{supported_codes}
use Rattle.ipc_canonical.proofs.LawsBelow.{SchemaLaw, DictionaryLaw, BatchLaw, EntriesLaw, RowsLaw}
use Rattle.ipc_canonical.proofs.Pieces.{Laws}
use Rattle.ipc_canonical.proofs.Joined.{parts_mean}
use Rattle.ipc_canonical.proofs.laws.joined_parts_mean_their_table.Goals as goal

pub returns : goal.returns
returns c s lists table =
    let first = c.schema_message_is_read_again.ensures in
    let second = c.dictionary_message_is_read_again.ensures in
    let next = c.batch_message_is_read_again.ensures in
    let apart = c.dictionaries_are_written_alone.ensures in
    let counted = c.written_ids_count_dictionaries.ensures in
    let shape = c.written_arrays_have_their_shape.ensures in
    let schema : SchemaLaw = record {
      found = first.next_message;
      kind = first.kind;
      decoded = λ s within. first.header supported_codes s (refl, refl) within;
      again = first.decoded;
      checked = first.checked;
      after = first.after;
    } in
    let dictionary : DictionaryLaw = record { found = second.next_message; kind = second.kind; decoded = second.header supported_codes; after = second.after } in
    let batch : BatchLaw = record { found = next.next_message; kind = next.kind; decoded = next.header supported_codes; after = next.after } in
    let entries : EntriesLaw = record {
      writable = c.written_entries_are_read.ensures.writable;
      read = c.written_entries_are_read.ensures.read;
      alone = apart.alone;
      flat = apart.flat;
      few_nodes = shape.few_nodes;
      values = c.schemas_give_dictionary_columns.ensures.values;
      ids = counted.ids;
      own = counted.own;
      effect = c.replaced_dictionaries_are_in_effect.ensures;
      replaced = c.replacing_batches_are_read.ensures;
    } in
    let rows : RowsLaw = record {
      weight = shape.weight;
      writable = c.written_batches_pass.ensures.writable;
      read = c.written_rows_are_read.ensures;
      back = c.built_reads_back.ensures.rows;
      cut = c.tables_are_joined_and_cut.ensures.cut;
    } in
    let laws : Laws = record { schema = schema; dictionary = dictionary; batch = batch; entries = entries; rows = rows } in
    parts_mean laws c.pieces_can_be_built.ensures s lists table
