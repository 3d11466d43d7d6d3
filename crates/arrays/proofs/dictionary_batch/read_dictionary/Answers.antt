use Rattle.std.proofs.Common.{map}
use Rattle.arrow_schema.specs.View.{column_of}
use Rattle.ipc_message.specs.View.{raw_dictionary_of}
use Rattle.columns.specs.Places.{within}
use Rattle.columns.specs.View.{array_in, no_dictionary}
use Rattle.arrays.specs.Dictionaries.{column_of_id, dictionary_read}
use Rattle.arrays.specs.DictionaryColumns.{dictionary_columns_of}
use Rattle.arrays.proofs.DictionaryRead.{no_id_found, no_base, with_base}
use Rattle.arrays.proofs.dictionary_batch.read_dictionary.Goals as goal

pub returns-in-None-clause-batch : goal.returns-in-None-clause-batch
unfolding dictionary_read
returns-in-None-clause-batch c = λ before h.
    no_id_found (column_of_id c.args.raw.now.id (dictionary_columns_of c.args.columns.now)) before (raw_dictionary_of c.args.raw.now) (within c.args.bytes.now c.args.body) c.in-None.ensures

pub returns-then-has_no_base-clause-batch : goal.returns-then-has_no_base-clause-batch
unfolding dictionary_read
returns-then-has_no_base-clause-batch c = λ before h.
    no_base (column_of_id c.args.raw.now.id (dictionary_columns_of c.args.columns.now)) (map column_of c.in-Some.values.now) before (raw_dictionary_of c.args.raw.now) (within c.args.bytes.now c.args.body)
    c.in-Some.ensures (c.if-has_no_base.ensures c.args.bytes.now before h)

pub returns-else-has_no_base-clause-batch : goal.returns-else-has_no_base-clause-batch
unfolding dictionary_read
returns-else-has_no_base-clause-batch c = λ before h.
    with_base (column_of_id c.args.raw.now.id (dictionary_columns_of c.args.columns.now)) (map column_of c.in-Some.values.now) before (raw_dictionary_of c.args.raw.now) (within c.args.bytes.now c.args.body)
    (array_in c.args.bytes.now no_dictionary) c.read_entries.result c.in-Some.ensures (c.if-has_no_base.ensures c.args.bytes.now before h) c.read_entries.ensures.array
