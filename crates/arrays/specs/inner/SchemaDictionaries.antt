-- The columns with dictionaries, of what a schema says of its dictionaries.
use Rattle.std.specs.Prelude.{true, List, [], map, None}
use Rattle.arrow_schema.specs.Column.{column}
use Rattle.ipc_message.specs.declared.dictionary_type.DictionaryType.{DictionaryType}
use Rattle.ipc_message.specs.DictionaryTypes.{PlainDictionary, plain_dictionary_of}
use Rattle.arrays.specs.Dictionaries.{DictionaryColumn}

abbrev pub column_of_dictionary : PlainDictionary → DictionaryColumn
column_of_dictionary d = record { id = d.id; values = column [] true d.kind None [] }

abbrev pub columns_of_types : List DictionaryType → List DictionaryColumn
columns_of_types types = map (λ d. column_of_dictionary (plain_dictionary_of d)) types
