-- The dictionaries of a schema (Schema.fbs, "DictionaryEncoding"): their ids and value types.
use Rattle.std.specs.Prelude.{ℕ, List, [], ◌∷◌, flat_map, Option, Some, None}
use Rattle.arrow_schema.specs.Column.{Kind}
use Rattle.arrow_schema.specs.Parts.{kind_of_column}
use Rattle.arrow_schema.specs.View.{kind_of}
use Rattle.ipc_message.specs.declared.dictionary_type.DictionaryType.{DictionaryType}
use Rattle.ipc_message.specs.Raw.{RawEncoding, RawField, RawSchema}
use Rattle.ipc_message.specs.Fields.{every_field, dictionary_of}
use Rattle.ipc_message.specs.Convert.{column_of_field}

-- the dictionary of a field: its id and the type of its values
pub record PlainDictionary : Type 0 where
  pub id : ℕ
  pub kind : Kind

abbrev pub own_dictionary : Option RawEncoding → RawField → List PlainDictionary
own_dictionary None f = []
own_dictionary (Some e) f = record { id = e.id; kind = kind_of_column (column_of_field f) } ∷ []

abbrev pub dictionaries_in : List RawField → List PlainDictionary
dictionaries_in fields = flat_map (λ f. own_dictionary (dictionary_of f) f) fields

-- the dictionaries of a schema, in preorder
abbrev pub dictionaries_of_schema : RawSchema → List PlainDictionary
dictionaries_of_schema s = dictionaries_in (every_field s)

abbrev pub plain_dictionary_of : DictionaryType → PlainDictionary
plain_dictionary_of d = record { id = d.id; kind = kind_of d.data_type }
