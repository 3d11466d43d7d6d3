-- Dictionary batches: the columns with dictionaries, and the checks of a batch after those before it (Message.fbs, "DictionaryBatch"; Schema.fbs,
-- "DictionaryEncoding").
use Rattle.std.specs.Prelude.{ℕ, Bool, not, ◌&&◌, ◌==◌, List, [], ◌∷◌, ◌++◌, map, Option, Some, None, Result, Ok, Err}
use Rattle.std.specs.List.{list_any, flat_map, find}
use Rattle.arrow_schema.specs.Column.{Column}
use Rattle.facts.specs.Checks.{when, first_some, unless}
use Rattle.ipc_message.specs.declared.fault.Fault.{Fault}
use Rattle.ipc_message.specs.declared.fault.Fault.TheVariants.{DictionaryId, DeltaWithoutBase, NotUtf8}
use Rattle.ipc_message.specs.Raw.{RawEncoding, RawField, RawSchema, RawBatch, RawDictionaryBatch}
use Rattle.ipc_message.specs.Fields.{every_field, dictionary_of}
use Rattle.ipc_message.specs.Convert.{column_of_field}
use Rattle.columns.specs.Array.{Array, Arrays, first_array}
use Rattle.columns.specs.Buffers.{value_column}
use Rattle.columns.specs.Visible.{visible_in, is_no_text}
use Rattle.columns.specs.Alone.{alone}
use Rattle.dictionary.specs.InEffect.{DictionaryBatch, has_id, in_effect}
use Rattle.arrays.specs.Checks.{batch_arrays, array_checks}

-- ---- the columns with dictionaries

-- a column with a dictionary: the dictionary's id, and its values as a column of their own
pub record DictionaryColumn : Type 0 where
  pub id : ℕ
  pub values : Column

abbrev pub own_dictionary_column : Option RawEncoding → RawField → List DictionaryColumn
own_dictionary_column None f = []
own_dictionary_column (Some e) f = record { id = e.id; values = value_column (column_of_field f) } ∷ []

-- those of a schema, in preorder
abbrev pub dictionary_columns : RawSchema → List DictionaryColumn
dictionary_columns s = flat_map (λ f. own_dictionary_column (dictionary_of f) f) (every_field s)

-- the dictionaries that a record batch takes after these batches
abbrev pub dictionaries_after : List DictionaryBatch → List DictionaryColumn → List (List Array)
dictionaries_after before columns = map (λ c. in_effect c.id before) columns

-- the column of an id is the first that has it: all columns of an id have values of one type, or the schema is refused
abbrev pub is_column_of : ℕ → DictionaryColumn → Bool
is_column_of id c = c.id == id

abbrev pub column_of_id : ℕ → List DictionaryColumn → Option DictionaryColumn
column_of_id id columns = find (is_column_of id) columns

-- ---- the checks of a dictionary batch

-- its array: a batch of the one column of values
abbrev pub entries_in : Column → RawBatch → List ℕ → Arrays
entries_in values b body = batch_arrays (alone values) b body []

-- nulls are allowed there, and nothing is hidden
unfoldable pub entry_checks : Column → RawBatch → List ℕ → List (Option Fault)
entry_checks values b body =
    array_checks (alone values) b body (entries_in values b body)
    ++ when (list_any is_no_text (visible_in (alone values) (entries_in values b body) b.length)) NotUtf8 ∷ []

-- the entries that are read, or the first fault
abbrev pub entries_read : Column → RawBatch → List ℕ → Result Array Fault
entries_read values b body = unless (first_some (entry_checks values b body)) (Ok (first_array (entries_in values b body)))

-- F25: it is a delta, and there was no batch of its id
abbrev pub has_no_base : List DictionaryBatch → RawDictionaryBatch → Bool
has_no_base before d = d.is_delta && not (list_any (has_id d.id) before)

unfoldable pub dictionary_checks : (before : List DictionaryBatch) → (values : Column) → RawDictionaryBatch → List ℕ → List (Option Fault)
dictionary_checks before values d body = when (has_no_base before d) DeltaWithoutBase ∷ entry_checks values d.batch body

-- ---- what is read of a dictionary batch, or its first fault

abbrev pub batch_with : RawDictionaryBatch → Array → DictionaryBatch
batch_with d a = record { id = d.id; is_delta = d.is_delta; array = a }

-- F24: no column has its id
abbrev pub read_with : Option DictionaryColumn → (before : List DictionaryBatch) → RawDictionaryBatch → List ℕ → Result DictionaryBatch Fault
read_with None before d body = Err DictionaryId
read_with (Some c) before d body =
    unless (first_some (dictionary_checks before c.values d body)) (Ok (batch_with d (first_array (entries_in c.values d.batch body))))

unfoldable pub dictionary_read : List DictionaryColumn → (before : List DictionaryBatch) → RawDictionaryBatch → List ℕ → Result DictionaryBatch Fault
dictionary_read columns before d body = read_with (column_of_id d.id columns) before d body
