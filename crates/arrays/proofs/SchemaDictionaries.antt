-- What a schema says of its dictionaries, as columns.
use Rattle.std.proofs.Common.{◌≡◌, ℕ, Result, Ok, Err, List, [], ◌∷◌, ◌++◌, map, refl, ap, sym, ◌∙◌}
use Rattle.std.specs.Prelude.{true, None, Some, Option, IfOk, flat_map, reverse}
use Rattle.arrow_schema.specs.declared.types.Field.{Field}
use Rattle.arrow_schema.specs.Column.{Column, column}
use Rattle.arrow_schema.specs.Parts.{kind_of_column}
use Rattle.arrow_schema.specs.View.{column_of}
use Rattle.ipc_message.specs.declared.dictionary_type.DictionaryType.{DictionaryType}
use Rattle.ipc_message.specs.Raw.{RawEncoding, RawField, RawSchema}
use Rattle.ipc_message.specs.Fields.{every_field, dictionary_of}
use Rattle.ipc_message.specs.Convert.{column_of_field}
use Rattle.ipc_message.specs.DictionaryTypes.{dictionaries_in, dictionaries_of_schema, plain_dictionary_of}
use Rattle.ipc_message.specs.DictionaryTypes as types
use Rattle.columns.specs.Buffers.{value_column}
use Rattle.arrays.specs.Dictionaries.{DictionaryColumn, own_dictionary_column, dictionary_columns}
use Rattle.arrays.specs.declared.dictionary_columns.DictionaryColumns.{DictionaryColumns}
use Rattle.arrays.specs.DictionaryColumns.{columns_with, dictionary_columns_of}
use Rattle.arrays.specs.inner.SchemaDictionaries.{column_of_dictionary, columns_of_types}

value_is : (c : Column) → value_column c ≡ column [] true (kind_of_column c) None []
value_is (column name nullable kind dictionary pairs) = refl

with_own : (found : Option RawEncoding) (f : RawField) (rest : List DictionaryColumn) (others : List types.PlainDictionary) → rest ≡ map column_of_dictionary others
    → own_dictionary_column found f ++ rest ≡ map column_of_dictionary (types.own_dictionary found f ++ others)
with_own None f rest others same = same
with_own (Some e) f rest others same =
    λ j. (record { id = e.id; values = value_is (column_of_field f) j }) ∷ same j

of_fields : (fields : List RawField) → flat_map (λ f. own_dictionary_column (dictionary_of f) f) fields ≡ map column_of_dictionary (dictionaries_in fields)
of_fields [] = refl
of_fields (f ∷ fields) = with_own (dictionary_of f) f (flat_map (λ x. own_dictionary_column (dictionary_of x) x) fields) (dictionaries_in fields) (of_fields fields)

of_schema : (s : RawSchema) → dictionary_columns s ≡ map column_of_dictionary (dictionaries_of_schema s)
of_schema s = of_fields (every_field s)

abbrev column_of_type : DictionaryType → DictionaryColumn
column_of_type d = column_of_dictionary (plain_dictionary_of d)

types_twice : (list : List DictionaryType) → columns_of_types list ≡ map column_of_dictionary (map plain_dictionary_of list)
types_twice [] = refl
types_twice (d ∷ list) = ap (λ (cs : List DictionaryColumn). column_of_type d ∷ cs) (types_twice list)

abbrev pub so_far : List DictionaryType → List ℕ → List Field → List DictionaryColumn
so_far list ids values = columns_of_types list ++ columns_with (reverse ids) (map column_of (reverse values))

pub as_schema : {E : Type 0} (r : Result DictionaryColumns E) (list : List DictionaryType) (s : RawSchema) → IfOk r (λ columns. dictionary_columns_of columns ≡ columns_of_types list)
    → map plain_dictionary_of list ≡ dictionaries_of_schema s → IfOk r (λ columns. dictionary_columns_of columns ≡ dictionary_columns s)
as_schema (Ok columns) list s is same = is ∙ types_twice list ∙ ap (map column_of_dictionary) same ∙ sym (of_schema s)
as_schema (Err e) list s is same = tt
