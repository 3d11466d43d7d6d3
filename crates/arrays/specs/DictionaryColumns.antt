-- The columns with dictionaries, as the code has them.
use Rattle.std.specs.Prelude.{ℕ, List, [], ◌∷◌, map, Option, Some, None, option_map}
use Rattle.arrow_schema.specs.Column.{Column}
use Rattle.arrow_schema.specs.View.{column_of}
use Rattle.arrays.specs.declared.dictionary_columns.DictionaryColumns.{DictionaryColumns}
use Rattle.arrays.specs.Dictionaries.{DictionaryColumn, column_of_id}

-- each id with the column of values at its place
abbrev pub columns_with : List ℕ → List Column → List DictionaryColumn
columns_with [] values = []
columns_with (id ∷ ids) [] = []
columns_with (id ∷ ids) (c ∷ values) = record { id = id; values = c } ∷ columns_with ids values

abbrev pub dictionary_columns_of : DictionaryColumns → List DictionaryColumn
dictionary_columns_of d = columns_with d.ids.items (map column_of d.values.items)

-- the first of some columns by itself
abbrev pub first_alone : List Column → Option (List Column)
first_alone [] = None
first_alone (c ∷ columns) = Some (c ∷ [])

-- the values of the first column of an id, by themselves
abbrev pub values_of_id : ℕ → List DictionaryColumn → Option (List Column)
values_of_id id columns = option_map (λ c. c.values ∷ []) (column_of_id id columns)
