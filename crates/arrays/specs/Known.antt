-- What is known of dictionaries when a batch is read: arrays of their values that can be looked up, and whose texts are UTF-8.
use Rattle.std.specs.Prelude.{◌≡◌, Bool, true, false, not, ◌&&◌, List, [], ◌∷◌, Option, Some, None, option_map}
use Rattle.std.specs.List.{list_all, list_any, flat_map, AllByRecursion}
use Rattle.arrow_schema.specs.Column.{Column, Columns, column}
use Rattle.columns.specs.Array.{Array, no_array}
use Rattle.columns.specs.Buffers.{value_column}
use Rattle.columns.specs.CellAt.{cells_in}
use Rattle.columns.specs.Sound.{is_sound}
use Rattle.columns.specs.Tests.{Typed, every_array}
use Rattle.columns.specs.Visible.{is_bad_text}
use Rattle.dictionary.specs.InEffect.{DictionaryBatch}
use Rattle.arrays.specs.Dictionaries.{DictionaryColumn, column_of_id}

-- an array of values
abbrev pub is_readable : Column → Array → Bool
is_readable values a = is_sound values a && not (list_any is_bad_text (cells_in values a))

-- those that are known of dictionaries with these values, in turn
abbrev pub are_readable : List Column → (known : List (List Array)) → Bool
are_readable [] known = true
are_readable (values ∷ columns) [] = true
are_readable (values ∷ columns) (arrays ∷ known) = list_all (is_readable values) arrays && are_readable columns known

-- ---- the dictionaries of columns

abbrev pub own_values : Column → List Column
own_values (column name nullable kind None pairs) = []
own_values (column name nullable kind (Some index) pairs) = value_column (column name nullable kind (Some index) pairs) ∷ []

-- their values as columns of their own, in preorder
abbrev pub values_in : List Typed → List Column
values_in every = flat_map (λ t. own_values t.column) every

abbrev pub dictionary_values : Columns → List Column
dictionary_values columns = values_in (every_array columns no_array)

-- ---- dictionary batches

abbrev pub is_readable_for : Option DictionaryColumn → DictionaryBatch → Bool
is_readable_for None b = false
is_readable_for (Some c) b = is_readable c.values b.array

-- one that was read: a column has its id, and its array is readable
abbrev pub is_readable_batch : List DictionaryColumn → DictionaryBatch → Bool
is_readable_batch columns b = is_readable_for (column_of_id b.id columns) b

-- the first column of its id has the same values
abbrev pub IsAsFirst : List DictionaryColumn → DictionaryColumn → Type 0
IsAsFirst columns c = option_map (λ d. d.values) (column_of_id c.id columns) ≡ Some c.values

-- all columns of an id have values of one type
abbrev pub HaveOneType : List DictionaryColumn → Type 0
HaveOneType columns = AllByRecursion (IsAsFirst columns) columns
