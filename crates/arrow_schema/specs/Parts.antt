-- The parts of a column, and the null type.
use Rattle.std.specs.Prelude.{ℕ, Bool, true, false, List, Option}
use Rattle.arrow_schema.specs.Column.{Index, Kind, nulls, Column, column}

abbrev pub name_of_column : Column → List ℕ
name_of_column (column name nullable kind dictionary pairs) = name

abbrev pub is_nullable_column : Column → Bool
is_nullable_column (column name nullable kind dictionary pairs) = nullable

abbrev pub kind_of_column : Column → Kind
kind_of_column (column name nullable kind dictionary pairs) = kind

-- the index type of its dictionary, if it has one
abbrev pub index_of_column : Column → Option Index
index_of_column (column name nullable kind dictionary pairs) = dictionary

-- each slot of this type is null
abbrev pub is_nulls : Kind → Bool
is_nulls nulls = true
is_nulls _ = false
