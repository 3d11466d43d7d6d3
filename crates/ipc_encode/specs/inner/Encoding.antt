-- What of a column says how its arrays are read: its type and its dictionary, at every depth.
use Rattle.std.specs.Prelude.{true, []}
use Rattle.arrow_schema.specs.Column.{Kind, Column, Columns, lists, large_lists, fixed_lists, structs, column, no_column, and_column}

unfoldable mutual
  -- without name, nullability and pairs
  pub encoding : Column → Column
  encoding (column name nullable kind dictionary pairs) = column [] true (kind_encoding kind) dictionary []

  pub kind_encoding : Kind → Kind
  kind_encoding (lists item) = lists (encoding item)
  kind_encoding (large_lists item) = large_lists (encoding item)
  kind_encoding (fixed_lists size item) = fixed_lists size (encoding item)
  kind_encoding (structs columns) = structs (encodings columns)
  kind_encoding kind = kind

  pub encodings : Columns → Columns
  encodings no_column = no_column
  encodings (and_column c cs) = and_column (encoding c) (encodings cs)
