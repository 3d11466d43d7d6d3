-- What is compared of a column: all of it, or its shape, which leaves out dictionaries and pairs at every depth.
use Rattle.std.specs.Prelude.{◌≡◌, List, [], Option, None}
use Rattle.arrow_schema.specs.declared.compare.Detail.{Detail}
use Rattle.arrow_schema.specs.declared.compare.Detail.TheVariants.{Shape, Whole}
use Rattle.arrow_schema.specs.Column.{Index, Pair, Kind, Column, Columns, lists, large_lists, fixed_lists, structs, column, no_column, and_column, columns_of, PlainSchema}

abbrev pub seen_dictionary : Detail → Option Index → Option Index
seen_dictionary Whole d = d
seen_dictionary Shape d = None

abbrev pub seen_pairs : Detail → List Pair → List Pair
seen_pairs Whole pairs = pairs
seen_pairs Shape pairs = []

unfoldable mutual
  pub seen : Detail → Column → Column
  seen detail (column name nullable kind dictionary pairs) = column name nullable (seen_kind detail kind) (seen_dictionary detail dictionary) (seen_pairs detail pairs)

  pub seen_kind : Detail → Kind → Kind
  seen_kind detail (lists item) = lists (seen detail item)
  seen_kind detail (large_lists item) = large_lists (seen detail item)
  seen_kind detail (fixed_lists size item) = fixed_lists size (seen detail item)
  seen_kind detail (structs parts) = structs (seen_all detail parts)
  seen_kind detail kind = kind

  pub seen_all : Detail → Columns → Columns
  seen_all detail no_column = no_column
  seen_all detail (and_column c cs) = and_column (seen detail c) (seen_all detail cs)

-- the shape of a schema: its columns without their dictionaries and pairs
unfoldable pub shape_of : PlainSchema → Columns
shape_of s = seen_all Shape (columns_of s.columns)

-- two schemas have one shape
abbrev pub HaveOneShape : PlainSchema → PlainSchema → Type 0
HaveOneShape a b = shape_of a ≡ shape_of b
