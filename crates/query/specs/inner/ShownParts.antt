-- The types of what stands in lists and structs.
use Rattle.std.specs.Prelude.{Option, Some, None}
use Rattle.arrow_schema.specs.Column.{Kind, Column, Columns, lists, large_lists, fixed_lists, structs}

-- the column of the items of a list
abbrev pub item_of : Kind → Option Column
item_of (lists item) = Some item
item_of (large_lists item) = Some item
item_of (fixed_lists size item) = Some item
item_of _ = None

-- the columns of the parts of a struct
abbrev pub parts_of : Kind → Option Columns
parts_of (structs columns) = Some columns
parts_of _ = None
