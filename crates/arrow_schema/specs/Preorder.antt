-- The columns of a schema with all their descendants, in preorder, and their depth.
use Rattle.std.specs.Prelude.{ℕ, ◌+◌, max, List, [], ◌∷◌, ◌++◌}
use Rattle.arrow_schema.specs.Column.{Kind, Column, Columns, nulls, booleans, integers, dates, timestamps, texts, large_texts, binaries, large_binaries, fixed_binaries, lists, large_lists, fixed_lists, structs, column, no_column, and_column, columns_of, PlainSchema}

unfoldable mutual
  -- a column, followed by all its descendants
  pub preorder : Column → List Column
  preorder (column name nullable kind dictionary pairs) = column name nullable kind dictionary pairs ∷ preorder_below kind

  pub preorder_below : Kind → List Column
  preorder_below (lists item) = preorder item
  preorder_below (large_lists item) = preorder item
  preorder_below (fixed_lists size item) = preorder item
  preorder_below (structs parts) = preorder_all parts
  preorder_below nulls = []
  preorder_below booleans = []
  preorder_below (integers bits signed) = []
  preorder_below (dates unit) = []
  preorder_below (timestamps unit timezone) = []
  preorder_below texts = []
  preorder_below large_texts = []
  preorder_below binaries = []
  preorder_below large_binaries = []
  preorder_below (fixed_binaries width) = []

  pub preorder_all : Columns → List Column
  preorder_all no_column = []
  preorder_all (and_column c cs) = preorder c ++ preorder_all cs

-- all columns of a schema, with their descendants
abbrev pub every_column : PlainSchema → List Column
every_column s = preorder_all (columns_of s.columns)

unfoldable mutual
  -- the number of levels of a column: its own, and those of its descendants
  pub depth : Column → ℕ
  depth (column name nullable kind dictionary pairs) = 1 + depth_below kind

  pub depth_below : Kind → ℕ
  depth_below (lists item) = depth item
  depth_below (large_lists item) = depth item
  depth_below (fixed_lists size item) = depth item
  depth_below (structs parts) = depth_all parts
  depth_below nulls = 0
  depth_below booleans = 0
  depth_below (integers bits signed) = 0
  depth_below (dates unit) = 0
  depth_below (timestamps unit timezone) = 0
  depth_below texts = 0
  depth_below large_texts = 0
  depth_below binaries = 0
  depth_below large_binaries = 0
  depth_below (fixed_binaries width) = 0

  -- the greatest depth of these columns
  pub depth_all : Columns → ℕ
  depth_all no_column = 0
  depth_all (and_column c cs) = max (depth c) (depth_all cs)
