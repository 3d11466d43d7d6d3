-- The weight of a value, by its type but regardless of dictionaries: roughly the bytes and cells that it takes in memory.
use Rattle.std.specs.Prelude.{ℕ, ◌+◌, ◌*◌, min, List, length, sum_by}
use Rattle.arrow_schema.specs.Column.{Kind, Column, Columns, nulls, booleans, integers, dates, timestamps, texts, large_texts, binaries, large_binaries, fixed_binaries, lists, large_lists, fixed_lists, structs, column, no_column, and_column, columns_of, PlainSchema}
use Rattle.cells.specs.declared.limits.TheConstants.{TOO_HEAVY}
use Rattle.cells.specs.Cell.{Cell, Cells, null, text, bytes, items, parts, no_cell, and_cell, cells_of}

-- the number of bytes of a text or a binary
abbrev pub byte_count : Cell → ℕ
byte_count (text t) = length t
byte_count (bytes t) = length t
byte_count _ = 0

-- the items of a list, and the parts of a struct
abbrev pub items_in : Cell → Cells
items_in (items cs) = cs
items_in _ = no_cell

abbrev pub parts_in : Cell → Cells
parts_in (parts cs) = cs
parts_in _ = no_cell

-- the first part and the others; an absent part is a null
abbrev pub first_part : Cells → Cell
first_part no_cell = null
first_part (and_cell c cs) = c

abbrev pub other_parts : Cells → Cells
other_parts no_cell = no_cell
other_parts (and_cell c cs) = cs

abbrev pub sum_of : (Cell → ℕ) → Cells → ℕ
sum_of w no_cell = 0
sum_of w (and_cell c cs) = w c + sum_of w cs

-- the sum over the items of a fixed-size list; a null has `size` null items
abbrev pub fixed_sum : ℕ → (Cell → ℕ) → Cell → ℕ
fixed_sum size w null = size * w null
fixed_sum size w c = sum_of w (items_in c)

unfoldable mutual
  pub weight : Column → Cell → ℕ
  weight (column name nullable kind dictionary pairs) = kind_weight kind

  pub kind_weight : Kind → Cell → ℕ
  kind_weight nulls = λ c. 1
  kind_weight booleans = λ c. 1
  kind_weight (integers bits signed) = λ c. 1
  kind_weight (dates unit) = λ c. 1
  kind_weight (timestamps unit timezone) = λ c. 1
  kind_weight texts = λ c. 1 + byte_count c
  kind_weight large_texts = λ c. 1 + byte_count c
  kind_weight binaries = λ c. 1 + byte_count c
  kind_weight large_binaries = λ c. 1 + byte_count c
  kind_weight (fixed_binaries width) = λ c. 1 + width
  kind_weight (lists item) = λ c. 1 + sum_of (weight item) (items_in c)
  kind_weight (large_lists item) = λ c. 1 + sum_of (weight item) (items_in c)
  kind_weight (fixed_lists size item) = λ c. 1 + fixed_sum size (weight item) c
  kind_weight (structs columns) = λ c. 1 + parts_weight columns (parts_in c)

  -- the sum over one part for each column; a null struct weighs as if all its parts were null
  pub parts_weight : Columns → Cells → ℕ
  parts_weight no_column = λ cs. 0
  parts_weight (and_column f fs) = λ cs. weight f (first_part cs) + parts_weight fs (other_parts cs)

-- a row weighs 1 plus its cells
abbrev pub row_weight : PlainSchema → List Cell → ℕ
row_weight s row = 1 + parts_weight (columns_of s.columns) (cells_of row)

-- a table weighs the sum of its rows
abbrev pub table_weight : PlainSchema → List (List Cell) → ℕ
table_weight s rows = sum_by (row_weight s) rows

-- a weight as it is reported: exact up to the limit of a table, and one value for everything above
abbrev pub capped_weight : ℕ → ℕ
capped_weight w = min w TOO_HEAVY
