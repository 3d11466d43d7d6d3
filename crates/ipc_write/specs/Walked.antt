-- The number of tables that a reader enters for a written message, and the types that it must support.
use Rattle.std.specs.Prelude.{is_none, false, ◌≡◌, ℕ, ◌+◌, Bool, true, length, Option, Some, None}
use Rattle.ipc_message.specs.declared.type_codes.TheConstants.{DATE, TIMESTAMP}
use Rattle.ipc_message.specs.Framing.{header_type}
use Rattle.arrow_schema.specs.Column.{Index, Kind, Column, Columns, nulls, booleans, integers, dates, timestamps, texts, large_texts, binaries, large_binaries, fixed_binaries, lists, large_lists, fixed_lists, structs, column, no_column, and_column}

-- the reader supports dates and timestamps, the types with a table of their own that not every reader supports
abbrev pub HoldsTimes : (ℕ → Bool) → Type 0
HoldsTimes supported = (supported DATE ≡ true) × (supported TIMESTAMP ≡ true)

-- the tables entered for a type: none if it has no parameters
abbrev pub type_tables : Kind → ℕ
type_tables (integers bits signed) = 1
type_tables (fixed_binaries width) = 1
type_tables (fixed_lists size item) = 1
type_tables (dates unit) = 1
type_tables (timestamps unit timezone) = 1
type_tables _ = 0

-- the tables of a dictionary: its own and that of its index type
abbrev pub encoding_tables : Option Index → ℕ
encoding_tables None = 0
encoding_tables (Some index) = 2

-- the tables entered for a column and its children
abbrev mutual
  pub tables_of : Column → ℕ
  tables_of (column name nullable kind dictionary pairs) = 1 + type_tables kind + encoding_tables dictionary + tables_below kind + length pairs

  pub tables_below : Kind → ℕ
  tables_below nulls = 0
  tables_below booleans = 0
  tables_below (integers bits signed) = 0
  tables_below (dates unit) = 0
  tables_below (timestamps unit timezone) = 0
  tables_below texts = 0
  tables_below large_texts = 0
  tables_below binaries = 0
  tables_below large_binaries = 0
  tables_below (fixed_binaries width) = 0
  tables_below (lists item) = tables_of item
  tables_below (large_lists item) = tables_of item
  tables_below (fixed_lists size item) = tables_of item
  tables_below (structs parts) = tables_of_all parts

  pub tables_of_all : Columns → ℕ
  tables_of_all no_column = 0
  tables_of_all (and_column c cs) = tables_of c + tables_of_all cs

-- a header type that a reader accepts
abbrev pub IsHeaderType : ℕ → Type 0
IsHeaderType type = is_none (header_type type) ≡ false
