-- How much rows may weigh at most, by the number of rows and of the bytes of streams that they are in.
use Rattle.std.specs.Prelude.{◌+◌, ◌*◌, ◌/◌, ℕ, nat_le, [], Option, Some, None, if◌then◌else◌}
use Rattle.arrow_schema.specs.Column.{Kind, Column, Columns, nulls, booleans, integers, dates, timestamps, texts, large_texts, binaries, large_binaries, fixed_binaries, lists, large_lists, fixed_lists, structs, column, no_column, and_column, columns_of, PlainSchema}
use Rattle.cells.specs.Cell.{null}
use Rattle.cells.specs.Fit.{date_bits}
use Rattle.cells.specs.Weight.{weight, row_weight}

-- ---- slots: eight times their number is at most so many times the number of bytes, or they may take no bytes

-- values of this width
abbrev pub slots_of_width : (width : ℕ) → Option ℕ
slots_of_width width = if nat_le 8 width then Some 1 else if nat_le 4 width then Some 2 else if nat_le 2 width then Some 4 else if nat_le 1 width then Some 8 else None

abbrev pub unless_zero : ℕ → Option ℕ → Option ℕ
unless_zero size slots = if nat_le 1 size then slots else None

unfoldable mutual
  pub slots_in_eight : Column → Option ℕ
  slots_in_eight (column name nullable kind None pairs) = kind_slots_in_eight kind
  slots_in_eight (column name nullable kind (Some index) pairs) = slots_of_width (index.bits / 8)

  pub kind_slots_in_eight : Kind → Option ℕ
  kind_slots_in_eight nulls = None
  kind_slots_in_eight booleans = Some 64
  kind_slots_in_eight (integers bits signed) = slots_of_width (bits / 8)
  kind_slots_in_eight (dates unit) = slots_of_width (date_bits unit / 8)
  kind_slots_in_eight (timestamps unit timezone) = Some 1
  kind_slots_in_eight texts = Some 2
  kind_slots_in_eight large_texts = Some 1
  kind_slots_in_eight binaries = Some 2
  kind_slots_in_eight large_binaries = Some 1
  kind_slots_in_eight (fixed_binaries width) = slots_of_width width
  kind_slots_in_eight (lists item) = Some 2
  kind_slots_in_eight (large_lists item) = Some 1
  kind_slots_in_eight (fixed_lists size item) = unless_zero size (slots_in_eight item)
  kind_slots_in_eight (structs columns) = part_slots_in_eight columns

  -- a struct has no more slots than its first field
  pub part_slots_in_eight : Columns → Option ℕ
  part_slots_in_eight no_column = None
  part_slots_in_eight (and_column c cs) = slots_in_eight c

-- ---- weight: eight times what cells weigh more than as many nulls is at most so many times the number of bytes, or there is no such bound

-- as many items as fit, of which each weighs this much, and what they weigh more
abbrev pub of_items : (slots more : Option ℕ) → (unit : ℕ) → Option ℕ
of_items None more unit = None
of_items (Some n) None unit = None
of_items (Some n) (Some m) unit = Some (n * unit + m)

abbrev pub both : Option ℕ → Option ℕ → Option ℕ
both None other = None
both (Some n) None = None
both (Some n) (Some m) = Some (n + m)

-- values with a dictionary may be one entry that is named often, unless all values of the type weigh the same
abbrev pub more_of_entries : Kind → Option ℕ
more_of_entries nulls = Some 0
more_of_entries booleans = Some 0
more_of_entries (integers bits signed) = Some 0
more_of_entries (dates unit) = Some 0
more_of_entries (timestamps unit timezone) = Some 0
more_of_entries (fixed_binaries width) = Some 0
more_of_entries _ = None

unfoldable mutual
  pub more_in_eight : Column → Option ℕ
  more_in_eight (column name nullable kind None pairs) = kind_more_in_eight kind
  more_in_eight (column name nullable kind (Some index) pairs) = more_of_entries kind

  pub kind_more_in_eight : Kind → Option ℕ
  kind_more_in_eight nulls = Some 0
  kind_more_in_eight booleans = Some 0
  kind_more_in_eight (integers bits signed) = Some 0
  kind_more_in_eight (dates unit) = Some 0
  kind_more_in_eight (timestamps unit timezone) = Some 0
  kind_more_in_eight texts = Some 8
  kind_more_in_eight large_texts = Some 8
  kind_more_in_eight binaries = Some 8
  kind_more_in_eight large_binaries = Some 8
  kind_more_in_eight (fixed_binaries width) = Some 0
  kind_more_in_eight (lists item) = of_items (slots_in_eight item) (more_in_eight item) (weight item null)
  kind_more_in_eight (large_lists item) = of_items (slots_in_eight item) (more_in_eight item) (weight item null)
  kind_more_in_eight (fixed_lists size item) = more_in_eight item
  kind_more_in_eight (structs columns) = parts_more_in_eight columns

  pub parts_more_in_eight : Columns → Option ℕ
  parts_more_in_eight no_column = Some 0
  parts_more_in_eight (and_column c cs) = both (more_in_eight c) (parts_more_in_eight cs)

-- ---- rows

-- the same of rows
abbrev pub row_more_in_eight : PlainSchema → Option ℕ
row_more_in_eight s = parts_more_in_eight (columns_of s.columns)

-- so many rows, in streams of so many bytes, may weigh this: eight times the weight of the rows if each were nulls, and what they may weigh more
abbrev pub most_in_eight : PlainSchema → (more rows bytes : ℕ) → ℕ
most_in_eight s more rows bytes = 8 * (rows * row_weight s []) + more * bytes
