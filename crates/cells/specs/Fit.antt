-- Which values fit a field (Arrow columnar format, "Logical types"; Schema.fbs).
use Rattle.std.specs.Prelude.{ℕ, ◌+◌, ◌-◌, ◌^◌, ℤ, pos, neg_ℤ, int_lt, int_le, Bool, true, false, ◌&&◌, ◌==◌, List, length}
use Rattle.std.specs.Str.{is_utf8}
use Rattle.arrow_schema.specs.Column.{DateKind, days, date_milliseconds, Kind, Column, Columns, nulls, booleans, integers, dates, timestamps, texts, large_texts, binaries, large_binaries, fixed_binaries, lists, large_lists, fixed_lists, structs, column, no_column, and_column}
use Rattle.cells.specs.Cell.{Cell, Cells, null, boolean, number, text, bytes, items, parts, no_cell, and_cell}

-- an integer of this many bits
abbrev pub in_range : ℕ → Bool → ℤ → Bool
in_range bits false n = int_le (pos 0) n && int_lt n (pos (2 ^ bits))
in_range bits true n = int_le (neg_ℤ (pos (2 ^ (bits - 1)))) n && int_lt n (pos (2 ^ (bits - 1)))

-- days have 32 bits, milliseconds 64
abbrev pub date_bits : DateKind → ℕ
date_bits days = 32
date_bits date_milliseconds = 64

abbrev pub count_of : Cells → ℕ
count_of no_cell = 0
count_of (and_cell c cs) = count_of cs + 1

abbrev pub all_cells : (Cell → Bool) → Cells → Bool
all_cells p no_cell = true
all_cells p (and_cell c cs) = p c && all_cells p cs

-- a cell of this kind whose content passes a test
abbrev pub is_boolean : Cell → Bool
is_boolean (boolean b) = true
is_boolean _ = false

abbrev pub text_where : (List ℕ → Bool) → Cell → Bool
text_where p (text t) = p t
text_where p _ = false

abbrev pub number_where : (ℤ → Bool) → Cell → Bool
number_where p (number n) = p n
number_where p _ = false

abbrev pub bytes_where : (List ℕ → Bool) → Cell → Bool
bytes_where p (bytes t) = p t
bytes_where p _ = false

abbrev pub items_where : (Cells → Bool) → Cell → Bool
items_where p (items cs) = p cs
items_where p _ = false

abbrev pub parts_where : (Cells → Bool) → Cell → Bool
parts_where p (parts cs) = p cs
parts_where p _ = false

-- a null fits if nulls are allowed, whatever the type
abbrev pub null_or : Bool → (Cell → Bool) → Cell → Bool
null_or nullable p null = nullable
null_or nullable p c = p c

unfoldable mutual
  pub fits : Column → Cell → Bool
  fits (column name nullable kind dictionary pairs) = null_or nullable (fits_kind kind)

  -- for a cell that is not null; the null type has no such cell
  pub fits_kind : Kind → Cell → Bool
  fits_kind nulls = λ c. false
  fits_kind booleans = is_boolean
  fits_kind (integers bits signed) = number_where (in_range bits signed)
  fits_kind (dates unit) = number_where (in_range (date_bits unit) true)
  fits_kind (timestamps unit timezone) = number_where (in_range 64 true)
  fits_kind texts = text_where is_utf8
  fits_kind large_texts = text_where is_utf8
  fits_kind binaries = bytes_where (λ t. true)
  fits_kind large_binaries = bytes_where (λ t. true)
  fits_kind (fixed_binaries width) = bytes_where (λ t. length t == width)
  fits_kind (lists item) = items_where (all_cells (fits item))
  fits_kind (large_lists item) = items_where (all_cells (fits item))
  fits_kind (fixed_lists size item) = items_where (λ cs. count_of cs == size && all_cells (fits item) cs)
  fits_kind (structs columns) = parts_where (each_fits columns)

  -- exactly one cell for each column, and each fits its own
  pub each_fits : Columns → Cells → Bool
  each_fits no_column no_cell = true
  each_fits (and_column f fs) (and_cell c cs) = fits f c && each_fits fs cs
  each_fits no_column (and_cell c cs) = false
  each_fits (and_column f fs) no_cell = false
