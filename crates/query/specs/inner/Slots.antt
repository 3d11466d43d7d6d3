-- A comparison with an integer, slot by slot of an array.
use Rattle.std.specs.Prelude.{◌≡◌, ℕ, ℤ, ◌/◌, Bool, true, false, not, ◌&&◌, ◌||◌, ◌==◌, nat_le, List, length, drop, slice_get, Option, Some, None}
use Rattle.std.specs.Ordering.{int_cmp}
use Rattle.arrow_schema.specs.Column.{Kind, Column}
use Rattle.arrow_schema.specs.View.{bits_of}
use Rattle.arrow_schema.specs.declared.types.IntegerType.{IntegerType}
use Rattle.bitmap.specs.Bits.{bit}
use Rattle.cells.specs.Cell.{Cell, null, number}
use Rattle.columns.specs.Array.{Array, slots_in, validity_in, values_in, first_array}
use Rattle.columns.specs.CellAt.{cell_at, kind_cell, integer_at, unless_null}
use Rattle.columns.specs.Sound.{is_sound}
use Rattle.columns.specs.Tests.{has_short_validity, has_short_buffer, are_few}
use Rattle.columns.specs.View.{placed_arrays}
use Rattle.values.specs.declared.table_part.Batch.{Batch}
use Rattle.values.specs.declared.table_part.TablePart.{TablePart}
use Rattle.civil_days.specs.declared.date_column.DateColumn.{DateColumn}
use Rattle.query.specs.Shown.{shown_number}
use Rattle.query.specs.declared.integer_slots.IntegerComparison.{IntegerComparison}
use Rattle.query.specs.Bound.{Bound, accepts, compares}

abbrev pub width_of : IntegerType → ℕ
width_of t = bits_of t.width / 8

abbrev pub integer_cell : IntegerType → Array → ℕ → Cell
integer_cell t a i = number (integer_at (width_of t) t.signed (values_in a) i)

abbrev pub number_or_null : Option ℤ → Cell
number_or_null (Some n) = number n
number_or_null None = null

abbrev pub date_or_null : DateColumn → Option ℤ → Cell
date_or_null column (Some n) = shown_number (Some column) n
date_or_null column None = null

-- the values of a type are integers
pub record IsIntegerKind (kind : Kind) (t : IntegerType) : Type 0 where
  pub cells : (a : Array) (i : ℕ) → kind_cell kind a i ≡ integer_cell t a i
  pub buffer : (a : Array) → has_short_buffer kind a ≡ are_few (width_of t) a (values_in a)

-- the cells of a column are integers or nulls, in the bytes of its arrays
pub record IsIntegerColumn (c : Column) (t : IntegerType) : Type 0 where
  pub cells : (a : Array) (i : ℕ) → cell_at c a i ≡ unless_null (integer_cell t) a i
  pub validity : (a : Array) → is_sound c a ≡ true → has_short_validity a ≡ false
  pub values : (a : Array) → is_sound c a ≡ true → are_few (width_of t) a (values_in a) ≡ false

-- a comparison with a column of integers
pub record IsIntegerComparison (columns : List Column) (b : Bound) (comparison : IntegerComparison) : Type 0 where
  pub column : Column
  pub found : slice_get columns b.place ≡ Some column
  pub integers : IsIntegerColumn column comparison.integer
  pub place : comparison.place ≡ b.place
  pub predicate : b.predicate ≡ compares comparison.operator (number comparison.literal)

-- whether a slot is valid by a validity bitmap
abbrev pub is_valid_in : List ℕ → ℕ → Bool
is_valid_in validity i = length validity == 0 || bit validity i

-- whether the comparison holds for a slot with this validity bitmap and these values, which it never does for a null
abbrev pub integer_holds_in : IntegerComparison → (validity values : List ℕ) → ℕ → Bool
integer_holds_in comparison validity values i =
    is_valid_in validity i
    && accepts comparison.operator (int_cmp (integer_at (width_of comparison.integer) comparison.integer.signed values i) comparison.literal)

abbrev pub integer_holds_at : IntegerComparison → Array → ℕ → Bool
integer_holds_at comparison a i = integer_holds_in comparison (validity_in a) (values_in a) i

-- the array of a column in a batch
abbrev pub array_of : ℕ → TablePart → Batch → Array
array_of place p b = first_array (placed_arrays p.bytes.items p.dictionaries.items (drop place b.arrays.items))

-- the array has the bytes of n slots
abbrev pub has_integers : IntegerType → ℕ → Array → Bool
has_integers t rows a = nat_le rows (slots_in a) && (not (has_short_validity a) && not (are_few (width_of t) a (values_in a)))
