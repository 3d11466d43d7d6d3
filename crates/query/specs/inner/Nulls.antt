-- Tests for nulls, slot by slot of an array.
use Rattle.std.specs.Prelude.{◌≡◌, ℕ, Bool, true, false, not, ◌&&◌, nat_le, List, slice_get, Some, if◌then◌else◌}
use Rattle.arrow_schema.specs.Column.{Column}
use Rattle.cells.specs.Nulls.{is_null}
use Rattle.columns.specs.Array.{Array, slots_in, validity_in}
use Rattle.columns.specs.CellAt.{cell_at, is_valid}
use Rattle.columns.specs.Sound.{is_sound}
use Rattle.columns.specs.Tests.{has_short_validity}
use Rattle.query.specs.declared.null_slots.NullTest.{NullTest}
use Rattle.query.specs.Bound.{Bound, asks_null, asks_value}
use Rattle.query.specs.inner.Slots.{is_valid_in}

-- the cells of a column are null exactly where a slot is not valid
pub record HasNullsAlone (c : Column) : Type 0 where
  pub cells : (a : Array) (i : ℕ) → is_null (cell_at c a i) ≡ not (is_valid a i)
  pub validity : (a : Array) → is_sound c a ≡ true → has_short_validity a ≡ false

-- a test of such a column
pub record IsNullTest (columns : List Column) (b : Bound) (t : NullTest) : Type 0 where
  pub column : Column
  pub found : slice_get columns b.place ≡ Some column
  pub nulls : HasNullsAlone column
  pub place : t.place ≡ b.place
  pub predicate : b.predicate ≡ (if t.valid then asks_value else asks_null)

abbrev pub null_holds_in : NullTest → (validity : List ℕ) → ℕ → Bool
null_holds_in t validity i = if is_valid_in validity i then t.valid else not t.valid

abbrev pub null_holds_at : NullTest → Array → ℕ → Bool
null_holds_at t a i = null_holds_in t (validity_in a) i

-- the array has the validity of n slots
abbrev pub has_validity : ℕ → Array → Bool
has_validity rows a = nat_le rows (slots_in a) && not (has_short_validity a)
