-- A comparison with a string or a binary, slot by slot of an array.
use Rattle.std.specs.Prelude.{◌≡◌, ℕ, ◌+◌, ◌-◌, ◌/◌, Bool, true, false, not, ◌&&◌, nat_le, List, take, drop, slice_get, Some}
use Rattle.std.specs.Cmp.Lexicographic.{slice_cmp}
use Rattle.std.specs.Ordering.{nat_cmp}
use Rattle.arrow_schema.specs.Column.{Kind, Column}
use Rattle.arrow_schema.specs.View.{bits_of}
use Rattle.arrow_schema.specs.declared.types.BitWidth.{BitWidth}
use Rattle.cells.specs.Cell.{Cell}
use Rattle.columns.specs.Array.{Array, slots_in, validity_in, offsets_in, contents_in}
use Rattle.columns.specs.CellAt.{cell_at, kind_cell, is_valid, number_at, contents_at}
use Rattle.columns.specs.Sound.{is_sound}
use Rattle.columns.specs.Tests.{has_short_validity, has_short_buffer, are_few_offsets}
use Rattle.query.specs.declared.contents_slots.ContentsComparison.{ContentsComparison}
use Rattle.query.specs.declared.operator.Operator.{Operator}
use Rattle.query.specs.Bound.{Bound, accepts, compares, meets, order}
use Rattle.query.specs.inner.Slots.{is_valid_in}

-- the values of a type are ordered with a literal as their bytes are with the literal's
pub record IsContentsKind (kind : Kind) (width : BitWidth) (literal : Cell) (bytes : List ℕ) : Type 0 where
  pub ordered : (a : Array) (i : ℕ) → order (kind_cell kind a i) literal ≡ Some (slice_cmp nat_cmp (contents_at (bits_of width / 8) a i) bytes)
  pub buffer : (a : Array) → has_short_buffer kind a ≡ are_few_offsets (bits_of width / 8) a

-- the cells of a column are nulls, or are compared so
pub record IsContentsColumn (c : Column) (width : BitWidth) (literal : Cell) (bytes : List ℕ) : Type 0 where
  pub answers : (o : Operator) (a : Array) (i : ℕ)
      → meets (compares o literal) (cell_at c a i) ≡ (is_valid a i && accepts o (slice_cmp nat_cmp (contents_at (bits_of width / 8) a i) bytes))
  pub validity : (a : Array) → is_sound c a ≡ true → has_short_validity a ≡ false
  pub offsets : (a : Array) → is_sound c a ≡ true → are_few_offsets (bits_of width / 8) a ≡ false

-- a comparison with a column of strings or binaries
pub record IsContentsComparison (columns : List Column) (b : Bound) (comparison : ContentsComparison) : Type 0 where
  pub column : Column
  pub found : slice_get columns b.place ≡ Some column
  pub literal : Cell
  pub contents : IsContentsColumn column comparison.width literal comparison.literal.now
  pub place : comparison.place ≡ b.place
  pub predicate : b.predicate ≡ compares comparison.operator literal

-- the bytes of a slot, by these offsets
abbrev pub span_in : (width : ℕ) → (offsets contents : List ℕ) → ℕ → List ℕ
span_in width offsets contents i = take (number_at width offsets (i + 1) - number_at width offsets i) (drop (number_at width offsets i) contents)

-- whether the comparison holds for a slot with these buffers, which it never does for a null
abbrev pub contents_hold_in : ContentsComparison → (validity offsets contents : List ℕ) → ℕ → Bool
contents_hold_in comparison validity offsets contents i =
    is_valid_in validity i && accepts comparison.operator (slice_cmp nat_cmp (span_in (bits_of comparison.width / 8) offsets contents i) comparison.literal.now)

abbrev pub contents_hold_at : ContentsComparison → Array → ℕ → Bool
contents_hold_at comparison a i = contents_hold_in comparison (validity_in a) (offsets_in a) (contents_in a) i

-- the array has the offsets of n slots
abbrev pub has_contents : (width : ℕ) → ℕ → Array → Bool
has_contents width rows a = nat_le rows (slots_in a) && (not (has_short_validity a) && not (are_few_offsets width a))
