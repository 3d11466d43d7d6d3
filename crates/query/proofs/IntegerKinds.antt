-- The types whose values are integers.
use Rattle.std.proofs.Common.{◌≡◌, ℕ, ◌/◌, true, List, refl, ap, sym}
use Rattle.arrow_schema.specs.Column.{integers, dates, timestamps}
use Rattle.arrow_schema.specs.View.{bits_of}
use Rattle.arrow_schema.specs.declared.types.IntegerType.{IntegerType}
use Rattle.cells.specs.Cell.{number}
use Rattle.cells.specs.Fit.{date_bits}
use Rattle.columns.specs.Array.{values_in}
use Rattle.columns.specs.CellAt.{kind_cell, integer_at}
use Rattle.columns.specs.Tests.{are_few}
use Rattle.query.specs.inner.Slots.{IsIntegerKind}

pub integer_kind : (t : IntegerType) → IsIntegerKind (integers (bits_of t.width) t.signed) t
unfolding kind_cell
integer_kind t = record { cells = λ a i. refl; buffer = λ a. refl }

pub date_kind_is : (unit : _) (t : IntegerType) → date_bits unit ≡ bits_of t.width → t.signed ≡ true → IsIntegerKind (dates unit) t
unfolding kind_cell
date_kind_is unit t bits signed = record {
  cells = λ a i j. number (integer_at (bits j / 8) (sym signed j) (values_in a) i);
  buffer = λ a. ap (λ (n : ℕ). are_few (n / 8) a (values_in a)) bits;
}

pub time_kind_is : (unit : _) (timezone : List ℕ) (t : IntegerType) → 64 ≡ bits_of t.width → t.signed ≡ true → IsIntegerKind (timestamps unit timezone) t
unfolding kind_cell
time_kind_is unit timezone t bits signed = record {
  cells = λ a i j. number (integer_at (bits j / 8) (sym signed j) (values_in a) i);
  buffer = λ a. ap (λ (n : ℕ). are_few (n / 8) a (values_in a)) bits;
}
