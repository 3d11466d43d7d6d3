-- A condition on the columns of a table, and whether it holds for a row.
use Rattle.std.specs.Prelude.{ℕ, ◌==◌, Bool, false, List, position, count_by, slice_get, bytes_eq, Option, Some, None, Result, Ok, Err, if◌then◌else◌}
use Rattle.std.specs.declared.cmp.Ordering.{Ordering}
use Rattle.std.specs.Ordering.{nat_cmp, int_cmp, bool_cmp, is_eq, is_ne, is_lt, is_le, is_gt, is_ge, is_some_and}
use Rattle.std.specs.Cmp.Lexicographic.{slice_cmp}
use Rattle.arrow_schema.specs.Column.{Kind, Column}
use Rattle.arrow_schema.specs.Parts.{name_of_column, kind_of_column}
use Rattle.cells.specs.Cell.{Cell, boolean, number, text, bytes}
use Rattle.cells.specs.Nulls.{is_null, is_there}
use Rattle.civil_days.specs.declared.date_form.DateForm.{DateForm}
use Rattle.query.specs.declared.operator.Operator.{Operator}
use Rattle.query.specs.declared.operator.Operator.TheVariants as operators
use Rattle.query.specs.Query.{PlainTest, null_test, value_test, comparison, PlainCondition}
use Rattle.query.specs.Literal.{is_comparable, literal_of}

-- why a query is refused: a name that no column has, or more than one, or that is asked for twice; a condition of another form or with a bad
-- literal; a comparison of a type that has none
pub data SelectionRefusal : Type 0 where
  unknown_column : SelectionRefusal
  bad_condition : SelectionRefusal
  not_comparable : SelectionRefusal

abbrev pub has_name : List ℕ → Column → Bool
has_name wanted c = bytes_eq (name_of_column c) wanted

-- the place of the only column that has this name
unfoldable pub place_of : List Column → List ℕ → Option ℕ
place_of cs name = if count_by (has_name name) cs == 1 then position (has_name name) cs else None

-- what is asked of the cell at a place of a row
pub data Predicate : Type 0 where
  asks_null : Predicate
  asks_value : Predicate
  compares : Operator → Cell → Predicate

pub record Bound : Type 0 where
  pub place : ℕ
  pub predicate : Predicate

abbrev pub against : Operator → Option Cell → Result Predicate SelectionRefusal
against o None = Err bad_condition
against o (Some literal) = Ok (compares o literal)

abbrev pub predicate_of : DateForm → Kind → PlainTest → Result Predicate SelectionRefusal
predicate_of form kind null_test = Ok asks_null
predicate_of form kind value_test = Ok asks_value
predicate_of form kind (comparison o literal) = if is_comparable kind then against o (literal_of form kind literal) else Err not_comparable

abbrev pub bound_at : ℕ → Result Predicate SelectionRefusal → Result Bound SelectionRefusal
bound_at place (Ok d) = Ok (record { place = place; predicate = d })
bound_at place (Err e) = Err e

abbrev pub bound_in : DateForm → ℕ → Option Column → PlainTest → Result Bound SelectionRefusal
bound_in form place None test = Err unknown_column
bound_in form place (Some c) test = bound_at place (predicate_of form (kind_of_column c) test)

abbrev pub bound_to : DateForm → List Column → Option ℕ → PlainTest → Result Bound SelectionRefusal
bound_to form cs None test = Err unknown_column
bound_to form cs (Some place) test = bound_in form place (slice_get cs place) test

-- a condition on these columns, whose literal has dates in this form, or the first reason why there is none: its column, whether it can be compared, its literal
unfoldable pub bound : DateForm → List Column → PlainCondition → Result Bound SelectionRefusal
bound form cs c = bound_to form cs (place_of cs c.column) c.test

-- false is less than true; texts and bytes are ordered byte by byte; a null, and a value of another form, has no order
abbrev pub order : Cell → Cell → Option Ordering
order (boolean a) (boolean b) = Some (bool_cmp a b)
order (number a) (number b) = Some (int_cmp a b)
order (text a) (text b) = Some (slice_cmp nat_cmp a b)
order (bytes a) (bytes b) = Some (slice_cmp nat_cmp a b)
order _ _ = None

abbrev pub accepts : Operator → Ordering → Bool
accepts operators.Equal = is_eq
accepts operators.NotEqual = is_ne
accepts operators.Less = is_lt
accepts operators.AtMost = is_le
accepts operators.Greater = is_gt
accepts operators.AtLeast = is_ge

-- whether a cell meets a predicate: a comparison with a null is false, whatever the operator
abbrev pub meets : Predicate → Cell → Bool
meets asks_null c = is_null c
meets asks_value c = is_there c
meets (compares o literal) c = is_some_and (accepts o) (order c literal)

abbrev pub meets_at : Predicate → Option Cell → Bool
meets_at d None = false
meets_at d (Some c) = meets d c

-- whether a condition holds for a row
abbrev pub holds : Bound → List Cell → Bool
holds b row = meets_at b.predicate (slice_get row b.place)
