-- A query of a table, without where it lies in memory.
use Rattle.std.specs.Prelude.{ℕ, List, Option}
use Rattle.civil_days.specs.declared.date_form.DateForm.{DateForm}
use Rattle.query.specs.declared.operator.Operator.{Operator}

-- what a condition asks of one cell; a literal is the text as it was typed
pub data PlainTest : Type 0 where
  null_test : PlainTest
  value_test : PlainTest
  comparison : Operator → (literal : List ℕ) → PlainTest

-- a condition on the column of this name
pub record PlainCondition : Type 0 where
  pub column : List ℕ
  pub test : PlainTest

-- the columns asked for, where none means all; the conditions that each row must meet; the maximum number of rows; and how dates stand in the
-- literals
pub record PlainQuery : Type 0 where
  pub columns : List (List ℕ)
  pub conditions : List PlainCondition
  pub limit : Option ℕ
  pub dates : DateForm
