-- The plain form of a query of the code, and how an error reports a refusal.
use Rattle.std.specs.Prelude.{◌≡◌, ℕ, List, map, string_bytes, Option, None, Result, Err}
use Rattle.query.specs.declared.condition.Test.{Test}
use Rattle.query.specs.declared.condition.Test.TheVariants.{IsNull, IsNotNull, Compared}
use Rattle.query.specs.declared.condition.Condition.{Condition}
use Rattle.query.specs.declared.query.Query.{Query}
use Rattle.query.specs.declared.errors.QueryError.{QueryError}
use Rattle.query.specs.declared.errors.QueryError.TheVariants.{UnknownColumn, BadCondition, NotComparable, OutOfMemory}
use Rattle.query.specs.Query.{PlainTest, null_test, value_test, comparison, PlainCondition, PlainQuery}
use Rattle.query.specs.Bound.{SelectionRefusal, unknown_column, bad_condition, not_comparable}

abbrev pub test_in : Test → PlainTest
test_in IsNull = null_test
test_in IsNotNull = value_test
test_in (Compared o literal) = comparison o (string_bytes literal)

abbrev pub condition_in : Condition → PlainCondition
condition_in c = record { column = string_bytes c.column; test = test_in c.test }

abbrev pub query_in : Query → PlainQuery
query_in q = record { columns = map string_bytes q.columns.items; conditions = map condition_in q.conditions.items; limit = q.limit; dates = q.dates }

-- an error reports the refusal that there is; memory may be refused in any case
abbrev pub Reports : {X : Type 0} → QueryError → Result X SelectionRefusal → Type 0
Reports UnknownColumn r = r ≡ Err unknown_column
Reports BadCondition r = r ≡ Err bad_condition
Reports NotComparable r = r ≡ Err not_comparable
Reports OutOfMemory r = Unit {0}

-- there is no such condition, or memory is refused
abbrev pub IsNoCondition : QueryError → Option PlainCondition → Type 0
IsNoCondition UnknownColumn o = ⊥
IsNoCondition BadCondition o = o ≡ None
IsNoCondition NotComparable o = ⊥
IsNoCondition OutOfMemory o = Unit {0}

-- the columns asked for are not there, or memory is refused
abbrev pub Unchosen : QueryError → Option (List ℕ) → Type 0
Unchosen UnknownColumn o = o ≡ None
Unchosen BadCondition o = ⊥
Unchosen NotComparable o = ⊥
Unchosen OutOfMemory o = Unit {0}
