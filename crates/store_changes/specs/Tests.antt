-- The answers of the tests of commands.
use Rattle.std.specs.Prelude.{◌≡◌, Option, Some, None, Result, Ok, Err}
use Rattle.tables.specs.declared.refusal.Refusal.{Refusal}
use Rattle.store_changes.specs.declared.change.Change.{Change}
use Rattle.store_runs.specs.Changes.{PlainChange}
use Rattle.store_changes.specs.Change.{change_of}

-- the answer of a test: passed, or the refusal
abbrev pub Tests : Result (Unit {0}) Refusal → Option Refusal → Type 0
Tests (Ok unit) test = test ≡ None
Tests (Err r) test = test ≡ Some r

-- a decision, as plain data
abbrev pub decision_of : Result Change Refusal → Result PlainChange Refusal
decision_of (Ok change) = Ok (change_of change)
decision_of (Err r) = Err r
