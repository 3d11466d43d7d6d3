-- The tables after a command, or the first of its tests that fails.
use Rattle.std.specs.Prelude.{◌≡◌, ℕ, zero, suc, ◌+◌, IsOk, not, ◌&&◌, nat_le, nat_lt, List, [], ◌∷◌, ◌++◌, length, Option, Some, None, Result, Ok, Err}
use Rattle.facts.specs.Checks.{when, first_some, unless}
use Rattle.arrow_schema.specs.Column.{PlainSchema}
use Rattle.arrow_schema.specs.OneShape.{have_one_shape}
use Rattle.cells.specs.Cell.{Cell, PlainTable}
use Rattle.cells.specs.Weight.{table_weight}
use Rattle.cells.specs.declared.limits.TheConstants.{MAX_TABLE_WEIGHT}
use Rattle.values.specs.Table.{first_unfit}
use Rattle.ipc_message.specs.declared.fault.Fault.{Fault}
use Rattle.ipc_message.specs.Header.{supported_codes}
use Rattle.ipc_stream.specs.Meaning.{meaning}
use Rattle.query.specs.Bound as queries
use Rattle.query.specs.Query.{PlainQuery}
use Rattle.query.specs.Selection.{selection}
use Rattle.tables.specs.declared.limits.TheConstants.{MAX_IMPORT_BYTES}
use Rattle.tables.specs.declared.refusal.Limit.TheVariants as limits
use Rattle.tables.specs.declared.refusal.Refusal.{Refusal}
use Rattle.tables.specs.declared.refusal.Refusal.TheVariants.{NoTable, NameTaken, BadName, SchemaMismatch, Import, RowUnfit, TooMany}
use Rattle.tables.specs.Refusals.{query_refusal}
use Rattle.catalogue.specs.declared.limits.TheConstants.{MAX_TABLES}
use Rattle.catalogue.specs.Entries.{is_name}
use Rattle.tables.specs.Tables.{Tables, table_at, has_table, with_table, without_table, table_count}
use Rattle.tables.specs.Commands.{PlainCommand, create, import_stream, append_stream, append_rows, save_as, rename, drop_table, all_of, PlainCommands, no_command, and_command}

-- ---- the tests

abbrev pub bad_name : List ℕ → Option Refusal
bad_name name = when (not (is_name name)) BadName

abbrev pub name_taken : Tables → List ℕ → Option Refusal
name_taken t name = when (has_table t name) NameTaken

-- a further table is too many, unless it replaces another one
abbrev pub too_many_tables : Tables → List ℕ → Option Refusal
too_many_tables t name = when (not (has_table t name) && nat_le MAX_TABLES (table_count t)) (TooMany limits.Tables)

abbrev pub too_many_bytes : List ℕ → Option Refusal
too_many_bytes bytes = when (nat_lt MAX_IMPORT_BYTES (length bytes)) (TooMany limits.Bytes)

-- the tests of an import before its bytes are read
abbrev pub import_tests : (name bytes : List ℕ) → Option Refusal
import_tests name bytes = first_some (bad_name name ∷ too_many_bytes bytes ∷ [])

abbrev pub other_shape : PlainSchema → PlainSchema → Option Refusal
other_shape own new = when (not (have_one_shape own new)) SchemaMismatch

-- the first row that does not fit the schema, counted from 0 among the new rows
abbrev pub unfit_row : PlainSchema → List (List Cell) → Option Refusal
unfit_row schema rows = elim (first_unfit schema rows) [ None ↦ None | Some i ↦ Some (RowUnfit i) ]

abbrev pub too_heavy : PlainSchema → List (List Cell) → Option Refusal
too_heavy schema rows = when (not (nat_le (table_weight schema rows) MAX_TABLE_WEIGHT)) (TooMany limits.Weight)

-- ---- values that are needed before the effect

-- the table of this name
abbrev pub of_table : {A : Type 0} → Option PlainTable → (PlainTable → Result A Refusal) → Result A Refusal
of_table None f = Err NoTable
of_table (Some table) f = f table

-- the table that a stream means
abbrev pub of_meaning : {A : Type 0} → Result PlainTable Fault → (PlainTable → Result A Refusal) → Result A Refusal
of_meaning (Err fault) f = Err (Import fault)
of_meaning (Ok table) f = f table

-- the table that a query selects from another
abbrev pub of_query : {A : Type 0} → Result PlainTable queries.SelectionRefusal → (PlainTable → Result A Refusal) → Result A Refusal
of_query (Err refusal) f = Err (query_refusal refusal)
of_query (Ok table) f = f table

-- ---- effects

abbrev pub empty_table : PlainSchema → PlainTable
empty_table schema = record { schema = schema; rows = [] }

-- the rows after those of a table, with the table's schema
abbrev pub joined : PlainTable → List (List Cell) → PlainTable
joined table rows = record { schema = table.schema; rows = table.rows ++ rows }

-- a new table at a free name
abbrev pub made : Tables → List ℕ → PlainTable → Result Tables Refusal
made t name table = unless (first_some (bad_name name ∷ name_taken t name ∷ too_many_tables t name ∷ [])) (Ok (with_table t name table))

-- a table at a name, replacing any table there
abbrev pub put : Tables → List ℕ → PlainTable → Result Tables Refusal
put t name table = unless (too_many_tables t name) (Ok (with_table t name table))

abbrev pub appended : Tables → List ℕ → List (List Cell) → PlainTable → Result Tables Refusal
appended t name rows table =
    unless (first_some (unfit_row table.schema rows ∷ too_heavy table.schema (table.rows ++ rows) ∷ [])) (Ok (with_table t name (joined table rows)))

-- the rows of another table of the same shape
abbrev pub appended_table : Tables → List ℕ → PlainTable → PlainTable → Result Tables Refusal
appended_table t name table new = unless (other_shape table.schema new.schema) (appended t name new.rows table)

abbrev pub appended_stream : Tables → List ℕ → List ℕ → PlainTable → Result Tables Refusal
appended_stream t name bytes table = unless (too_many_bytes bytes) (of_meaning (meaning supported_codes bytes) (appended_table t name table))

abbrev pub saved : Tables → List ℕ → PlainQuery → PlainTable → Result Tables Refusal
saved t to query table = of_query (selection table query) (made t to)

abbrev pub renamed : Tables → List ℕ → List ℕ → PlainTable → Result Tables Refusal
renamed t from to table = unless (first_some (bad_name to ∷ name_taken t to ∷ [])) (Ok (with_table (without_table t from) to table))

abbrev pub dropped : Tables → List ℕ → PlainTable → Result Tables Refusal
dropped t name table = Ok (without_table t name)

-- ---- the commands

unfoldable mutual
  pub verdict : Tables → PlainCommand → Result Tables Refusal
  verdict t (create name schema) = made t name (empty_table schema)
  verdict t (import_stream name bytes) = unless (import_tests name bytes) (of_meaning (meaning supported_codes bytes) (put t name))
  verdict t (append_stream name bytes) = of_table (table_at t name) (appended_stream t name bytes)
  verdict t (append_rows name rows) = of_table (table_at t name) (appended t name rows)
  verdict t (save_as from to query) = of_table (table_at t from) (saved t to query)
  verdict t (rename from to) = of_table (table_at t from) (renamed t from to)
  verdict t (drop_table name) = of_table (table_at t name) (dropped t name)
  verdict t (all_of cs) = verdict_in_turn t cs

  -- each command on the tables that the ones before it leave; the first refusal is that of the list
  pub verdict_in_turn : Tables → PlainCommands → Result Tables Refusal
  verdict_in_turn t no_command = Ok t
  verdict_in_turn t (and_command c cs) = elim (verdict t c) [ Err r ↦ Err r | Ok u ↦ verdict_in_turn u cs ]

-- the first refused command of a list, counted from `place`, and why it is refused
abbrev pub refused_in_turn : (place : ℕ) → Tables → PlainCommands → Option (ℕ × Refusal)
refused_in_turn place t no_command = None
refused_in_turn place t (and_command c cs) = elim (verdict t c) [ Err r ↦ Some (place, r) | Ok u ↦ refused_in_turn (place + 1) u cs ]

-- the first commands of a list
abbrev pub first_commands : ℕ → PlainCommands → PlainCommands
first_commands count no_command = no_command
first_commands zero (and_command c cs) = no_command
first_commands (suc count) (and_command c cs) = and_command c (first_commands count cs)

-- the commands of a list are accepted up to the one at this place
abbrev pub AcceptsThrough : Tables → PlainCommand → (place : ℕ) → Type 0
AcceptsThrough t (all_of cs) place = IsOk (verdict_in_turn t (first_commands (place + 1) cs))
AcceptsThrough t _ place = ⊥

-- the refused line of a command that is a list, counted from 0
abbrev pub refused_line : Tables → PlainCommand → Option (ℕ × Refusal)
refused_line t (all_of cs) = refused_in_turn 0 t cs
refused_line t _ = None

-- the tables after a command; a refused one leaves them as they are
abbrev pub after_verdict : Tables → Result Tables Refusal → Tables
after_verdict t (Ok new) = new
after_verdict t (Err refusal) = t

abbrev pub step : Tables → PlainCommand → Tables
step t c = after_verdict t (verdict t c)

-- the tables after a list of commands
unfoldable pub after : Tables → List PlainCommand → Tables
after t [] = t
after t (c ∷ cs) = after (step t c) cs
