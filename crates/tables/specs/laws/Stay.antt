-- If all tables satisfy `IsTable`, they still do after a command.
use Rattle.std.specs.Prelude.{◌≡◌, ◌≤◌, ℕ, Bool, true, false, not, nat_le, List, [], ◌∷◌, ◌++◌, cond, Option, Some, None, IfOk, Result, Ok, Err, if◌then◌else◌, refl}
use Rattle.std.proofs.Common.{ap, ◌∙◌, sym, subst, arith}
use Rattle.std.proofs.lemmas.Bool.{le-leb, leb-true}
use Rattle.std.proofs.lemmas.List.Sums.{sum_by-append}
use Rattle.facts.specs.Bytes.{AreBytes}
use Rattle.facts.specs.Checks.{when, first_some, unless}
use Rattle.arrow_schema.specs.Column.{PlainSchema}
use Rattle.arrow_schema.specs.Limits.{IsWithinLimits}
use Rattle.cells.specs.Cell.{Cell, PlainTable}
use Rattle.cells.specs.Weight.{row_weight, table_weight}
use Rattle.cells.specs.declared.limits.TheConstants.{MAX_TABLE_WEIGHT}
use Rattle.values.specs.Table as values
use Rattle.values.specs.Table.{first_unfit, weighed, table_from, IsTable}
use Rattle.ipc_message.specs.declared.fault.Fault.{Fault}
use Rattle.ipc_message.specs.Header.{supported_codes}
use Rattle.ipc_stream.specs.Meaning.{meaning}
use Rattle.query.specs.Bound as queries
use Rattle.query.specs.Query.{PlainQuery}
use Rattle.query.specs.Selection.{selection}
use Rattle.tables.specs.declared.refusal.Refusal.{Refusal}
use Rattle.tables.specs.declared.refusal.Refusal.TheVariants.{RowUnfit, TooMany}
use Rattle.tables.specs.declared.refusal.Limit.TheVariants as limits
use Rattle.tables.specs.Tables.{Tables, table_at, with_table, without_table, AreTables}
use Rattle.tables.specs.Commands.{PlainCommand, create, import_stream, append_stream, append_rows, save_as, rename, drop_table, all_of, PlainCommands, no_command, and_command, commands_of, BringsTables, EachBringsTables, BringTables}
use Rattle.tables.specs.Verdict.{bad_name, name_taken, too_many_tables, too_many_bytes, other_shape, unfit_row, too_heavy, of_table, of_meaning, of_query, empty_table, joined, made, put, appended, appended_table, appended_stream, saved, renamed, verdict, verdict_in_turn, after_verdict, step, after}
use Rattle.tables.specs.laws.Maps.{tied, at_with, at_without}

-- ---- maps of tables

with_one : (t : Tables) (name : List ℕ) (table : PlainTable) → AreTables t → IsTable table → AreTables (with_table t name table)
with_one t name table are is other own found = by_name (tied other name) (sym (at_with t name table other) ∙ found)
  where
    by_name : (b : Bool) → cond b (Some table) (table_at t other) ≡ Some own → IsTable own
    by_name true h = let same : table ≡ own = cc h in subst IsTable same is
    by_name false h = are other own h

without_one : (t : Tables) (name : List ℕ) → AreTables t → AreTables (without_table t name)
without_one t name are other own found = by_name (tied other name) (sym (at_without t name other) ∙ found)
  where
    by_name : (b : Bool) → cond b None (table_at t other) ≡ Some own → IsTable own
    by_name true h = absurd (cc h)
    by_name false h = are other own h

-- ---- values that are needed before the effect

abbrev Are : Result Tables Refusal → Type 0
Are r = IfOk r AreTables

are_unless : (o : Option Refusal) (r : Result Tables Refusal) → (o ≡ None → Are r) → Are (unless o r)
are_unless None r are = are refl
are_unless (Some e) r are = tt

are_of_table : (o : Option PlainTable) (f : PlainTable → Result Tables Refusal) → ((table : PlainTable) → o ≡ Some table → Are (f table)) → Are (of_table o f)
are_of_table None f are = tt
are_of_table (Some table) f are = are table refl

are_of_meaning : (r : Result PlainTable Fault) (f : PlainTable → Result Tables Refusal) → ((table : PlainTable) → r ≡ Ok table → Are (f table)) → Are (of_meaning r f)
are_of_meaning (Err fault) f are = tt
are_of_meaning (Ok table) f are = are table refl

are_of_query : (r : Result PlainTable queries.SelectionRefusal) (f : PlainTable → Result Tables Refusal) → ((table : PlainTable) → r ≡ Ok table → Are (f table)) → Are (of_query r f)
are_of_query (Err refusal) f are = tt
are_of_query (Ok table) f are = are table refl

-- ---- rows that passed the tests

-- the tests of appended rows passed
passed_rows : (s : PlainSchema) (rows all : List (List Cell)) → first_some (unfit_row s rows ∷ too_heavy s all ∷ []) ≡ None → (first_unfit s rows ≡ None) × (table_weight s all ≤ MAX_TABLE_WEIGHT)
passed_rows s rows all none = by_unfit (first_unfit s rows) refl none
  where
    by_weight : (b : Bool) → nat_le (table_weight s all) MAX_TABLE_WEIGHT ≡ b → first_some (when (not b) (TooMany limits.Weight) ∷ []) ≡ None → table_weight s all ≤ MAX_TABLE_WEIGHT
    by_weight true le h = leb-true (table_weight s all) MAX_TABLE_WEIGHT le
    by_weight false le h = absurd (cc h)

    by_unfit : (o : Option ℕ) → first_unfit s rows ≡ o → first_some (elim o [ None ↦ None | Some i ↦ Some (RowUnfit i) ] ∷ too_heavy s all ∷ []) ≡ None
        → (first_unfit s rows ≡ None) × (table_weight s all ≤ MAX_TABLE_WEIGHT)
    by_unfit (Some i) is h = absurd (cc h)
    by_unfit None is h = (is, by_weight (nat_le (table_weight s all) MAX_TABLE_WEIGHT) refl h)

rows_accepted : (s : PlainSchema) (rows : List (List Cell)) → first_unfit s rows ≡ None → table_weight s rows ≤ MAX_TABLE_WEIGHT → table_from s rows ≡ Ok (record { schema = s; rows = rows })
unfolding table_from
rows_accepted s rows fit light =
    ap (weighed s rows) fit ∙ ap (λ (b : Bool). if b then Ok (record { schema = s; rows = rows }) else Err values.too_heavy) (le-leb (table_weight s rows) MAX_TABLE_WEIGHT light)

-- ---- the commands

-- facts about streams, rows and queries: a stream means a table, accepted rows are one, and so are joined rows and the selection of a query
abbrev pub Means : Type 0
Means = (bytes : List ℕ) (table : PlainTable) → AreBytes bytes → meaning supported_codes bytes ≡ Ok table → IsTable table

abbrev pub Accepts : Type 0
Accepts = (s : PlainSchema) (rows : List (List Cell)) (table : PlainTable) → IsWithinLimits s → table_from s rows ≡ Ok table → IsTable table

abbrev pub Joins : Type 0
Joins =
    (s : PlainSchema) (a b : List (List Cell)) → IsTable (record { schema = s; rows = a }) → IsTable (record { schema = s; rows = b })
    → table_weight s (a ++ b) ≤ MAX_TABLE_WEIGHT → IsTable (record { schema = s; rows = a ++ b })

abbrev pub Selects : Type 0
Selects = (table : PlainTable) (query : PlainQuery) (new : PlainTable) → IsTable table → selection table query ≡ Ok new → IsTable new

module _ (means : Means) (accepts : Accepts) (joins : Joins) (selects : Selects) where
  empty_is : (s : PlainSchema) → IsWithinLimits s → IsTable (empty_table s)
  unfolding first_unfit
  empty_is s within = accepts s [] (empty_table s) within (rows_accepted s [] refl (omega arith))

  joined_is : (table : PlainTable) (rows : List (List Cell)) → IsTable table → first_some (unfit_row table.schema rows ∷ too_heavy table.schema (table.rows ++ rows) ∷ []) ≡ None → IsTable (joined table rows)
  joined_is table rows is none =
      let parts = passed_rows table.schema rows (table.rows ++ rows) none in
      let light : table_weight table.schema rows ≤ MAX_TABLE_WEIGHT = omega (arith, sum_by-append (row_weight table.schema) table.rows rows, parts.1) in
      joins table.schema table.rows rows is (accepts table.schema rows (record { schema = table.schema; rows = rows }) is.schema (rows_accepted table.schema rows parts.0 light)) parts.1

  module _ (t : Tables) (are : AreTables t) where
    are_made : (name : List ℕ) (table : PlainTable) → IsTable table → Are (made t name table)
    are_made name table is = are_unless (first_some (bad_name name ∷ name_taken t name ∷ too_many_tables t name ∷ [])) (Ok (with_table t name table)) (λ none. with_one t name table are is)

    are_appended : (name : List ℕ) (rows : List (List Cell)) (table : PlainTable) → IsTable table → Are (appended t name rows table)
    are_appended name rows table is =
        are_unless (first_some (unfit_row table.schema rows ∷ too_heavy table.schema (table.rows ++ rows) ∷ [])) (Ok (with_table t name (joined table rows)))
        (λ none. with_one t name (joined table rows) are (joined_is table rows is none))

    are_appended_stream : (name bytes : List ℕ) (table : PlainTable) → IsTable table → Are (appended_stream t name bytes table)
    are_appended_stream name bytes table is =
        are_unless (too_many_bytes bytes) (of_meaning (meaning supported_codes bytes) (appended_table t name table)) (λ few.
        are_of_meaning (meaning supported_codes bytes) (appended_table t name table) (λ new meant.
        are_unless (other_shape table.schema new.schema) (appended t name new.rows table) (λ alike. are_appended name new.rows table is)))

  are_by_first : (r : Result Tables Refusal) (cs : PlainCommands) → Are r → ((u : Tables) → AreTables u → Are (verdict_in_turn u cs)) → Are (elim r [ Err e ↦ Err e | Ok u ↦ verdict_in_turn u cs ])
  are_by_first (Err e) cs is others = tt
  are_by_first (Ok u) cs is others = others u is

  mutual
    unfolding verdict

    are_after : (t : Tables) (c : PlainCommand) → AreTables t → BringsTables c → Are (verdict t c)
    are_after t (create name schema) are brings = are_made t are name (empty_table schema) (empty_is schema brings)
    are_after t (import_stream name bytes) are brings =
        are_unless (first_some (bad_name name ∷ too_many_bytes bytes ∷ [])) (of_meaning (meaning supported_codes bytes) (put t name)) (λ passed.
        are_of_meaning (meaning supported_codes bytes) (put t name) (λ new meant.
        are_unless (too_many_tables t name) (Ok (with_table t name new)) (λ room. with_one t name new are (means bytes new brings meant))))
    are_after t (append_stream name bytes) are brings =
        are_of_table (table_at t name) (appended_stream t name bytes) (λ table found. are_appended_stream t are name bytes table (are name table found))
    are_after t (append_rows name rows) are brings = are_of_table (table_at t name) (appended t name rows) (λ table found. are_appended t are name rows table (are name table found))
    are_after t (save_as from to query) are brings =
        are_of_table (table_at t from) (saved t to query) (λ table found.
        are_of_query (selection table query) (made t to) (λ new made_is. are_made t are to new (selects table query new (are from table found) made_is)))
    are_after t (rename from to) are brings =
        are_of_table (table_at t from) (renamed t from to) (λ table found.
        are_unless (first_some (bad_name to ∷ name_taken t to ∷ [])) (Ok (with_table (without_table t from) to table)) (λ free. with_one (without_table t from) to table (without_one t from are) (are from table found)))
    are_after t (drop_table name) are brings = are_of_table (table_at t name) (λ table. Ok (without_table t name)) (λ table found. without_one t name are)
    are_after t (all_of cs) are brings = are_in_turn t cs are brings

    are_in_turn : (t : Tables) (cs : PlainCommands) → AreTables t → EachBringsTables cs → Are (verdict_in_turn t cs)
    are_in_turn t no_command are bring = are
    are_in_turn t (and_command c cs) are bring = are_by_first (verdict t c) cs (are_after t c are bring.0) (λ u is. are_in_turn u cs is bring.1)

  by_answer : (t : Tables) → AreTables t → (r : Result Tables Refusal) → Are r → AreTables (after_verdict t r)
  by_answer t are (Ok new) is = is
  by_answer t are (Err refusal) is = are

  pub stay : (t : Tables) → AreTables t → (c : PlainCommand) → BringsTables c → AreTables (step t c)
  stay t are c brings = by_answer t are (verdict t c) (are_after t c are brings)

  pub all_stay : (t : Tables) (cs : List PlainCommand) → AreTables t → BringTables cs → AreTables (after t cs)
  unfolding after
  all_stay t [] are bring = are
  all_stay t (c ∷ cs) are bring = all_stay (step t c) cs (stay t are c bring.0) bring.1

-- one command more
pub each_more : (cs : List PlainCommand) (c : PlainCommand) → EachBringsTables (commands_of cs) → BringsTables c → EachBringsTables (commands_of (cs ++ c ∷ []))
each_more [] c each own = (own, tt)
each_more (d ∷ ds) c each own = (each.0, each_more ds c each.1 own)
