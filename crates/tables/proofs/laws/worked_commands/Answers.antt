use Rattle.std.proofs.Common.{◌≡◌, ℕ, List, [], ◌∷◌, Some, Ok, Err, refl, ap, subst, sym}
use Rattle.std.specs.Prelude.{codes, Option, None, Result, is_some}
use Rattle.facts.specs.Checks.{when, first_some, unless}
use Rattle.arrow_schema.specs.Column.{PlainSchema}
use Rattle.cells.specs.Cell.{Cell, PlainTable}
use Rattle.tables.specs.declared.refusal.Refusal.{Refusal}
use Rattle.tables.specs.declared.refusal.Refusal.TheVariants.{NoTable, NameTaken, BadName}
use Rattle.tables.specs.Tables.{Tables, table_at, with_table, without_table}
use Rattle.ipc_message.specs.Header.{supported_codes}
use Rattle.ipc_message.specs.declared.fault.Fault.{Fault}
use Rattle.ipc_stream.specs.Meaning.{meaning}
use Rattle.query.specs.Bound as queries
use Rattle.query.specs.Query.{PlainQuery}
use Rattle.query.specs.Selection.{selection}
use Rattle.tables.specs.Commands.{create, append_stream, append_rows, save_as, rename, drop_table}
use Rattle.tables.specs.Verdict.{bad_name, of_table, of_meaning, of_query, too_many_bytes, other_shape, appended, appended_table, appended_stream, made, saved, joined, empty_table, verdict}
use Rattle.tables.specs.laws.Maps.{found_here, gone_here}
use Rattle.tables.specs.laws.Steps.{passed}
use Rattle.tables.proofs.laws.worked_commands.Goals as goal

rows_behind : (t u : Tables) (name : List ℕ) (table : PlainTable) (rows : List (List Cell)) → table_at t name ≡ Some table → verdict t (append_rows name rows) ≡ Ok u → u ≡ with_table t name (joined table rows)
unfolding verdict
rows_behind t u name table rows found is =
    passed _ (with_table t name (joined table rows)) u (subst (λ (o : Option PlainTable). of_table o (appended t name rows) ≡ Ok u) found is)

-- a result that passed a test
unless_passed : (o : Option Refusal) (r : Result Tables Refusal) (u : Tables) → unless o r ≡ Ok u → r ≡ Ok u
unless_passed None r u is = is
unless_passed (Some e) r u is = absurd (cc is)

stream_behind : (t u : Tables) (name bytes : List ℕ) (table new : PlainTable) → table_at t name ≡ Some table → meaning supported_codes bytes ≡ Ok new → verdict t (append_stream name bytes) ≡ Ok u
    → u ≡ with_table t name (joined table new.rows)
unfolding verdict
stream_behind t u name bytes table new found means is =
    let one : appended_stream t name bytes table ≡ Ok u = subst (λ (o : Option PlainTable). of_table o (appended_stream t name bytes) ≡ Ok u) found is in
    let two = unless_passed (too_many_bytes bytes) (of_meaning (meaning supported_codes bytes) (appended_table t name table)) u one in
    let three : appended_table t name table new ≡ Ok u = subst (λ (r : Result PlainTable Fault). of_meaning r (appended_table t name table) ≡ Ok u) means two in
    passed _ (with_table t name (joined table new.rows)) u (unless_passed (other_shape table.schema new.schema) (appended t name new.rows table) u three)

query_put : (t u : Tables) (from to : List ℕ) (query : PlainQuery) (table selected : PlainTable) → table_at t from ≡ Some table → selection table query ≡ Ok selected
    → verdict t (save_as from to query) ≡ Ok u → u ≡ with_table t to selected
unfolding verdict
query_put t u from to query table selected found selects is =
    let one : saved t to query table ≡ Ok u = subst (λ (o : Option PlainTable). of_table o (saved t to query) ≡ Ok u) found is in
    let two : made t to selected ≡ Ok u = subst (λ (r : Result PlainTable queries.SelectionRefusal). of_query r (made t to) ≡ Ok u) selects one in
    passed _ (with_table t to selected) u two

created_is : (t u : Tables) (name : List ℕ) (s : PlainSchema) → verdict t (create name s) ≡ Ok u → u ≡ with_table t name (empty_table s)
unfolding verdict
created_is t u name s is = passed _ (with_table t name (empty_table s)) u is

to_itself : (t : Tables) (table : PlainTable) → table_at t (codes "t") ≡ Some table → verdict t (rename (codes "t") (codes "t")) ≡ Err NameTaken
unfolding verdict
to_itself t table found =
    subst
    (λ (o : Option PlainTable).
    of_table o (λ own. unless (first_some (bad_name (codes "t") ∷ when (is_some o) NameTaken ∷ [])) (Ok (with_table (without_table t (codes "t")) (codes "t") own))) ≡ Err NameTaken)
    (sym found) refl

twice : (t : Tables) → verdict (without_table t (codes "t")) (drop_table (codes "t")) ≡ Err NoTable
unfolding verdict
twice t = ap (λ (o : Option PlainTable). of_table o (λ own. Ok (without_table (without_table t (codes "t")) (codes "t")))) (gone_here t (codes "t"))

with_a_space : (t : Tables) (s : PlainSchema) → verdict t (create (codes "a b") s) ≡ Err BadName
unfolding verdict
with_a_space t s = refl

pub returns : goal.returns
returns c = record { appended = rows_behind; streamed = stream_behind; saved = query_put; created = created_is; found = found_here; away = gone_here; renamed_to_itself = to_itself; dropped_twice = twice; bad_name = with_a_space }
