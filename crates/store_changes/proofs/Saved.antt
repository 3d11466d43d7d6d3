-- A query that is saved: what is decided of it is the verdict.
use Rattle.std.proofs.Common.{◌≡◌, ℕ, true, List, [], ◌∷◌, Option, Some, None, Result, Ok, Err, refl, sym, ap, ◌∙◌, subst}
use Rattle.facts.specs.Checks.{first_some, unless}
use Rattle.sector_dev.specs.Disk.{Image}
use Rattle.cells.specs.Cell.{PlainTable}
use Rattle.values.specs.Table.{IsTable}
use Rattle.catalogue.specs.Entries.{PlainEntry, PlainCatalogue}
use Rattle.catalogue.specs.Edits.{entry_of}
use Rattle.query.specs.Bound as queries
use Rattle.query.specs.Query.{PlainQuery}
use Rattle.query.specs.Selection.{selection}
use Rattle.tables.specs.declared.refusal.Refusal.{Refusal}
use Rattle.tables.specs.declared.refusal.Refusal.TheVariants.{NoTable}
use Rattle.tables.specs.Commands.{PlainCommand, save_as}
use Rattle.tables.specs.Refusals.{query_refusal}
use Rattle.tables.specs.Tables.{Tables, table_at, with_table}
use Rattle.tables.specs.Verdict.{bad_name, of_table, of_query, empty_table, made, saved, verdict}
use Rattle.store_runs.specs.Changes.{PlainChange, put}
use Rattle.store_runs.specs.Deciding.{create_tests, of_entry, selected_entry, pieces_put, IsSaved}
use Rattle.store_changes.specs.Verdicts.{AreListed, IsVerdict}
use Rattle.store_changes.specs.LawsBelow.{LawsBelow}
use Rattle.store_changes.proofs.Appended.{listed_at, none_listed}
use Rattle.store_changes.specs.laws.Tested.{taken_same, full_same}

-- the test of the query, by the selection of a table without rows
abbrev told : Result PlainTable queries.SelectionRefusal → Option Refusal
told s = elim s [ Ok table ↦ None | Err r ↦ Some (query_refusal r) ]

module _ (laws : LawsBelow) (image : Image) (c : PlainCatalogue) (t : Tables) (listed : AreListed image c t) (from to : List ℕ) (query : PlainQuery) where
  abbrev command : PlainCommand
  command = save_as from to query

  verdict_is : (table : PlainTable) → table_at t from ≡ Some table → verdict t command ≡ of_query (selection table query) (made t to)
  unfolding verdict
  verdict_is table at = ap (λ (o : Option PlainTable). of_table o (saved t to query)) at

  verdict_by : (table : PlainTable) (s : Result PlainTable queries.SelectionRefusal) → table_at t from ≡ Some table → selection table query ≡ s → verdict t command ≡ of_query s (made t to)
  verdict_by table s at is = verdict_is table at ∙ ap (λ (x : Result PlainTable queries.SelectionRefusal). of_query x (made t to)) is

  -- a selection that was made, by the test of its name
  made_by : (new : PlainTable) (o : Option Refusal) → create_tests c to ≡ o → made t to new ≡ unless o (Ok (with_table t to new))
  made_by new o is =
      (λ i. unless (first_some (bad_name to ∷ taken_same c t to listed.lists i ∷ full_same c t to listed.lists i ∷ [])) (Ok (with_table t to new)))
      ∙ ap (λ (x : Option Refusal). unless x (Ok (with_table t to new))) is

  -- the selection of the table that was read
  by_selection : (table : PlainTable) (s : Result PlainTable queries.SelectionRefusal) → table_at t from ≡ Some table → IsTable table → create_tests c to ≡ None → selection table query ≡ s
      → IsVerdict t command (of_query s (λ (x : PlainTable). Ok (pieces_put (put to x.schema) x)))
  by_selection table (Err r) at kept tested is = verdict_by table (Err r) at is
  by_selection table (Ok new) at kept tested is =
      let sound = laws.selects table query new kept is in (
        with_table t to new,
        verdict_by table (Ok new) at is ∙ made_by new None tested,
        (new.rows, laws.held new sound, laws.tables.accepted new sound, refl),
      )

  module _ (e : PlainEntry) (there : entry_of c from ≡ Some e) where
    own : (table : PlainTable) × (table_at t from ≡ Some table) × (table.schema ≡ e.schema)
    own = listed_at image c t from e listed there

    -- the query is refused, whatever the rows
    refused_by : (r : queries.SelectionRefusal) → selection (empty_table e.schema) query ≡ Err r → verdict t command ≡ Err (query_refusal r)
    refused_by r is = verdict_by own.0 (Err r) own.1 (laws.alike (empty_table e.schema) own.0 query r (sym own.2) is)

    -- the selection of the table that stands, where that of one without rows is made
    selects_too : (empty : PlainTable) → selection (empty_table e.schema) query ≡ Ok empty → (new : PlainTable) × (selection own.0 query ≡ Ok new)
    selects_too empty is = by_own (selection own.0 query) refl
      where
        by_own : (s : Result PlainTable queries.SelectionRefusal) → selection own.0 query ≡ s → (new : PlainTable) × (selection own.0 query ≡ Ok new)
        by_own (Ok new) given = (new, given)
        by_own (Err r) given = let both : Err r ≡ Ok empty = sym (laws.alike own.0 (empty_table e.schema) query r own.2 given) ∙ is in absurd (cc both)

    untaken : (empty : PlainTable) (r : Refusal) → selection (empty_table e.schema) query ≡ Ok empty → create_tests c to ≡ Some r → verdict t command ≡ Err r
    untaken empty r is tested = let new = selects_too empty is in verdict_by own.0 (Ok new.0) own.1 new.1 ∙ made_by new.0 (Some r) tested

    by_tests : (d : Result PlainChange Refusal) (empty : Result PlainTable queries.SelectionRefusal) (name_test : Option Refusal) → selection (empty_table e.schema) query ≡ empty → create_tests c to ≡ name_test
        → IsSaved true image to query (unless (first_some (told empty ∷ name_test ∷ [])) (Ok e)) d → IsVerdict t command d
    by_tests d (Err r) name_test is tested same = subst (IsVerdict t command) (sym same) (refused_by r is)
    by_tests d (Ok empty) (Some r) is tested same = subst (IsVerdict t command) (sym same) (untaken empty r is tested)
    by_tests d (Ok empty) None is tested stands =
        let at = listed.held from e stands.0 there (stands.1.held refl) in
        subst (IsVerdict t command) (sym stands.2) (by_selection stands.0 (selection stands.0 query) at stands.1.kept tested refl)

  -- no table has the name
  no_source : entry_of c from ≡ None → verdict t command ≡ Err NoTable
  unfolding verdict
  no_source none = ap (λ (o : Option PlainTable). of_table o (saved t to query)) (none_listed image c t from listed none)

  pub saved_decided : (d : Result PlainChange Refusal) → IsSaved true image to query (of_entry (entry_of c from) (selected_entry c to query)) d → IsVerdict t command d
  saved_decided d is = by_entry (entry_of c from) refl is
    where
      by_entry : (o : Option PlainEntry) → entry_of c from ≡ o → IsSaved true image to query (of_entry o (selected_entry c to query)) d → IsVerdict t command d
      by_entry (Some e) there saves = by_tests e there d (selection (empty_table e.schema) query) (create_tests c to) refl refl saves
      by_entry None none same = subst (IsVerdict t command) (sym same) (no_source none)
