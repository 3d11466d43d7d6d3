-- A query that is saved: what is answered of it, where its tests are made before the table is read.
use Rattle.std.specs.Prelude.{◌≢◌, ◌⊎◌, ◌&&◌, nat_le, not, length, IfSome}
use Rattle.std.proofs.Common.{◌≡◌, ℕ, Bool, true, false, List, [], ◌∷◌, Option, Some, None, Result, Ok, Err, inl, inr, refl, sym, ap, ◌∙◌, subst}
use Rattle.facts.specs.Checks.{when, first_some, unless}
use Rattle.sector_dev.specs.Disk.{Image}
use Rattle.arrow_schema.specs.Column.{PlainSchema}
use Rattle.cells.specs.Cell.{PlainTable}
use Rattle.catalogue.specs.Entries.{PlainEntry, PlainCatalogue, is_name}
use Rattle.catalogue.specs.declared.limits.TheConstants.{MAX_TABLES}
use Rattle.query.specs.Bound as queries
use Rattle.query.specs.Query.{PlainQuery}
use Rattle.query.specs.Selection.{selection}
use Rattle.query.specs.View.{Reports}
use Rattle.query.specs.declared.errors.QueryError.{QueryError}
use Rattle.query.specs.declared.errors.QueryError.TheVariants as errors
use Rattle.selection.specs.SelectionBuilder.{PlainBuilder, builder_after, table_built}
use Rattle.tables.specs.Refusals.{query_refusal, select_refusal}
use Rattle.tables.specs.Verdict.{bad_name, of_query, empty_table}
use Rattle.tables.specs.declared.refusal.Limit.TheVariants as limits
use Rattle.tables.specs.declared.refusal.Refusal.{Refusal}
use Rattle.tables.specs.declared.refusal.Refusal.TheVariants as refusals
use Rattle.store_runs.specs.Calls.{is_failure}
use Rattle.store_runs.specs.Changes.{PlainChange, put}
use Rattle.store_runs.specs.Deciding.{has_entry, taken_in, full_in, create_tests, unselected, selected_entry, pieces_put, decided_selection, entry_selected, IsSaved}
use Rattle.store_runs.specs.Reading.{IsRead, Unreads}
use Rattle.store.specs.inner.Saving.{IsSelected, Selects}

-- ---- no test tells that the store is halted, or that its device failed

abbrev IsOn : Refusal → Type 0
IsOn r = (r ≢ refusals.Halted) × (is_failure r ≡ false)

by_first : (o : Option Refusal) (os : List (Option Refusal)) (r : Refusal) → IfSome o IsOn → (first_some os ≡ Some r → IsOn r) → first_some (o ∷ os) ≡ Some r → IsOn r
by_first (Some q) os r own rest is = let same : q ≡ r = cc is in subst IsOn same own
by_first None os r own rest is = rest is

by_when : (b : Bool) (r : Refusal) → IsOn r → IfSome (when b r) IsOn
by_when true r on = on
by_when false r on = tt

pub create_on : (c : PlainCatalogue) (name : List ℕ) (r : Refusal) → create_tests c name ≡ Some r → IsOn r
create_on c name r is =
    by_first (bad_name name) (taken_in c name ∷ full_in c name ∷ []) r (by_when (not (is_name name)) refusals.BadName (λ is. cc is, refl))
    (by_first (taken_in c name) (full_in c name ∷ []) r (by_when (has_entry c name) refusals.NameTaken (λ is. cc is, refl))
    (by_first (full_in c name) [] r (by_when (not (has_entry c name) && nat_le MAX_TABLES (length c)) (refusals.TooMany limits.Tables) (λ is. cc is, refl)) (λ none. absurd (cc none)))) is

query_on : (r : queries.SelectionRefusal) → IsOn (query_refusal r)
query_on queries.unknown_column = (λ is. cc is, refl)
query_on queries.bad_condition = (λ is. cc is, refl)
query_on queries.not_comparable = (λ is. cc is, refl)

abbrev pub test_of : Result PlainTable queries.SelectionRefusal → Option Refusal
test_of s = elim s [ Ok table ↦ None | Err r ↦ Some (query_refusal r) ]

unselected_on : (s : Result PlainTable queries.SelectionRefusal) → IfSome (test_of s) IsOn
unselected_on (Ok table) = tt
unselected_on (Err r) = query_on r

module _ (c : PlainCatalogue) (to : List ℕ) (query : PlainQuery) (e : PlainEntry) where
  abbrev tests : Option Refusal
  tests = first_some (unselected e.schema query ∷ create_tests c to ∷ [])

  pub tested_on : (r : Refusal) → tests ≡ Some r → r ≢ refusals.Halted
  tested_on r is =
      (by_first (unselected e.schema query) (create_tests c to ∷ []) r (unselected_on (selection (empty_table e.schema) query)) (λ later. create_on c to r (by_last (create_tests c to) r later)) is).0
    where
      by_last : (o : Option Refusal) (r : Refusal) → first_some (o ∷ []) ≡ Some r → o ≡ Some r
      by_last (Some q) r is = is
      by_last None r is = absurd (cc is)

  passed : tests ≡ None → selected_entry c to query e ≡ Ok e
  passed none = ap (λ (o : Option Refusal). unless o (Ok e)) none

  module _ (tells : Bool) (image : Image) where
    pub refused_first : (r : Refusal) → tests ≡ Some r → IsSelected tells image to query (selected_entry c to query e) (Err r)
    refused_first r is = inr (inr (subst (λ (x : Result PlainEntry Refusal). IsSaved tells image to query x (Err r)) (sym (ap (λ (o : Option Refusal). unless o (Ok e)) is)) refl))

    pub not_read : (r : Refusal) → tests ≡ None → Unreads tells image e r → IsSelected tells image to query (selected_entry c to query e) (Err r)
    not_read r none unread = inr (inl (record { entry = e; tested = ap entry_selected (passed none); refusal = r; told = refl; unread = unread }))

    pub selected : (standing : PlainTable) (d : Result PlainChange Refusal) → tests ≡ None → IsRead tells image e standing → d ≡ decided_selection to query standing
        → IsSelected tells image to query (selected_entry c to query e) d
    selected standing d none read is = inr (inr (subst (λ (x : Result PlainEntry Refusal). IsSaved tells image to query x d) (sym (passed none)) (standing, read, is)))

-- ---- a selection that is not made

pub select_quiet : (e : QueryError) → (is_failure (select_refusal e) ≡ false) × (select_refusal e ≢ refusals.Halted)
select_quiet errors.UnknownColumn = (refl, λ is. cc is)
select_quiet errors.BadCondition = (refl, λ is. cc is)
select_quiet errors.NotComparable = (refl, λ is. cc is)
select_quiet errors.OutOfMemory = (refl, λ is. cc is)

pub select_untold : (s : Result PlainTable queries.SelectionRefusal) (e : QueryError) → Reports e s
    → (select_refusal e ≡ refusals.OutOfMemory) ⊎ (test_of s ≡ Some (select_refusal e))
select_untold s errors.UnknownColumn told = inr (ap test_of told)
select_untold s errors.BadCondition told = inr (ap test_of told)
select_untold s errors.NotComparable told = inr (ap test_of told)
select_untold s errors.OutOfMemory told = inl refl

-- ---- the tests of the query, and then those of the name

pub both_pass : (u t : Option Refusal) → u ≡ None → t ≡ None → first_some (u ∷ t ∷ []) ≡ None
both_pass u t none test = λ i. first_some (none i ∷ test i ∷ [])

pub later_tells : (u t : Option Refusal) (e : Refusal) → u ≡ None → t ≡ Some e → first_some (u ∷ t ∷ []) ≡ Some e
later_tells u t e none test = λ i. first_some (none i ∷ test i ∷ [])

-- ---- what was selected of the rows that were read

pub built_selected : (start b : PlainBuilder) (s : PlainSchema) (query : PlainQuery) (standing : PlainTable) → Selects start s query → s ≡ standing.schema → b ≡ builder_after start standing.rows
    → selection standing query ≡ Ok (table_built b)
built_selected start b s query standing is same has = is.answers standing same ∙ ap (λ (x : PlainBuilder). Ok (table_built x)) (sym has)

pub decided_built : (to : List ℕ) (query : PlainQuery) (standing table : PlainTable) (change : PlainChange) → selection standing query ≡ Ok table → change ≡ pieces_put (put to table.schema) table
    → Ok change ≡ decided_selection to query standing
decided_built to query standing table change made is =
    ap Ok is ∙ sym (ap (λ (s : Result PlainTable queries.SelectionRefusal). of_query s (λ (x : PlainTable). Ok (pieces_put (put to x.schema) x))) made)
