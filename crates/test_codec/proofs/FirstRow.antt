-- The arrays of the first row of a table can be built.
use Rattle.std.specs.Prelude.{Some, slice_get, nat_le, ◌&&◌}
use Rattle.std.specs.List.{AllPass}
use Rattle.std.proofs.Common.{◌≡◌, ◌≤◌, true, List, [], ◌∷◌, subst, refl, arith}
use Rattle.std.proofs.lemmas.Bool.{and_parts, and_from, leb-true}
use Rattle.std.proofs.lemmas.List.Sums.{AllPass-from_list_all, sum_by-cons}
use Rattle.std.proofs.lemmas.Option.{get_or_from_slice_get, slice_get_within}
use Rattle.arrow_schema.specs.Column.{PlainSchema, columns_of}
use Rattle.arrow_schema.specs.Limits.{IsWithinLimits}
use Rattle.cells.specs.Cell.{Cell, PlainTable}
use Rattle.cells.specs.Dictionary.{dictionaries_fit}
use Rattle.cells.specs.Row.{is_row, row_fits}
use Rattle.cells.specs.Weight.{row_weight, table_weight}
use Rattle.cells.specs.declared.limits.TheConstants.{MAX_ROW_WEIGHT, MAX_TABLE_WEIGHT}
use Rattle.columns.specs.Buildable.{can_build_rows}
use Rattle.values.specs.Table.{IsTable}

-- what the law `rows_can_be_built` of `columns` says
abbrev pub CanBeBuilt : Type 0
CanBeBuilt = (s : PlainSchema) (rows : List (List Cell)) → IsWithinLimits s → AllPass (is_row s) rows → table_weight s rows ≤ MAX_TABLE_WEIGHT
    → dictionaries_fit s rows ≡ true → can_build_rows (columns_of s.columns) rows ≡ true

pub first_can_be_built : CanBeBuilt → (t : PlainTable) (row : List Cell) → IsTable t → slice_get t.rows 0 ≡ Some row → can_build_rows (columns_of t.schema.columns) (row ∷ []) ≡ true
unfolding is_row
first_can_be_built law t row table found =
    let s : PlainSchema = t.schema in
    let taken : is_row s row ≡ true =
    subst (λ (r : List Cell). is_row s r ≡ true) (get_or_from_slice_get t.rows 0 row row found) (table.rows 0 row (slice_get_within t.rows 0 row found)) in
    let light = nat_le (row_weight s row) MAX_ROW_WEIGHT in
    let parts = and_parts light (dictionaries_fit s (row ∷ [])) (and_parts (row_fits s row) (light && dictionaries_fit s (row ∷ [])) taken).1 in
    let weight = leb-true (row_weight s row) MAX_ROW_WEIGHT parts.0 in
    let weighs : table_weight s (row ∷ []) ≤ MAX_TABLE_WEIGHT = omega (arith, weight, sum_by-cons (row_weight s) row []) in
    law s (row ∷ []) table.schema (AllPass-from_list_all (is_row s) (row ∷ []) (and_from _ _ taken refl)) weighs parts.1
