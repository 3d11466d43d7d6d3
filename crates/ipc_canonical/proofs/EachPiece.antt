-- Each piece of a table is a piece.
use Rattle.std.specs.List.{AllByRecursion, AllPass, list_all}
use Rattle.std.proofs.Common.{◌≡◌, ◌≤◌, Bool, true, false, List, [], ◌∷◌, ◌++◌, length, refl, sym, subst, arith, length-append, append_assoc}
use Rattle.std.proofs.lemmas.Bool.{and_parts}
use Rattle.std.proofs.lemmas.List.Sums.{list_all-from_AllPass}
use Rattle.arrow_schema.specs.Column.{PlainSchema, columns_of}
use Rattle.arrow_schema.specs.Limits.{IsWithinLimits}
use Rattle.cells.specs.Cell.{Cell, PlainTable}
use Rattle.cells.specs.Dictionary.{dictionaries_fit}
use Rattle.cells.specs.Row.{is_row}
use Rattle.cells.specs.Weight.{row_weight, table_weight}
use Rattle.columns.specs.Buildable.{can_build_rows}
use Rattle.table_cut.specs.Cut.{pieces_from, within_limits}
use Rattle.table_cut.specs.Piece.{within_piece, pieces_of}
use Rattle.table_cut.specs.laws.OneRow.{one_within}
use Rattle.values.specs.Table.{IsTable}
use Rattle.values.specs.PlainTables.{plain_table}
use Rattle.ipc_canonical.specs.Pieces.{IsPieceOf}

-- what is known of tables: clauses of laws
pub record TableLaws : Type 0 where
  pub built : (s : PlainSchema) (rows : List (List Cell)) → IsWithinLimits s → AllPass (is_row s) rows → table_weight s rows ≤ 268435456
      → dictionaries_fit s rows ≡ true → can_build_rows (columns_of s.columns) rows ≡ true
  pub cut : (s : PlainSchema) (a b : List (List Cell)) → IsTable (plain_table s (a ++ b)) → IsTable (plain_table s a) × IsTable (plain_table s b)

first_within : (s : PlainSchema) (row : List Cell) (rows : List (List Cell)) → IsTable (plain_table s (row ∷ rows)) → within_piece s (row ∷ []) ≡ true
first_within s row rows table =
    one_within s row (and_parts (is_row s row) (list_all (is_row s) rows) (list_all-from_AllPass (is_row s) (row ∷ rows) table.rows)).0

is_piece : TableLaws → (s : PlainSchema) (rows : List (List Cell)) → 1 ≤ length rows → within_piece s rows ≡ true → IsTable (plain_table s rows) → IsPieceOf s rows
is_piece laws s rows some within table = record {
  some = some;
  within = within;
  table = table;
  built = laws.built s rows table.schema table.rows table.weight (and_parts (within_limits (row_weight s) 4096 16777216 rows) (dictionaries_fit s rows) within).1;
}

abbrev AreFrom : PlainSchema → List (List Cell) → List (List Cell) → Type 0
AreFrom s taken rows = AllByRecursion (IsPieceOf s) (pieces_from (within_piece s) taken rows)

step : TableLaws → (s : PlainSchema) (taken : List (List Cell)) (row : List Cell) (rows : List (List Cell)) (b : Bool) → within_piece s (taken ++ row ∷ []) ≡ b
    → 1 ≤ length taken → within_piece s taken ≡ true → IsTable (plain_table s (taken ++ row ∷ rows))
    → (within_piece s (taken ++ row ∷ []) ≡ true → AreFrom s (taken ++ row ∷ []) rows) → AreFrom s (row ∷ []) rows
    → AreFrom s taken (row ∷ rows)
step laws s taken row rows true h some within table more apart = rw h (more h)
step laws s taken row rows false h some within table more apart = rw h (is_piece laws s taken some within (laws.cut s taken (row ∷ rows) table).0, apart)

each_from : TableLaws → (s : PlainSchema) (taken rows : List (List Cell)) → 1 ≤ length taken → within_piece s taken ≡ true → IsTable (plain_table s (taken ++ rows)) → AreFrom s taken rows
each_from laws s taken [] some within table = (is_piece laws s taken some within (laws.cut s taken [] table).0, tt)
each_from laws s taken (row ∷ rows) some within table =
    let same : (taken ++ row ∷ []) ++ rows ≡ taken ++ row ∷ rows = append_assoc taken (row ∷ []) rows in
    let whole : IsTable (plain_table s ((taken ++ row ∷ []) ++ rows)) = subst (λ (x : List (List Cell)). IsTable (plain_table s x)) (sym same) table in
    let behind : IsTable (plain_table s (row ∷ rows)) = (laws.cut s taken (row ∷ rows) table).1 in
    let longer : 1 ≤ length (taken ++ row ∷ []) = let n = length-append taken (row ∷ []) in omega (arith, n) in
    step laws s taken row rows (within_piece s (taken ++ row ∷ [])) refl some within table
    (λ h. each_from laws s (taken ++ row ∷ []) rows longer h whole)
    (each_from laws s (row ∷ []) rows (omega arith) (first_within s row rows behind) behind)

each_of : TableLaws → (s : PlainSchema) (rows : List (List Cell)) → IsTable (plain_table s rows) → AllByRecursion (IsPieceOf s) (pieces_of (plain_table s rows))
each_of laws s [] table = tt
each_of laws s (row ∷ rows) table = each_from laws s (row ∷ []) rows (omega arith) (first_within s row rows table) table

pub each_piece : TableLaws → (t : PlainTable) → IsTable t → AllByRecursion (IsPieceOf t.schema) (pieces_of t)
each_piece laws t table = each_of laws t.schema t.rows table
