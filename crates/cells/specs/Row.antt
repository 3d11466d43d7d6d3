-- What a table requires of each row.
use Rattle.std.specs.Prelude.{ℕ, Bool, ◌&&◌, nat_le, List, [], ◌∷◌, map, Option, Some, None, if◌then◌else◌}
use Rattle.arrow_schema.specs.Column.{columns_of, PlainSchema}
use Rattle.cells.specs.declared.limits.TheConstants.{MAX_ROW_WEIGHT}
use Rattle.cells.specs.declared.row.Row.{Row}
use Rattle.cells.specs.Cell.{Cell, cells_of}
use Rattle.cells.specs.View.{cell}
use Rattle.cells.specs.Fit.{each_fits}
use Rattle.cells.specs.Weight.{row_weight}
use Rattle.cells.specs.Dictionary.{dictionaries_fit}

-- the cells of a row of the code
abbrev pub row_of : Row → List Cell
row_of r = map cell r.cells.items

-- exactly one cell for each column, and each fits
abbrev pub row_fits : PlainSchema → List Cell → Bool
row_fits s row = each_fits (columns_of s.columns) (cells_of row)

-- a row that a table accepts: it fits, weighs at most `MAX_ROW_WEIGHT`, and overfills no dictionary
unfoldable pub is_row : PlainSchema → List Cell → Bool
is_row s row = row_fits s row && (nat_le (row_weight s row) MAX_ROW_WEIGHT && dictionaries_fit s (row ∷ []))

-- the weight of a row, if a table accepts it
abbrev pub accepted_weight : PlainSchema → List Cell → Option ℕ
accepted_weight s row = if is_row s row then Some (row_weight s row) else None
