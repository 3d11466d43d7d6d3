-- One row is a piece.
use Rattle.std.specs.Prelude.{nat_le, sum_by, ◌&&◌}
use Rattle.std.proofs.Common.{◌≡◌, ◌≤◌, true, List, [], ◌∷◌, refl, arith}
use Rattle.std.proofs.lemmas.Bool.{and_parts, le-leb, leb-true}
use Rattle.std.proofs.lemmas.List.Sums.{sum_by-cons}
use Rattle.arrow_schema.specs.Column.{PlainSchema}
use Rattle.cells.specs.Cell.{Cell}
use Rattle.cells.specs.Dictionary.{dictionaries_fit}
use Rattle.cells.specs.Row.{is_row, row_fits}
use Rattle.cells.specs.Weight.{row_weight}
use Rattle.cells.specs.declared.limits.TheConstants.{MAX_PIECE_WEIGHT, MAX_ROW_WEIGHT}
use Rattle.table_cut.specs.Piece.{within_piece}

-- a row that a table takes is within the limits of a piece by itself
pub one_within : (s : PlainSchema) (row : List Cell) → is_row s row ≡ true → within_piece s (row ∷ []) ≡ true
unfolding is_row
one_within s row is =
    let parts = and_parts (row_fits s row) (nat_le (row_weight s row) MAX_ROW_WEIGHT && dictionaries_fit s (row ∷ [])) is in
    let more = and_parts (nat_le (row_weight s row) MAX_ROW_WEIGHT) (dictionaries_fit s (row ∷ [])) parts.1 in
    let light : row_weight s row ≤ MAX_PIECE_WEIGHT = leb-true (row_weight s row) MAX_ROW_WEIGHT more.0 in
    let one = sum_by-cons (row_weight s) row [] in
    rw (le-leb (sum_by (row_weight s) (row ∷ [])) MAX_PIECE_WEIGHT (omega (arith, one, light)), more.1) refl
