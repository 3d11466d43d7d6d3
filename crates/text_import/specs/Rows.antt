-- Rows in order: all of them, or the first refused one with its number.
use Rattle.std.specs.Prelude.{ℕ, ◌+◌, List, [], ◌∷◌, nat_lt, Result, Ok, Err, if◌then◌else◌}
use Rattle.arrow_schema.specs.Column.{PlainSchema}
use Rattle.cells.specs.declared.limits.TheConstants.{MAX_ROW_WEIGHT}
use Rattle.cells.specs.Cell.{Cell}
use Rattle.cells.specs.Weight.{row_weight}
use Rattle.cells.specs.Dictionary.{dictionaries_fit}
use Rattle.text_import.specs.declared.refusal.Refusal.{Refusal}
use Rattle.text_import.specs.declared.refusal.Refusal.TheVariants.{TooHeavy, DictionaryFull}
use Rattle.text_import.specs.declared.refusal.Refused.{Refused}
use Rattle.text_import.specs.Refusals.{and_then, given, numbered}

-- a row is tested as a whole after each of its cells was read
abbrev pub accepted : PlainSchema → List Cell → Result (List Cell) Refusal
accepted s row =
    if nat_lt MAX_ROW_WEIGHT (row_weight s row) then Err TooHeavy
    else if dictionaries_fit s (row ∷ []) then Ok row
    else Err DictionaryFull

-- the rows of these records, the first of which has the number n
unfoldable pub rows_from : {A : Type 0} → (A → Result (List Cell) Refusal) → ℕ → List A → Result (List (List Cell)) Refused
rows_from read n [] = Ok []
rows_from read n (x ∷ xs) = and_then (numbered n (read x)) (λ row. given (λ rows. row ∷ rows) (rows_from read (n + 1) xs))
