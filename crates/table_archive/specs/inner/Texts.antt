-- The texts of some columns.
use Rattle.std.specs.Prelude.{ℕ, List, Option, Some, None}
use Rattle.arrow_schema.specs.Column.{Column}
use Rattle.field_texts.specs.Reported.{AreTextsOf}
use Rattle.table_archive.specs.Texts.{IsWithoutText}

-- a text of each column; or none, if a column has none
abbrev pub HasTextsOf : List Column → Option (List (List ℕ)) → Type 0
HasTextsOf columns (Some texts) = AreTextsOf texts columns
HasTextsOf columns None = IsWithoutText columns
