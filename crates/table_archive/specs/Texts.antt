-- The texts by which the fields of a schema are typed in.
use Rattle.std.specs.Prelude.{◌≡◌, ◌⊎◌, ℕ, List, [], Option, Some, None, Ok, slice_get}
use Rattle.arrow_schema.specs.Column.{Column, PlainSchema}
use Rattle.field_texts.specs.Reported.{IsReported, IsTakenFor}

-- a column for which no text is taken
pub record IsWithoutText (columns : List Column) : Type 0 where
  pub place : ℕ
  pub column : Column
  pub at : slice_get columns place ≡ Some column
  pub none : (text : List ℕ) → ¬ IsTakenFor text column

-- texts that state the schema; or none, if it has pairs of its own, or a column has no text
abbrev pub HasTexts : PlainSchema → Option (List (List ℕ)) → Type 0
HasTexts s (Some texts) = IsReported texts (Ok s.columns) × (s.pairs ≡ [])
HasTexts s None = ¬ (s.pairs ≡ []) ⊎ IsWithoutText s.columns
