-- The result of parsing field texts (docs/definitions/field_texts.md).
use Rattle.std.specs.Prelude.{◌≡◌, ◌⊎◌, ℕ, ◌+◌, ◌<◌, true, false, List, [], ◌∷◌, length, get_or, Option, None, Some, String, string_bytes, Result, Ok, Err}
use Rattle.std.specs.Global.{Global}
use Rattle.field_texts.specs.declared.parse.ParseError.{ParseError}
use Rattle.field_texts.specs.declared.parse.ParseError.TheVariants.{BadText, Limit, OutOfMemory}
use Rattle.arrow_schema.specs.Column.{Column, PlainSchema}
use Rattle.arrow_schema.specs.Limits.{IsWithinLimits}
use Rattle.field_texts.specs.Typed.{IsTextOf, IsFieldText}

-- the texts of these columns, in order
abbrev pub AreTextsOf : List (List ℕ) → List Column → Type 0
AreTextsOf [] [] = Unit {0}
AreTextsOf (t ∷ ts) (c ∷ cs) = IsTextOf true t c × AreTextsOf ts cs
AreTextsOf _ _ = ⊥

abbrev pub schema_with : List Column → PlainSchema
schema_with columns = record { columns = columns; pairs = [] }

-- the first text, counted from 0, that is not that of a field with numbers in range
pub record IsFirstRefused (texts : List (List ℕ)) (i : ℕ) : Type 0 where
  pub among : i < length texts
  pub before : (k : ℕ) → k < i → IsFieldText true (get_or texts k [])
  pub refused : IsFieldText true (get_or texts i []) → ⊥

-- the first refused text is not that of a field with any numbers; `number` counts from 1
pub record IsBadText (texts : List (List ℕ)) (number : ℕ) : Type 0 where
  pub index : ℕ
  pub counted : number ≡ index + 1
  pub first : IsFirstRefused texts index
  pub bad : IsFieldText false (get_or texts index []) → ⊥

-- the first refused text is that of a field with a number above the limit
pub record IsPastNumber (texts : List (List ℕ)) : Type 0 where
  pub index : ℕ
  pub first : IsFirstRefused texts index
  pub text : IsFieldText false (get_or texts index [])

-- a schema that exceeds its limits
pub record IsPastLimits (texts : List (List ℕ)) : Type 0 where
  pub columns : List Column
  pub texts_of : AreTextsOf texts columns
  pub past : IsWithinLimits (schema_with columns) → ⊥

-- the result is the right one
abbrev pub IsReported : List (List ℕ) → Result (List Column) ParseError → Type 0
IsReported texts (Ok columns) = AreTextsOf texts columns × IsWithinLimits (schema_with columns)
IsReported texts (Err (BadText number)) = IsBadText texts number
IsReported texts (Err Limit) = IsPastNumber texts ⊎ IsPastLimits texts
IsReported texts (Err OutOfMemory) = Unit {0}

-- the text alone is taken for this column
abbrev pub IsTakenFor : List ℕ → Column → Type 0
IsTakenFor text c = IsReported (text ∷ []) (Ok (c ∷ []))

-- a text that is taken for this column, or none if there is no such text
abbrev pub IsTypedAs : Column → Option (String Global) → Type 0
IsTypedAs c (Some text) = IsTakenFor (string_bytes text) c
IsTypedAs c None = (text : List ℕ) → ¬ IsTakenFor text c
