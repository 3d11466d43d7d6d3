-- The rows of a text in either form.
use Rattle.std.specs.Prelude.{ℕ, List, Result}
use Rattle.arrow_schema.specs.Column.{PlainSchema}
use Rattle.cells.specs.Cell.{Cell}
use Rattle.text_import.specs.declared.form.TextForm.{TextForm}
use Rattle.text_import.specs.declared.form.TextForm.TheVariants.{Csv, JsonLines}
use Rattle.text_import.specs.declared.refusal.Refused.{Refused}
use Rattle.text_import.specs.Objects.{jsonl_rows_of}
use Rattle.text_import.specs.Records.{csv_rows_of}
use Rattle.text_import.specs.FieldForm.{field_form}

-- the rows of a text for a schema, or its first refusal
abbrev pub rows_of_text : TextForm → PlainSchema → List ℕ → Result (List (List Cell)) Refused
rows_of_text (Csv form) schema text = csv_rows_of schema (field_form form) text
rows_of_text (JsonLines date_form) schema text = jsonl_rows_of date_form schema text
