-- How the fields of a CSV text are read.
use Rattle.std.specs.Prelude.{ℕ, List}
use Rattle.civil_days.specs.declared.date_form.DateForm.{DateForm}
use Rattle.civil_days.specs.declared.date_form.DateForm.TheVariants.{Numbers}
use Rattle.text_import.specs.declared.form.FieldForm.{FieldForm}

-- the text that means a null where nulls are allowed, and how dates and times stand
pub record PlainFieldForm : Type 0 where
  pub null_text : List ℕ
  pub dates : DateForm

abbrev pub field_form : FieldForm → PlainFieldForm
field_form f = record { null_text = f.null_text.now; dates = f.dates }

-- dates and times as their numbers
abbrev pub with_numbers : List ℕ → PlainFieldForm
with_numbers null_text = record { null_text = null_text; dates = Numbers }
