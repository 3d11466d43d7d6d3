-- What stands behind the file of an `append`: options in any order, each followed by its value, and none twice (`docs/using.md`).
use Rattle.std.specs.Prelude.{ℕ, if◌then◌else◌, List, [], ◌∷◌, codes, Option, Some, None, unwrap_or}
use Rattle.std.specs.Option.{option_and_then}
use Rattle.std.specs.Str.{bytes_eq}
use Rattle.civil_days.specs.declared.date_form.DateForm.{DateForm}
use Rattle.civil_days.specs.declared.date_form.DateForm.TheVariants.{Numbers, Iso}
use Rattle.text_import.specs.FieldForm.{PlainFieldForm}

-- the form of a text of rows: CSV, by how its fields are read, or JSON Lines, by how dates and times stand
pub data PlainForm : Type 0 where
  csv : (fields : PlainFieldForm) → PlainForm
  json_lines : (dates : DateForm) → PlainForm

-- the values of the options that are given
pub record PlainOptions : Type 0 where
  pub form : Option (List ℕ)
  pub null_text : Option (List ℕ)
  pub dates : Option (List ℕ)

abbrev pub no_options : PlainOptions
no_options = record { form = None; null_text = None; dates = None }

-- options, unless the one that is added was there before
unfoldable pub once : (before : Option (List ℕ)) → PlainOptions → Option PlainOptions
once None options = Some options
once (Some value) options = None

-- an option with its value before others, none of which is the same one
unfoldable pub with_option : (option value : List ℕ) → PlainOptions → Option PlainOptions
with_option option value others =
    if bytes_eq option (codes "--as") then once others.form (record others { form = Some value })
    else if bytes_eq option (codes "--null") then once others.null_text (record others { null_text = Some value })
    else if bytes_eq option (codes "--dates") then once others.dates (record others { dates = Some value }) else None

-- the options that these words are
unfoldable pub options_of : List (List ℕ) → Option PlainOptions
options_of [] = Some no_options
options_of (word ∷ []) = None
options_of (option ∷ value ∷ more) = option_and_then (with_option option value) (options_of more)

-- how dates and times stand: as numbers, unless the option says otherwise
unfoldable pub dates_of : Option (List ℕ) → Option DateForm
dates_of None = Some Numbers
dates_of (Some word) = if bytes_eq (codes "number") word then Some Numbers else if bytes_eq (codes "iso") word then Some Iso else None

-- the form of a text with this word; or none, for a stream
unfoldable pub form_named : (word null_text : List ℕ) → DateForm → Option (Option PlainForm)
form_named word null_text dates =
    if bytes_eq (codes "stream") word then Some None
    else if bytes_eq (codes "csv") word then Some (Some (csv (record { null_text = null_text; dates = dates })))
    else if bytes_eq (codes "jsonl") word then Some (Some (json_lines dates)) else None

-- the form that options state, of a stream unless they say otherwise; no text, or the empty one, means null in CSV unless they name another
unfoldable pub form_of : PlainOptions → Option (Option PlainForm)
form_of options =
    option_and_then (form_named (unwrap_or options.form (codes "stream")) (unwrap_or options.null_text [])) (dates_of options.dates)
