-- What is said of the field of the table that a refused part is for: the field at the place of the part.
use Rattle.std.specs.Prelude.{ℕ, ◌++◌, ◌-◌, ◌^◌, Bool, true, false, List, [], codes, decimal, Option, Some, None}
use Rattle.arrow_schema.specs.Column.{Kind, Column, days, date_milliseconds, integers, dates, timestamps}
use Rattle.arrow_schema.specs.Parts.{kind_of_column}
use Rattle.field_texts.specs.FieldText.{field_text, printed}
use Rattle.text_import.specs.declared.refusal.Refusal.{Refusal}
use Rattle.text_import.specs.declared.refusal.Refusal.TheVariants.{OutOfRange, FixedWidth, NullMismatch, WrongKind, NotADate, WrongOffset}
use Rattle.text_import.specs.Part.{PlainPart}
use Rattle.text_import.specs.Place.{column_of_part}
use Rattle.cli_reports.specs.Shown.{shown}

-- the greatest integer of this many bits
abbrev pub greatest : (bits : ℕ) → (signed : Bool) → ℕ
greatest bits true = 2 ^ (bits - 1) - 1
greatest bits false = 2 ^ bits - 1

-- the least one
abbrev pub least_text : (bits : ℕ) → (signed : Bool) → List ℕ
least_text bits true = codes "-" ++ decimal (2 ^ (bits - 1))
least_text bits false = codes "0"

abbrev pub range_text : (bits : ℕ) → (signed : Bool) → List ℕ
range_text bits signed = least_text bits signed ++ codes " to " ++ decimal (greatest bits signed)

-- the integers that a type holds, by their bits and whether they are signed: a date of days has 32 bits, and one of milliseconds or a timestamp 64
abbrev pub integers_of : Kind → Option (ℕ × Bool)
integers_of (integers bits signed) = Some (bits, signed)
integers_of (dates days) = Some (32, true)
integers_of (dates date_milliseconds) = Some (64, true)
integers_of (timestamps unit timezone) = Some (64, true)
integers_of _ = None

abbrev pub about_range : (text : List ℕ) → Option (ℕ × Bool) → List ℕ
about_range text None = []
about_range text (Some i) = codes "`" ++ text ++ codes "` holds " ++ range_text i.0 i.1 ++ codes ". "

abbrev pub about_type : (text : List ℕ) → List ℕ
about_type text = codes "The table has `" ++ text ++ codes "` there. "

-- if the field may be shown and its type is why a value is refused
abbrev pub about_text : Kind → Refusal → Option (List ℕ) → List ℕ
about_text kind refusal None = []
about_text kind OutOfRange (Some text) = about_range text (integers_of kind)
about_text kind FixedWidth (Some text) = about_type text
about_text kind NullMismatch (Some text) = about_type text
about_text kind WrongKind (Some text) = about_type text
about_text kind NotADate (Some text) = about_type text
about_text kind WrongOffset (Some text) = about_type text
about_text kind refusal (Some text) = []

abbrev pub about_column : Refusal → Option Column → List ℕ
about_column refusal None = []
about_column refusal (Some c) = about_text (kind_of_column c) refusal (shown (field_text printed c))

-- of the field at the place of a part
abbrev pub about_part : List Column → PlainPart → Refusal → List ℕ
about_part cs part refusal = about_column refusal (column_of_part cs part)
