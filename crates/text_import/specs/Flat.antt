-- The cell of a text: integers, booleans, texts, binaries.
use Rattle.std.specs.Prelude.{ℕ, ◌&&◌, ℤ, Bool, bytes_eq, List, Option, Some, None, Result, Ok, Err, if◌then◌else◌}
use Rattle.hex.specs.Hex.{decode_of}
use Rattle.hex.specs.declared.error.FromHexError.{FromHexError}
use Rattle.arrow_schema.specs.Column.{Kind, Column, nulls, booleans, integers, dates, timestamps, texts, large_texts, binaries, large_binaries, fixed_binaries, lists, large_lists, fixed_lists, structs, column}
use Rattle.civil_days.specs.declared.date_column.DateFault.{DateFault}
use Rattle.civil_days.specs.declared.date_column.DateFault.TheVariants as faults
use Rattle.civil_days.specs.declared.date_form.DateForm.{DateForm}
use Rattle.civil_days.specs.declared.date_form.DateForm.TheVariants.{Numbers, Iso}
use Rattle.civil_days.specs.Typed.{spelled}
use Rattle.cells.specs.Cell.{Cell, null, boolean, number, text, bytes}
use Rattle.cells.specs.Fit.{fits_kind}
use Rattle.cells.specs.Typed.{typed_integer, typed_boolean}
use Rattle.text_import.specs.declared.refusal.Refusal.{Refusal}
use Rattle.text_import.specs.declared.refusal.Refusal.TheVariants.{NotUtf8, NotANumber, NotADate, WrongOffset, OutOfRange, NotABool, NotHex, NullMismatch, Nested, FixedWidth}
use Rattle.text_import.specs.FieldForm.{PlainFieldForm}

-- the cell, if it is one of the type
abbrev pub fitting : Kind → Refusal → Cell → Result Cell Refusal
fitting kind refusal c = if fits_kind kind c then Ok c else Err refusal

abbrev pub number_cell : Kind → Option ℤ → Result Cell Refusal
number_cell kind None = Err NotANumber
number_cell kind (Some n) = fitting kind OutOfRange (number n)

-- the number that the text of a date or a time states
abbrev pub spelled_cell : Kind → Result ℤ DateFault → Result Cell Refusal
spelled_cell kind (Err faults.NotADate) = Err NotADate
spelled_cell kind (Err faults.WrongOffset) = Err WrongOffset
spelled_cell kind (Ok n) = fitting kind OutOfRange (number n)

-- a date or a time, as its number or as people write it
abbrev pub dated_cell : DateForm → Kind → List ℕ → Result Cell Refusal
dated_cell Numbers kind t = number_cell kind (typed_integer t)
dated_cell Iso kind t = spelled_cell kind (spelled kind t)

abbrev pub boolean_cell : Option Bool → Result Cell Refusal
boolean_cell None = Err NotABool
boolean_cell (Some b) = Ok (boolean b)

-- the bytes, if the text is their hexadecimal digits
abbrev pub bytes_cell : Kind → Result (List ℕ) FromHexError → Result Cell Refusal
bytes_cell kind (Err e) = Err NotHex
bytes_cell kind (Ok t) = fitting kind FixedWidth (bytes t)

-- hexadecimal digits of either case, two for each byte
abbrev pub hex_cell : Kind → List ℕ → Result Cell Refusal
hex_cell kind t = bytes_cell kind (decode_of t)

-- the cell of a text that is not a null
unfoldable pub cell_of_text : DateForm → Kind → List ℕ → Result Cell Refusal
cell_of_text date_form nulls t = Err NullMismatch
cell_of_text date_form booleans t = boolean_cell (typed_boolean t)
cell_of_text date_form (integers bits signed) t = number_cell (integers bits signed) (typed_integer t)
cell_of_text date_form (dates unit) t = dated_cell date_form (dates unit) t
cell_of_text date_form (timestamps unit timezone) t = dated_cell date_form (timestamps unit timezone) t
cell_of_text date_form texts t = fitting texts NotUtf8 (text t)
cell_of_text date_form large_texts t = fitting large_texts NotUtf8 (text t)
cell_of_text date_form binaries t = hex_cell binaries t
cell_of_text date_form large_binaries t = hex_cell large_binaries t
cell_of_text date_form (fixed_binaries width) t = hex_cell (fixed_binaries width) t
cell_of_text date_form (lists item) t = Err Nested
cell_of_text date_form (large_lists item) t = Err Nested
cell_of_text date_form (fixed_lists size item) t = Err Nested
cell_of_text date_form (structs columns) t = Err Nested

-- the null text is a null if nulls are allowed, and an ordinary text if not
unfoldable pub field_cell : PlainFieldForm → Column → List ℕ → Result Cell Refusal
field_cell form (column name nullable kind dictionary pairs) t = if nullable && bytes_eq t form.null_text then Ok null else cell_of_text form.dates kind t
