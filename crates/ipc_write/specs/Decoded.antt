-- The decoded header of a written message.
use Rattle.std.specs.Prelude.{ℕ, ◌+◌, Option, Some, None}
use Rattle.arrow_schema.specs.Column.{Index, date_unit_of, time_unit_of, Kind, Column, Columns, nulls, booleans, integers, dates, timestamps, texts, large_texts, binaries, large_binaries, fixed_binaries, lists, large_lists, fixed_lists, structs, column, no_column, and_column, columns_of, PlainSchema}
use Rattle.ipc_message.specs.Raw.{RawParameters, no_parameters, integer_parameters, byte_width, list_size, date_unit, timestamp_parameters, RawEncoding, RawField, RawFields, raw_field, no_raw_field, and_raw_field, raw_list_of, RawSchema}
use Rattle.ipc_write.specs.Trees.{code_of, ids_for, ids_of}

abbrev pub parameters_of : Kind → RawParameters
parameters_of nulls = no_parameters
parameters_of (integers bits signed) = integer_parameters bits signed
parameters_of binaries = no_parameters
parameters_of texts = no_parameters
parameters_of booleans = no_parameters
parameters_of (dates unit) = date_unit (date_unit_of unit)
parameters_of (timestamps unit timezone) = timestamp_parameters (time_unit_of unit) timezone
parameters_of (lists item) = no_parameters
parameters_of (structs parts) = no_parameters
parameters_of (fixed_binaries width) = byte_width width
parameters_of (fixed_lists size item) = list_size size
parameters_of large_binaries = no_parameters
parameters_of large_texts = no_parameters
parameters_of (large_lists item) = no_parameters

abbrev pub encoding_of : ℕ → Option Index → Option RawEncoding
encoding_of id None = None
encoding_of id (Some index) = Some (record { id = id; width = index.bits; signed = index.signed; kind = 0 })

unfoldable mutual
  -- a field, whose dictionaries have ids from `id` on
  pub raw_of : ℕ → Column → RawField
  raw_of id (column name nullable kind dictionary pairs) =
      raw_field name nullable (code_of kind) (parameters_of kind) (encoding_of id dictionary) (raw_below (id + ids_for dictionary) kind) pairs

  pub raw_below : ℕ → Kind → RawFields
  raw_below id (lists item) = and_raw_field (raw_of id item) no_raw_field
  raw_below id (large_lists item) = and_raw_field (raw_of id item) no_raw_field
  raw_below id (fixed_lists size item) = and_raw_field (raw_of id item) no_raw_field
  raw_below id (structs parts) = raw_of_all id parts
  raw_below id nulls = no_raw_field
  raw_below id (integers bits signed) = no_raw_field
  raw_below id binaries = no_raw_field
  raw_below id texts = no_raw_field
  raw_below id booleans = no_raw_field
  raw_below id (dates unit) = no_raw_field
  raw_below id (timestamps unit timezone) = no_raw_field
  raw_below id (fixed_binaries width) = no_raw_field
  raw_below id large_binaries = no_raw_field
  raw_below id large_texts = no_raw_field

  pub raw_of_all : ℕ → Columns → RawFields
  raw_of_all id no_column = no_raw_field
  raw_of_all id (and_column c cs) = and_raw_field (raw_of id c) (raw_of_all (id + ids_of c) cs)

-- a schema as it is written
abbrev pub raw_schema : PlainSchema → RawSchema
raw_schema s = record { endianness = 0; fields = raw_list_of (raw_of_all 0 (columns_of s.columns)); pairs = s.pairs }
