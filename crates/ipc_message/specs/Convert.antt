-- The schema that a header decodes to: each field becomes a column, and its dictionary an index type, whatever the id.
use Rattle.std.specs.Prelude.{List, [], ◌∷◌, map, option_map, unwrap_or}
use Rattle.arrow_schema.specs.Column.{Index, Column, nulls, column, PlainSchema}
use Rattle.ipc_message.specs.Raw.{RawEncoding, RawField, RawFields, raw_field, no_raw_field, and_raw_field, RawSchema}
use Rattle.ipc_message.specs.Types.{type_name, decoded_type}

abbrev pub decoded_index : RawEncoding → Index
decoded_index e = record { bits = e.width; signed = e.signed }

-- a field that decodes to no type reads as Null; a schema with such a field is refused
unfoldable mutual
  pub column_of_field : RawField → Column
  column_of_field (raw_field name nullable code table dictionary children pairs) =
      column name nullable (unwrap_or (decoded_type (type_name code) table (columns_of_fields children)) nulls) (option_map decoded_index dictionary) pairs

  pub columns_of_fields : RawFields → List Column
  columns_of_fields no_raw_field = []
  columns_of_fields (and_raw_field f fs) = column_of_field f ∷ columns_of_fields fs

abbrev pub plain_schema_of : RawSchema → PlainSchema
plain_schema_of s = record { columns = map column_of_field s.fields; pairs = s.pairs }
