-- A schema that was written decodes to that schema.
use Rattle.std.specs.Prelude.{nat_lt, option_map, unwrap_or, map}
use Rattle.std.specs.List.{list_all}
use Rattle.std.proofs.Common.{◌≡◌, ℕ, ◌+◌, true, List, ◌∷◌, Option, Some, None, refl, sym, ap, ◌∙◌}
use Rattle.std.proofs.lemmas.Bool.{and_parts}
use Rattle.std.proofs.lemmas.List.Folds.{list_all-append}
use Rattle.arrow_schema.specs.declared.limits.TheConstants.{NUMBER_END}
use Rattle.arrow_schema.specs.Column.{Index, days, date_milliseconds, seconds, milliseconds, microseconds, nanoseconds, Kind, Column, Columns, nulls, booleans, integers, dates, timestamps, texts, large_texts, binaries, large_binaries, fixed_binaries, lists, large_lists, fixed_lists, structs, column, no_column, and_column, columns_of, list_of, PlainSchema}
use Rattle.arrow_schema.specs.Limits.{IsWithinLimits, number_of, has_number_in_range, has_bit_widths, is_kind_of_width, is_index_of_width}
use Rattle.arrow_schema.specs.Preorder.{preorder, preorder_below, preorder_all}
use Rattle.arrow_schema.specs.laws.Columns.{columns_list, columns_listed}
use Rattle.ipc_message.specs.Raw.{RawFields, no_raw_field, and_raw_field, raw_list_of}
use Rattle.ipc_message.specs.Types.{type_name, is_size, decoded_type}
use Rattle.ipc_message.specs.Convert.{decoded_index, column_of_field, columns_of_fields, plain_schema_of}
use Rattle.ipc_write.specs.Trees.{code_of, ids_for, ids_of}
use Rattle.ipc_write.specs.Decoded.{parameters_of, encoding_of, raw_of, raw_below, raw_of_all, raw_schema}
use Rattle.ipc_write.proofs.Room.{has_numbers, schema_numbers}

pub is_size-number : (n : ℕ) → nat_lt n NUMBER_END ≡ true → is_size n ≡ true
is_size-number n h = h

index_again : (id : ℕ) (dictionary : Option Index) → option_map decoded_index (encoding_of id dictionary) ≡ dictionary
index_again id None = refl
index_again id (Some index) = refl

mutual
  unfolding raw_of raw_below raw_of_all column_of_field columns_of_fields type_name decoded_type preorder preorder_below preorder_all

  column_again : (id : ℕ) (c : Column) → list_all has_numbers (preorder c) ≡ true → column_of_field (raw_of id c) ≡ c
  column_again id (column name nullable kind dictionary pairs) h =
      let c : Column = column name nullable kind dictionary pairs in
      let parts = and_parts (has_numbers c) (list_all has_numbers (preorder_below kind)) h in
      let own = and_parts (has_number_in_range c) (has_bit_widths c) parts.0 in
      let widths = and_parts (is_kind_of_width kind) (is_index_of_width dictionary) own.1 in
      let k = kind_again (id + ids_for dictionary) kind own.0 widths.0 parts.1 in
      let d = index_again id dictionary in
      λ i. column name nullable (k i) (d i) pairs

  kind_again : (id : ℕ) (kind : Kind) → nat_lt (number_of kind) NUMBER_END ≡ true → is_kind_of_width kind ≡ true → list_all has_numbers (preorder_below kind) ≡ true
      → unwrap_or (decoded_type (type_name (code_of kind)) (parameters_of kind) (columns_of_fields (raw_below id kind))) nulls ≡ kind
  kind_again id nulls n w below = refl
  kind_again id booleans n w below = refl
  kind_again id (integers bits signed) n w below = rw w refl
  kind_again id (dates days) n w below = refl
  kind_again id (dates date_milliseconds) n w below = refl
  kind_again id (timestamps seconds timezone) n w below = refl
  kind_again id (timestamps milliseconds timezone) n w below = refl
  kind_again id (timestamps microseconds timezone) n w below = refl
  kind_again id (timestamps nanoseconds timezone) n w below = refl
  kind_again id texts n w below = refl
  kind_again id large_texts n w below = refl
  kind_again id binaries n w below = refl
  kind_again id large_binaries n w below = refl
  kind_again id (fixed_binaries width) n w below = rw (is_size-number width n) refl
  kind_again id (lists item) n w below = ap lists (column_again id item below)
  kind_again id (large_lists item) n w below = ap large_lists (column_again id item below)
  kind_again id (fixed_lists size item) n w below = rw (is_size-number size n) (ap (fixed_lists size) (column_again id item below))
  kind_again id (structs parts) n w below = ap structs (ap columns_of (columns_again id parts below) ∙ columns_list parts)

  columns_again : (id : ℕ) (cs : Columns) → list_all has_numbers (preorder_all cs) ≡ true → columns_of_fields (raw_of_all id cs) ≡ list_of cs
  columns_again id no_column h = refl
  columns_again id (and_column c cs) h =
      let parts = and_parts (list_all has_numbers (preorder c)) (list_all has_numbers (preorder_all cs)) (sym (list_all-append has_numbers (preorder c) (preorder_all cs)) ∙ h) in
      let first = column_again id c parts.0 in
      let rest = columns_again (id + ids_of c) cs parts.1 in
      λ i. first i ∷ rest i

map_listed : (fs : RawFields) → map column_of_field (raw_list_of fs) ≡ columns_of_fields fs
unfolding columns_of_fields
map_listed no_raw_field = refl
map_listed (and_raw_field f fs) = ap (λ (cs : List Column). column_of_field f ∷ cs) (map_listed fs)

pub schema_decoded : (s : PlainSchema) → IsWithinLimits s → plain_schema_of (raw_schema s) ≡ s
schema_decoded s limits =
    let columns = map_listed (raw_of_all 0 (columns_of s.columns)) ∙ columns_again 0 (columns_of s.columns) (schema_numbers s limits) ∙ columns_listed s.columns in
    λ i. record { columns = columns i; pairs = s.pairs }
