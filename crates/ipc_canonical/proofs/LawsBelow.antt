-- What is known of written messages, batches and pieces: the clauses of the laws of lower crates that the round trip uses.
use Rattle.std.specs.List.{AllByRecursion, AllPass, list_any, range_with_len}
use Rattle.std.proofs.Common.{◌≡◌, ◌<◌, ◌≤◌, ◌+◌, ◌^◌, ℕ, Bool, false, true, List, [], ◌∷◌, ◌++◌, map, length, drop, Some, Ok}
use Rattle.arrow_schema.specs.Column.{Columns, PlainSchema, columns_of}
use Rattle.arrow_schema.specs.Limits.{has_flat_dictionary, IsWithinLimits}
use Rattle.arrow_schema.specs.Preorder.{preorder_all}
use Rattle.cells.specs.Cell.{Cell}
use Rattle.cells.specs.Row.{is_row}
use Rattle.cells.specs.Weight.{table_weight}
use Rattle.columns.specs.Alone.{cells_weight, own_column, own_array, IsBuiltAlone}
use Rattle.columns.specs.Array.{Array, Arrays, slots_in}
use Rattle.columns.specs.Buildable.{can_build_rows}
use Rattle.columns.specs.Buffers.{nodes_of, buffers_of, dictionaries_of}
use Rattle.columns.specs.Built.{built_parts}
use Rattle.columns.specs.CellAt.{rows_in}
use Rattle.columns.specs.Layouts.{dictionary_arrays}
use Rattle.columns.specs.Tests.{Typed}
use Rattle.dictionary.specs.InEffect.{DictionaryBatch}
use Rattle.arrays.specs.Checks.{batch_read}
use Rattle.arrays.specs.Dictionaries.{DictionaryColumn, dictionary_columns, column_of_id, dictionaries_after, entries_read, dictionary_read, batch_with}
use Rattle.arrays.specs.Known.{dictionary_values}
use Rattle.ipc_message.specs.Convert.{plain_schema_of}
use Rattle.ipc_message.specs.Checks.{checked_schema, is_bad, is_dictionary_of_nested}
use Rattle.ipc_message.specs.Fields.{every_field}
use Rattle.ipc_message.specs.Framing.{next_message, message, taken, type_of}
use Rattle.ipc_message.specs.Header.{header, supported_codes}
use Rattle.ipc_message.specs.Raw.{RawNode, RawDictionaryBatch, RawSchema, schema_header, dictionary_header, batch_header}
use Rattle.ipc_write.specs.Decoded.{raw_schema}
use Rattle.ipc_write.specs.Trees.{ids_of_all}
use Rattle.ipc_write.specs.Written.{schema_message, schema_envelope, dictionary_message, dictionary_envelope, dictionary_batch_of, batch_message, batch_envelope, batch_of, IsWritableBatch}
use Rattle.values.specs.Table.{IsTable}
use Rattle.values.specs.PlainTables.{plain_table}
use Rattle.ipc_canonical.specs.WrittenBatch.{raw_nodes, written_batch, written_body, IsWritable}
use Rattle.ipc_canonical.specs.Numbered.{replacing}

pub record SchemaLaw : Type 0 where
  pub found : (s : PlainSchema) (rest : List ℕ) → IsWithinLimits s → next_message (schema_message s ++ rest) ≡ Ok (message (schema_envelope s))
  pub kind : (s : PlainSchema) → IsWithinLimits s → type_of (schema_envelope s).metadata ≡ 1
  pub decoded : (s : PlainSchema) → IsWithinLimits s → header supported_codes (schema_envelope s).metadata ≡ Ok (schema_header (raw_schema s))
  pub again : (s : PlainSchema) → IsWithinLimits s → plain_schema_of (raw_schema s) ≡ s
  pub checked : (s : PlainSchema) → IsWithinLimits s → checked_schema supported_codes (raw_schema s) ≡ Ok s
  pub after : (s : PlainSchema) (rest : List ℕ) → drop (taken (message (schema_envelope s))) (schema_message s ++ rest) ≡ rest

pub record BatchLaw : Type 0 where
  pub found : (rows : ℕ) (nodes : List RawNode) (buffers : List (List ℕ)) (rest : List ℕ) → IsWritableBatch rows nodes buffers
      → next_message (batch_message rows nodes buffers ++ rest) ≡ Ok (message (batch_envelope rows nodes buffers))
  pub kind : (rows : ℕ) (nodes : List RawNode) (buffers : List (List ℕ)) → IsWritableBatch rows nodes buffers → type_of (batch_envelope rows nodes buffers).metadata ≡ 3
  pub decoded : (rows : ℕ) (nodes : List RawNode) (buffers : List (List ℕ)) → IsWritableBatch rows nodes buffers
      → header supported_codes (batch_envelope rows nodes buffers).metadata ≡ Ok (batch_header (batch_of rows nodes buffers))
  pub after : (rows : ℕ) (nodes : List RawNode) (buffers : List (List ℕ)) (rest : List ℕ) → drop (taken (message (batch_envelope rows nodes buffers))) (batch_message rows nodes buffers ++ rest) ≡ rest

pub record DictionaryLaw : Type 0 where
  pub found : (id : ℕ) (is_delta : Bool) (rows : ℕ) (nodes : List RawNode) (buffers : List (List ℕ)) (rest : List ℕ) → id < 2 ^ 64 → IsWritableBatch rows nodes buffers
      → next_message (dictionary_message id is_delta rows nodes buffers ++ rest) ≡ Ok (message (dictionary_envelope id is_delta rows nodes buffers))
  pub kind : (id : ℕ) (is_delta : Bool) (rows : ℕ) (nodes : List RawNode) (buffers : List (List ℕ)) → id < 2 ^ 64 → IsWritableBatch rows nodes buffers
      → type_of (dictionary_envelope id is_delta rows nodes buffers).metadata ≡ 2
  pub decoded : (id : ℕ) (is_delta : Bool) (rows : ℕ) (nodes : List RawNode) (buffers : List (List ℕ)) → id < 2 ^ 64 → IsWritableBatch rows nodes buffers
      → header supported_codes (dictionary_envelope id is_delta rows nodes buffers).metadata ≡ Ok (dictionary_header (dictionary_batch_of id is_delta rows nodes buffers))
  pub after : (id : ℕ) (is_delta : Bool) (rows : ℕ) (nodes : List RawNode) (buffers : List (List ℕ)) (rest : List ℕ)
      → drop (taken (message (dictionary_envelope id is_delta rows nodes buffers))) (dictionary_message id is_delta rows nodes buffers ++ rest) ≡ rest

-- a batch of entries may be framed, and is read as its array
pub record IsReadAlone (t : Typed) : Type 0 where
  pub writable : IsWritableBatch (slots_in t.array) (raw_nodes (own_column t) (own_array t)) (buffers_of (own_column t) (own_array t))
  pub read : entries_read t.column (written_batch (own_column t) (own_array t) (slots_in t.array)) (written_body (own_column t) (own_array t)) ≡ Ok t.array

-- the dictionaries of arrays, and those of a schema
pub record EntriesLaw : Type 0 where
  pub writable : (t : Typed) → IsBuiltAlone 16777216 t → length (preorder_all (own_column t)) ≤ 2048
      → IsWritableBatch (slots_in t.array) (raw_nodes (own_column t) (own_array t)) (buffers_of (own_column t) (own_array t))
  pub read : (t : Typed) → IsBuiltAlone 16777216 t → length (preorder_all (own_column t)) ≤ 2048 → dictionary_arrays (own_column t) (own_array t) ≡ []
      → entries_read t.column (written_batch (own_column t) (own_array t) (slots_in t.array)) (written_body (own_column t) (own_array t)) ≡ Ok t.array
  pub alone : (most : ℕ) (columns : Columns) (rows : List (List Cell)) → can_build_rows columns rows ≡ true → cells_weight columns rows ≤ most
      → AllByRecursion (IsBuiltAlone most) (dictionaries_of columns (built_parts columns rows))
  pub flat : (columns : Columns) (rows : List (List Cell)) → AllPass has_flat_dictionary (preorder_all columns) → can_build_rows columns rows ≡ true
      → AllByRecursion (λ t. dictionary_arrays (own_column t) (own_array t) ≡ []) (dictionaries_of columns (built_parts columns rows))
  pub few_nodes : (columns : Columns) (arrays : Arrays) → length (nodes_of columns arrays) ≤ length (preorder_all columns)
  pub values : (s : RawSchema) → list_any is_bad (every_field s) ≡ false → list_any is_dictionary_of_nested (every_field s) ≡ false
      → dictionary_values (columns_of (plain_schema_of s).columns) ≡ map (λ c. c.values) (dictionary_columns s)
  pub ids : (s : PlainSchema) → map (λ c. c.id) (dictionary_columns (raw_schema s)) ≡ range_with_len 0 (ids_of_all (columns_of s.columns))
  pub own : (columns : List DictionaryColumn) → map (λ c. c.id) columns ≡ range_with_len 0 (length columns)
      → AllByRecursion (λ (c : DictionaryColumn). column_of_id c.id columns ≡ Some c) columns
  pub effect : (columns : List DictionaryColumn) (before : List DictionaryBatch) (arrays : List Array) → map (λ c. c.id) columns ≡ range_with_len 0 (length arrays)
      → dictionaries_after (before ++ replacing 0 arrays) columns ≡ map (λ a. a ∷ []) arrays
  pub replaced : (columns : List DictionaryColumn) (before : List DictionaryBatch) (d : RawDictionaryBatch) (body : List ℕ) (c : DictionaryColumn) (a : Array)
      → column_of_id d.id columns ≡ Some c → d.is_delta ≡ false → entries_read c.values d.batch body ≡ Ok a → dictionary_read columns before d body ≡ Ok (batch_with d a)

pub record RowsLaw : Type 0 where
  pub weight : (s : PlainSchema) (rows : List (List Cell)) → cells_weight (columns_of s.columns) rows ≤ table_weight s rows
  pub writable : (columns : Columns) (rows : List (List Cell)) → IsWritable columns rows
      → IsWritableBatch (length rows) (raw_nodes columns (built_parts columns rows)) (buffers_of columns (built_parts columns rows))
  pub read : (s : PlainSchema) (before : ℕ) (rows : List (List Cell)) → IsWritable (columns_of s.columns) rows → AllPass (is_row s) rows → before + table_weight s rows ≤ 268435456
      → batch_read s before (written_batch (columns_of s.columns) (built_parts (columns_of s.columns) rows) (length rows)) (written_body (columns_of s.columns) (built_parts (columns_of s.columns) rows))
      (map (λ t. t.array ∷ []) (dictionaries_of (columns_of s.columns) (built_parts (columns_of s.columns) rows))) ≡ Ok (built_parts (columns_of s.columns) rows)
  pub back : (columns : Columns) (rows : List (List Cell)) → can_build_rows columns rows ≡ true → rows_in columns (built_parts columns rows) (length rows) ≡ rows
  pub cut : (s : PlainSchema) (a b : List (List Cell)) → IsTable (plain_table s (a ++ b)) → IsTable (plain_table s a) × IsTable (plain_table s b)
