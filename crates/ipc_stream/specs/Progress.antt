-- The state of a stream as the code keeps it, and the results of calls that add to it.
use Rattle.std.specs.Prelude.{◌≡◌, ℕ, Bool, true, List, Option, Some, None, Result, Ok, Err, length, map}
use Rattle.std.specs.List.{flat_map, list_all}
use Rattle.arrow_schema.specs.Column.{Columns, columns_of}
use Rattle.arrow_schema.specs.View.{schema_of}
use Rattle.cells.specs.Cell.{Cell}
use Rattle.cells.specs.Weight.{table_weight}
use Rattle.columns.specs.declared.array.Dictionary.{Dictionary}
use Rattle.columns.specs.CellAt.{rows_in}
use Rattle.columns.specs.Sound.{are_sound}
use Rattle.columns.specs.View.{placed_arrays}
use Rattle.columns.specs.Within.{is_placed_within}
use Rattle.dictionary.specs.Kept.{HasInEffect, lists_of, are_kept_within}
use Rattle.arrays.specs.Bytes.{has_bytes}
use Rattle.arrays.specs.DictionaryColumns.{dictionary_columns_of}
use Rattle.arrays.specs.Known.{dictionary_values, is_readable_batch, HaveOneType}
use Rattle.arrays.specs.Checks.{batch_read, batch_weight}
use Rattle.arrays.specs.Dictionaries.{dictionaries_after}
use Rattle.arrays.specs.declared.batch.PlacedBatch.{PlacedBatch}
use Rattle.columns.specs.Array.{Arrays}
use Rattle.ipc_message.specs.Raw.{RawBatch}
use Rattle.values.specs.declared.table_part.Batch.{Batch}
use Rattle.values.specs.Table.{IsTable}
use Rattle.ipc_message.specs.declared.error.ImportError.{ImportError}
use Rattle.ipc_message.specs.declared.fault.Fault.{Fault}
use Rattle.ipc_message.specs.Outcome.{Fails}
use Rattle.ipc_stream.specs.declared.front.Front.{Front}
use Rattle.ipc_stream.specs.Meaning.{Known, known_table}

-- the rows of batches that were read, over these bytes and these dictionaries
abbrev pub placed_rows : Columns → List ℕ → List Dictionary → List Batch → List (List Cell)
placed_rows columns bytes lists batches = flat_map (λ b. rows_in columns (placed_arrays bytes lists b.arrays.items) b.rows) batches

abbrev pub are_batches_sound : Columns → List ℕ → List Dictionary → List Batch → Bool
are_batches_sound columns bytes lists batches = list_all (λ b. are_sound columns b.rows (placed_arrays bytes lists b.arrays.items)) batches

-- the arrays of the batches end within `size` bytes, and so do the dictionary arrays that they know
abbrev pub are_batches_within : (size : ℕ) → List Dictionary → List Batch → Bool
are_batches_within size lists batches = list_all (λ b. list_all (is_placed_within size lists) b.arrays.items) batches

-- the columns with dictionaries are those of the schema, and the dictionary batches so far can be looked up
pub record HasDictionaries (k : Known) : Type 0 where
  pub values : dictionary_values (columns_of k.schema.columns) ≡ map (λ c. c.values) k.columns
  pub one_type : HaveOneType k.columns
  pub readable : list_all (is_readable_batch k.columns) k.dictionaries ≡ true
  pub bytes : list_all (λ b. has_bytes b.array) k.dictionaries ≡ true

-- the front holds the state k, over these bytes
pub record IsFront (bytes : List ℕ) (f : Front) (k : Known) : Type 0 where
  pub schema : schema_of f.schema ≡ k.schema
  pub columns : dictionary_columns_of f.columns ≡ k.columns
  pub dictionaries : HasDictionaries k
  pub effect : HasInEffect bytes f.dictionaries k.dictionaries
  pub kept : are_kept_within (length bytes) f.dictionaries ≡ true
  pub within : (lists : List Dictionary) → lists_of lists ≡ f.dictionaries.lists → are_batches_within (length bytes) lists f.batches.items ≡ true
  pub sound : (lists : List Dictionary) → lists_of lists ≡ f.dictionaries.lists → are_batches_sound (columns_of k.schema.columns) bytes lists f.batches.items ≡ true
  pub rows : (lists : List Dictionary) → lists_of lists ≡ f.dictionaries.lists → placed_rows (columns_of k.schema.columns) bytes lists f.batches.items ≡ k.rows
  pub weight : f.weight ≡ table_weight k.schema k.rows
  pub table : IsTable (known_table k)

-- the result of a call is a front with the expected state, or the first fault
abbrev pub GivesFront : List ℕ → Result Front ImportError → Result Known Fault → Type 0
GivesFront bytes (Ok f) exact = (k : Known) × (exact ≡ Ok k) × IsFront bytes f k
GivesFront bytes (Err e) exact = Fails e exact

-- the same for a call that changes a front in place
abbrev pub GivesGrown : List ℕ → Front → Result (Unit {0}) ImportError → Result Known Fault → Type 0
GivesGrown bytes f (Ok u) exact = (k : Known) × (exact ≡ Ok k) × IsFront bytes f k
GivesGrown bytes f (Err e) exact = Fails e exact

-- `IsFront`, if there may be no message yet
abbrev pub IsBefore : List ℕ → Option Front → Option Known → Type 0
IsBefore bytes None None = Unit {0}
IsBefore bytes (Some f) (Some k) = IsFront bytes f k
IsBefore bytes _ _ = ⊥

-- the arrays of a record batch in this state, or the first fault
abbrev pub known_batch : Known → RawBatch → (body : List ℕ) → Result Arrays Fault
known_batch k b body = batch_read k.schema (table_weight k.schema k.rows) b body (dictionaries_after k.dictionaries k.columns)

-- these are the arrays of a record batch; they end within these bytes, and their slots can be looked up
pub record AreArrays (bytes : List ℕ) (lists : List Dictionary) (k : Known) (b : RawBatch) (body : List ℕ) (v : PlacedBatch) : Type 0 where
  pub read : known_batch k b body ≡ Ok (placed_arrays bytes lists v.arrays.items)
  pub weight : v.weight ≡ batch_weight k.schema b.length (placed_arrays bytes lists v.arrays.items)
  pub within : list_all (is_placed_within (length bytes) lists) v.arrays.items ≡ true
  pub sound : are_sound (columns_of k.schema.columns) b.length (placed_arrays bytes lists v.arrays.items) ≡ true

-- the result of reading these arrays
abbrev pub GivesArrays : List ℕ → List Dictionary → Known → RawBatch → (body : List ℕ) → Result PlacedBatch ImportError → Type 0
GivesArrays bytes lists k b body (Ok v) = AreArrays bytes lists k b body v
GivesArrays bytes lists k b body (Err e) = Fails e (known_batch k b body)
