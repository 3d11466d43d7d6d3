-- What is known after a record batch.
use Rattle.std.specs.Prelude.{◌&&◌, nat_lt, nat_le, get_or, IfOk, slice_index}
use Rattle.std.specs.List.{AllPass, list_all}
use Rattle.std.proofs.Common.{◌≡◌, ℕ, suc, ◌+◌, ◌<◌, ◌≤◌, true, List, [], ◌∷◌, ◌++◌, length, map, take, drop, Ok, Err, Result, refl, sym, ap, ◌∙◌, subst, arith}
use Rattle.std.proofs.Math.Path.{fun_ext}
use Rattle.std.proofs.lemmas.Bool.{lt-ltb, and_from}
use Rattle.std.proofs.lemmas.Grind.{flat_map-append}
use Rattle.std.proofs.lemmas.List.{append-nil}
use Rattle.std.proofs.lemmas.List.Folds.{list_all-append}
use Rattle.std.proofs.lemmas.List.Sums.{sum_by-append, AllPass-from_list_all, list_all-from_AllPass}
use Rattle.arrow_schema.specs.Column.{PlainSchema, Columns, columns_of}
use Rattle.arrow_schema.specs.Limits.{IsWithinLimits}
use Rattle.arrow_schema.specs.View.{schema_of}
use Rattle.cells.specs.declared.limits.TheConstants.{MAX_TABLE_WEIGHT}
use Rattle.cells.specs.Cell.{Cell}
use Rattle.cells.specs.Row.{is_row}
use Rattle.cells.specs.Weight.{table_weight, row_weight}
use Rattle.columns.specs.Array.{Array, Arrays, arrays_of}
use Rattle.columns.specs.CellAt.{rows_in}
use Rattle.columns.specs.Places.{within}
use Rattle.columns.specs.Sound.{are_sound}
use Rattle.columns.specs.View.{array_in, arrays_in, no_dictionary, placed_arrays}
use Rattle.columns.specs.Within.{is_within_by, is_placed_within}
use Rattle.columns.specs.declared.array.Dictionary.{Dictionary}
use Rattle.columns.specs.declared.array.DictionaryPart.{DictionaryPart}
use Rattle.columns.specs.declared.array.PlacedArray.{PlacedArray}
use Rattle.columns.specs.declared.span.Span.{Span}
use Rattle.dictionary.specs.Kept.{lists_of}
use Rattle.arrays.specs.declared.batch.PlacedBatch.{PlacedBatch}
use Rattle.arrays.specs.Bytes.{are_bytes, has_bytes}
use Rattle.arrays.specs.Checks.{batch_read, batch_weight}
use Rattle.arrays.specs.Dictionaries.{dictionaries_after}
use Rattle.arrays.specs.DictionaryColumns.{dictionary_columns_of}
use Rattle.arrays.specs.Known.{are_readable, dictionary_values}
use Rattle.arrays.specs.laws.Bytes.{are_bytes-take, are_bytes-drop}
use Rattle.values.specs.declared.table_part.Batch.{Batch}
use Rattle.ipc_message.specs.declared.error.ImportError.{ImportError}
use Rattle.ipc_message.specs.declared.error.ImportError.TheVariants as errors
use Rattle.ipc_message.specs.declared.fault.Fault.{Fault}
use Rattle.ipc_message.specs.Outcome.{Gives, Fails}
use Rattle.ipc_message.specs.Raw.{RawBatch, batch_header}
use Rattle.ipc_stream.specs.declared.front.Front.{Front}
use Rattle.values.specs.Table.{IsTable}
use Rattle.ipc_stream.specs.Meaning.{Known, known_table, with_rows, read_after, ◌>>=◌}
use Rattle.ipc_stream.specs.Progress.{HasDictionaries, IsFront, GivesFront, AreArrays, GivesArrays, known_batch, placed_rows, are_batches_sound, are_batches_within}
use Rattle.ipc_stream.proofs.Dictionaries.{AllReadable, AllHaveBytes, dictionaries_stay, taken_readable, taken_bytes}

-- ---- bytes

pub all_small : (bytes : List ℕ) → ((i : ℕ) → slice_index bytes i < 256) → are_bytes bytes ≡ true
all_small [] h = refl
all_small (b ∷ bytes) h = and_from (nat_lt b 256) (are_bytes bytes) (lt-ltb b 256 (h 0)) (all_small bytes (λ i. h (suc i)))

pub within_small : (bytes : List ℕ) (span : Span) → ((i : ℕ) → slice_index bytes i < 256) → are_bytes (within bytes span) ≡ true
within_small bytes span h = are_bytes-take span.len (drop span.start bytes) (are_bytes-drop span.start bytes (all_small bytes h))

-- ---- the same lists of arrays, however they are kept

known_same : (bytes : List ℕ) (l m : List Dictionary) → lists_of l ≡ lists_of m → (part : DictionaryPart) → arrays_in bytes l part ≡ arrays_in bytes m part
known_same bytes [] [] e part = refl
known_same bytes [] (d ∷ m) e part = absurd cc
known_same bytes (d ∷ l) [] e part = absurd cc
known_same bytes (d ∷ l) (c ∷ m) e part = ap (λ (lists : List (List PlacedArray)). map (array_in bytes no_dictionary) (take part.count (get_or lists part.number []))) e

placed_same : (bytes : List ℕ) (l m : List Dictionary) (arrays : List PlacedArray) → lists_of l ≡ lists_of m → placed_arrays bytes l arrays ≡ placed_arrays bytes m arrays
placed_same bytes l m arrays e = ap (λ (known : DictionaryPart → List Array). arrays_of (map (array_in bytes known) arrays)) (fun_ext (known_same bytes l m e))

within_same : (size : ℕ) (l m : List Dictionary) (arrays : List PlacedArray) → lists_of l ≡ lists_of m → list_all (is_placed_within size l) arrays ≡ list_all (is_placed_within size m) arrays
within_same size l m arrays e =
    ap (λ (lists : List (List PlacedArray)).
    list_all (is_within_by size (λ part. nat_le part.count (length (get_or lists part.number [])) && list_all (is_within_by size (λ p. true)) (take part.count (get_or lists part.number [])))) arrays) e

-- ---- reading the arrays

pub arrays_given : (bytes : List ℕ) (lists : List Dictionary) (s : PlainSchema) (weight : ℕ) (known : List (List Array)) (k : Known) (b : RawBatch) (body : List ℕ) (r : Result PlacedBatch ImportError)
    → s ≡ k.schema → weight ≡ table_weight k.schema k.rows → known ≡ dictionaries_after k.dictionaries k.columns
    → Gives (λ v. placed_arrays bytes lists v.arrays.items) r (batch_read s weight b body known)
    → IfOk r (λ v. v.weight ≡ batch_weight s b.length (placed_arrays bytes lists v.arrays.items))
    → IfOk r (λ v. list_all (is_placed_within (length bytes) lists) v.arrays.items ≡ true)
    → IfOk r (λ v. are_sound (columns_of s.columns) b.length (placed_arrays bytes lists v.arrays.items) ≡ true)
    → GivesArrays bytes lists k b body r
arrays_given bytes lists s weight known k b body (Ok v) es ew ek g w within sound =
    let same : batch_read s weight b body known ≡ known_batch k b body = λ j. batch_read (es j) (ew j) b body (ek j) in
    record {
      read = sym same ∙ g;
      weight = w ∙ ap (λ (x : PlainSchema). batch_weight x b.length (placed_arrays bytes lists v.arrays.items)) es;
      within = within;
      sound = subst (λ (x : PlainSchema). are_sound (columns_of x.columns) b.length (placed_arrays bytes lists v.arrays.items) ≡ true) es sound;
    }
arrays_given bytes lists s weight known k b body (Err e) es ew ek g w within sound =
    let same : batch_read s weight b body known ≡ known_batch k b body = λ j. batch_read (es j) (ew j) b body (ek j) in
    subst (λ (x : Result Arrays Fault). Fails e x) same g

-- ---- a record batch more

abbrev pub RowsAreRows : Type 0
RowsAreRows =
    (s : PlainSchema) (before : ℕ) (b : RawBatch) (body : List ℕ) (known : List (List Array)) (arrays : Arrays) → IsWithinLimits s
    → are_bytes body ≡ true → list_all (list_all has_bytes) known ≡ true → are_readable (dictionary_values (columns_of s.columns)) known ≡ true
    → batch_read s before b body known ≡ Ok arrays
    → AllPass (is_row s) (rows_in (columns_of s.columns) arrays b.length) × (before + batch_weight s b.length arrays ≤ MAX_TABLE_WEIGHT)

-- what other crates say of a record batch
pub record RowLaws : Type 0 where
  pub rows : RowsAreRows
  pub readable : AllReadable
  pub bytes : AllHaveBytes

-- what is known is a table, and its dictionaries can be looked up
pub record IsKnown (k : Known) : Type 0 where
  pub dictionaries : HasDictionaries k
  pub table : IsTable (known_table k)

known_of : (bytes : List ℕ) (f : Front) (k : Known) → IsFront bytes f k → IsKnown k
known_of bytes f k is = record { dictionaries = is.dictionaries; table = is.table }

rows_read : RowLaws → (k : Known) (b : RawBatch) (body : List ℕ) (arrays : Arrays) → IsKnown k → are_bytes body ≡ true → known_batch k b body ≡ Ok arrays
    → AllPass (is_row k.schema) (rows_in (columns_of k.schema.columns) arrays b.length) × (table_weight k.schema k.rows + batch_weight k.schema b.length arrays ≤ MAX_TABLE_WEIGHT)
rows_read laws k b body arrays is small read =
    laws.rows k.schema (table_weight k.schema k.rows) b body (dictionaries_after k.dictionaries k.columns) arrays is.table.schema small
    (taken_bytes laws.bytes k is.dictionaries) (taken_readable laws.readable k is.dictionaries) read

pub weight_fits : RowLaws → (bytes : List ℕ) (f : Front) (k : Known) (b : RawBatch) (body : List ℕ) (lists : List Dictionary) (v : PlacedBatch) → IsFront bytes f k → are_bytes body ≡ true
    → AreArrays bytes lists k b body v → f.weight + v.weight ≤ MAX_TABLE_WEIGHT
weight_fits laws bytes f k b body lists v is small given =
    let light = (rows_read laws k b body (placed_arrays bytes lists v.arrays.items) (known_of bytes f k is) small given.read).1 in
    omega (arith, light, is.weight, given.weight)

rows_joined : (s : PlainSchema) (xs ys : List (List Cell)) → AllPass (is_row s) xs → AllPass (is_row s) ys → AllPass (is_row s) (xs ++ ys)
rows_joined s xs ys h g =
    AllPass-from_list_all (is_row s) (xs ++ ys) (list_all-append (is_row s) xs ys ∙ and_from _ _ (list_all-from_AllPass (is_row s) xs h) (list_all-from_AllPass (is_row s) ys g))

pub table_after : RowLaws → (k : Known) (b : RawBatch) (body : List ℕ) (arrays : Arrays) → IsKnown k → are_bytes body ≡ true → known_batch k b body ≡ Ok arrays
    → IsTable (known_table (with_rows k (rows_in (columns_of k.schema.columns) arrays b.length)))
table_after laws k b body arrays is small read =
    let rows : List (List Cell) = rows_in (columns_of k.schema.columns) arrays b.length in
    let good = rows_read laws k b body arrays is small read in
    let sum : table_weight k.schema (k.rows ++ rows) ≡ table_weight k.schema k.rows + table_weight k.schema rows = sum_by-append (row_weight k.schema) k.rows rows in
    record { schema = is.table.schema; rows = rows_joined k.schema k.rows rows is.table.rows good.0; weight = rw sum good.1 }

-- the front with one batch more
pub record HasBatch (f next : Front) (v : PlacedBatch) (batch : Batch) : Type 0 where
  pub schema : next.schema ≡ f.schema
  pub columns : next.columns ≡ f.columns
  pub dictionaries : next.dictionaries ≡ f.dictionaries
  pub batches : next.batches.items ≡ f.batches.items ++ batch ∷ []
  pub arrays : batch.arrays.items ≡ v.arrays.items
  pub weight : next.weight ≡ f.weight + v.weight

front_after : RowLaws → (bytes : List ℕ) (f next : Front) (k : Known) (b : RawBatch) (body : List ℕ) (l : List Dictionary) (v : PlacedBatch) (batch : Batch) → IsFront bytes f k
    → are_bytes body ≡ true → lists_of l ≡ f.dictionaries.lists → AreArrays bytes l k b body v → HasBatch f next v batch → batch.rows ≡ b.length
    → IsFront bytes next (with_rows k (rows_in (columns_of k.schema.columns) (placed_arrays bytes l v.arrays.items) b.length))
front_after laws bytes f next k b body l v batch is small kept given has many =
    let columns : Columns = columns_of k.schema.columns in
    let arrays : Arrays = placed_arrays bytes l v.arrays.items in
    let rows : List (List Cell) = rows_in columns arrays b.length in
    let sum : table_weight k.schema (k.rows ++ rows) ≡ table_weight k.schema k.rows + table_weight k.schema rows = sum_by-append (row_weight k.schema) k.rows rows in
    record {
      schema = ap schema_of has.schema ∙ is.schema;
      columns = ap dictionary_columns_of has.columns ∙ is.columns;
      dictionaries = dictionaries_stay k rows is.dictionaries;
      effect = rw has.dictionaries is.effect;
      kept = rw has.dictionaries is.kept;
      within = λ lists e.
          let old : lists_of lists ≡ f.dictionaries.lists = e ∙ ap (λ d. d.lists) has.dictionaries in
          let one : list_all (is_placed_within (length bytes) lists) batch.arrays.items ≡ true =
          ap (list_all (is_placed_within (length bytes) lists)) has.arrays ∙ within_same (length bytes) lists l v.arrays.items (old ∙ sym kept) ∙ given.within in
          ap (are_batches_within (length bytes) lists) has.batches
          ∙ list_all-append (λ (x : Batch). list_all (is_placed_within (length bytes) lists) x.arrays.items) f.batches.items (batch ∷ [])
          ∙ and_from _ _ (is.within lists old) (rw one refl);
      sound = λ lists e.
          let old : lists_of lists ≡ f.dictionaries.lists = e ∙ ap (λ d. d.lists) has.dictionaries in
          let same : placed_arrays bytes lists batch.arrays.items ≡ arrays = ap (placed_arrays bytes lists) has.arrays ∙ placed_same bytes lists l v.arrays.items (old ∙ sym kept) in
          let one : are_sound columns batch.rows (placed_arrays bytes lists batch.arrays.items) ≡ true = rw (same, many) given.sound in
          ap (are_batches_sound columns bytes lists) has.batches
          ∙ list_all-append (λ (x : Batch). are_sound columns x.rows (placed_arrays bytes lists x.arrays.items)) f.batches.items (batch ∷ [])
          ∙ and_from _ _ (is.sound lists old) (rw one refl);
      rows = λ lists e.
          let old : lists_of lists ≡ f.dictionaries.lists = e ∙ ap (λ d. d.lists) has.dictionaries in
          let same : placed_arrays bytes lists batch.arrays.items ≡ arrays = ap (placed_arrays bytes lists) has.arrays ∙ placed_same bytes lists l v.arrays.items (old ∙ sym kept) in
          let one : rows_in columns (placed_arrays bytes lists batch.arrays.items) batch.rows ≡ rows = λ j. rows_in columns (same j) (many j) in
          ap (placed_rows columns bytes lists) has.batches
          ∙ flat_map-append (λ (x : Batch). rows_in columns (placed_arrays bytes lists x.arrays.items) x.rows) f.batches.items (batch ∷ [])
          ∙ (λ j. is.rows lists old j ++ append-nil (one j) j);
      weight = has.weight ∙ (λ j. is.weight j + given.weight j) ∙ sym sum;
      table = table_after laws k b body arrays (known_of bytes f k is) small given.read;
    }

pub batch_added : RowLaws → (bytes : List ℕ) (f next : Front) (k : Known) (b : RawBatch) (body : List ℕ) (l : List Dictionary) (v : PlacedBatch) (batch : Batch) → IsFront bytes f k
    → are_bytes body ≡ true → lists_of l ≡ f.dictionaries.lists → AreArrays bytes l k b body v → HasBatch f next v batch → batch.rows ≡ b.length
    → GivesFront bytes (Ok next) (read_after k body (batch_header b))
batch_added laws bytes f next k b body l v batch is small kept given has many =
    (_, ap (λ (r : Result Arrays Fault). r >>= λ arrays. Ok (with_rows k (rows_in (columns_of k.schema.columns) arrays b.length))) given.read, front_after laws bytes f next k b body l v batch is small kept given has many)

pub batch_refused : (k : Known) (b : RawBatch) (body : List ℕ) (e : ImportError) → Fails e (known_batch k b body) → Fails e (read_after k body (batch_header b))
batch_refused k b body errors.OutOfMemory h = tt
batch_refused k b body (errors.Fault fault) h = ap (λ (r : Result Arrays Fault). r >>= λ arrays. Ok (with_rows k (rows_in (columns_of k.schema.columns) arrays b.length))) h
