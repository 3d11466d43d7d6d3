-- What is known of dictionaries: after the schema, after a dictionary batch more, and what a record batch takes of them.
use Rattle.std.specs.List.{list_any, list_all}
use Rattle.std.proofs.Common.{◌≡◌, ℕ, Bool, true, false, List, [], ◌∷◌, map, None, Ok, refl, ap, ◌∙◌}
use Rattle.std.proofs.lemmas.List.Folds.{list_all-append}
use Rattle.arrow_schema.specs.Column.{Column, columns_of}
use Rattle.cells.specs.Cell.{Cell}
use Rattle.dictionary.specs.InEffect.{DictionaryBatch}
use Rattle.arrays.specs.Bytes.{are_bytes, has_bytes}
use Rattle.arrays.specs.Dictionaries.{DictionaryColumn, dictionary_columns, dictionary_read, dictionaries_after}
use Rattle.arrays.specs.Known.{are_readable, dictionary_values, is_readable_batch, HaveOneType}
use Rattle.ipc_message.specs.declared.fault.Fault.TheVariants.{DictionaryId}
use Rattle.ipc_message.specs.Checks.{has_two_types, is_bad, is_dictionary_of_nested, schema_checks}
use Rattle.ipc_message.specs.Convert.{plain_schema_of}
use Rattle.ipc_message.specs.Fields.{every_field}
use Rattle.ipc_message.specs.Framing.{first_some}
use Rattle.ipc_message.specs.Raw.{RawSchema, RawDictionaryBatch}
use Rattle.ipc_message.specs.laws.Accepted.{IsAccepted, accepted, all_none, when_none}
use Rattle.ipc_stream.specs.Meaning.{Known, known_first, with_dictionary, with_rows}
use Rattle.ipc_stream.specs.Progress.{HasDictionaries}

-- ---- what `arrays` says

pub record ColumnLaws : Type 0 where
  pub values : (s : RawSchema) → list_any is_bad (every_field s) ≡ false → list_any is_dictionary_of_nested (every_field s) ≡ false
      → dictionary_values (columns_of (plain_schema_of s).columns) ≡ map (λ c. c.values) (dictionary_columns s)
  pub one_type : (s : RawSchema) → list_any is_bad (every_field s) ≡ false → list_any is_dictionary_of_nested (every_field s) ≡ false
      → has_two_types (every_field s) ≡ false → HaveOneType (dictionary_columns s)

-- of a dictionary batch
pub record BatchLaws : Type 0 where
  pub readable : (columns : List DictionaryColumn) (before : List DictionaryBatch) (d : RawDictionaryBatch) (body : List ℕ) (b : DictionaryBatch)
      → dictionary_read columns before d body ≡ Ok b → is_readable_batch columns b ≡ true
  pub bytes : (columns : List DictionaryColumn) (before : List DictionaryBatch) (d : RawDictionaryBatch) (body : List ℕ) (b : DictionaryBatch)
      → are_bytes body ≡ true → dictionary_read columns before d body ≡ Ok b → has_bytes b.array ≡ true

abbrev pub AllReadable : Type 0
AllReadable =
    (columns : List DictionaryColumn) (batches : List DictionaryBatch) → HaveOneType columns → list_all (is_readable_batch columns) batches ≡ true
    → are_readable (map (λ c. c.values) columns) (dictionaries_after batches columns) ≡ true

abbrev pub AllHaveBytes : Type 0
AllHaveBytes =
    (columns : List DictionaryColumn) (batches : List DictionaryBatch) → list_all (λ b. has_bytes b.array) batches ≡ true
    → list_all (list_all has_bytes) (dictionaries_after batches columns) ≡ true

-- ---- after the schema

one_type_each : (supported : ℕ → Bool) (s : RawSchema) → first_some (schema_checks supported s) ≡ None → has_two_types (every_field s) ≡ false
unfolding schema_checks
one_type_each supported s h = when_none _ DictionaryId (all_none (schema_checks supported s) h).1.1.1.1.1.0

pub first_dictionaries : ColumnLaws → (supported : ℕ → Bool) (s : RawSchema) → first_some (schema_checks supported s) ≡ None → HasDictionaries (known_first s)
first_dictionaries laws supported s h =
    let a : IsAccepted s = accepted supported s h in
    record { values = laws.values s a.decoded a.flat; one_type = laws.one_type s a.decoded a.flat (one_type_each supported s h); readable = refl; bytes = refl }

-- ---- after one batch more

pub dictionaries_stay : (k : Known) (rows : List (List Cell)) → HasDictionaries k → HasDictionaries (with_rows k rows)
dictionaries_stay k rows is = record { values = is.values; one_type = is.one_type; readable = is.readable; bytes = is.bytes }

pub dictionaries_more : BatchLaws → (k : Known) (d : RawDictionaryBatch) (body : List ℕ) (b : DictionaryBatch) → are_bytes body ≡ true
    → dictionary_read k.columns k.dictionaries d body ≡ Ok b → HasDictionaries k → HasDictionaries (with_dictionary k b)
dictionaries_more laws k d body b small read is =
    let readable = laws.readable k.columns k.dictionaries d body b read in
    let bytes = laws.bytes k.columns k.dictionaries d body b small read in
    record {
      values = is.values;
      one_type = is.one_type;
      readable = list_all-append (is_readable_batch k.columns) k.dictionaries (b ∷ []) ∙ rw (is.readable, readable) refl;
      bytes = list_all-append (λ (x : DictionaryBatch). has_bytes x.array) k.dictionaries (b ∷ []) ∙ rw (is.bytes, bytes) refl;
    }

-- ---- what a record batch takes

pub taken_readable : AllReadable → (k : Known) → HasDictionaries k → are_readable (dictionary_values (columns_of k.schema.columns)) (dictionaries_after k.dictionaries k.columns) ≡ true
taken_readable law k is = ap (λ (values : List Column). are_readable values (dictionaries_after k.dictionaries k.columns)) is.values ∙ law k.columns k.dictionaries is.one_type is.readable

pub taken_bytes : AllHaveBytes → (k : Known) → HasDictionaries k → list_all (list_all has_bytes) (dictionaries_after k.dictionaries k.columns) ≡ true
taken_bytes law k is = law k.columns k.dictionaries is.bytes
