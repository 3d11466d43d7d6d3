-- What is known after a dictionary batch.
use Rattle.std.proofs.Common.{◌≡◌, ℕ, true, List, [], ◌∷◌, ◌++◌, length, Ok, Result, ap, sym, subst, ◌∙◌, arith}
use Rattle.std.proofs.lemmas.List.{append-nil}
use Rattle.arrow_schema.specs.Column.{Columns, columns_of}
use Rattle.arrow_schema.specs.View.{schema_of}
use Rattle.columns.specs.declared.array.Dictionary.{Dictionary}
use Rattle.columns.specs.declared.array.PlacedArray.{PlacedArray}
use Rattle.dictionary.specs.InEffect.{DictionaryBatch}
use Rattle.dictionary.specs.Kept.{HasInEffect, KeepsParts, are_kept_within, lists_of}
use Rattle.arrays.specs.Bytes.{are_bytes}
use Rattle.arrays.specs.Dictionaries.{dictionary_read}
use Rattle.arrays.specs.DictionaryColumns.{dictionary_columns_of}
use Rattle.ipc_message.specs.declared.fault.Fault.{Fault}
use Rattle.ipc_message.specs.Raw.{RawDictionaryBatch, dictionary_header}
use Rattle.values.specs.declared.table_part.Batch.{Batch}
use Rattle.ipc_stream.specs.declared.front.Front.{Front}
use Rattle.ipc_stream.specs.Meaning.{Known, with_dictionary, read_after, ◌>>=◌}
use Rattle.ipc_stream.specs.Progress.{IsFront, GivesFront, placed_rows, are_batches_sound, are_batches_within}
use Rattle.ipc_stream.proofs.Dictionaries.{BatchLaws, dictionaries_more}
use Rattle.ipc_stream.proofs.Grown.{batches_end, batches_stay_sound, batches_keep_rows}

-- the front with one dictionary batch more
pub record HasDictionary (bytes : List ℕ) (f next : Front) (k : Known) (b : DictionaryBatch) : Type 0 where
  pub schema : next.schema ≡ f.schema
  pub columns : next.columns ≡ f.columns
  pub batches : next.batches ≡ f.batches
  pub weight : next.weight ≡ f.weight
  pub effect : HasInEffect bytes next.dictionaries (k.dictionaries ++ b ∷ [])
  pub keeps : KeepsParts f.dictionaries.lists next.dictionaries.lists
  pub kept : are_kept_within (length bytes) next.dictionaries ≡ true

front_grown : BatchLaws → (bytes : List ℕ) (f next : Front) (k : Known) (d : RawDictionaryBatch) (body : List ℕ) (b : DictionaryBatch) (lists : List Dictionary) → IsFront bytes f k
    → are_bytes body ≡ true → dictionary_read k.columns k.dictionaries d body ≡ Ok b → lists_of lists ≡ f.dictionaries.lists → HasDictionary bytes f next k b
    → IsFront bytes next (with_dictionary k b)
front_grown laws bytes f next k d body b old is small read there has =
    let columns : Columns = columns_of k.schema.columns in
    let batches : List Batch = f.batches.items in
    let keeps = λ (new : List Dictionary) (e : lists_of new ≡ next.dictionaries.lists).
    subst (λ (x : List (List PlacedArray)). KeepsParts x (lists_of new)) (sym there) (subst (KeepsParts f.dictionaries.lists) (sym e) has.keeps) in
    record {
      schema = ap schema_of has.schema ∙ is.schema;
      columns = ap dictionary_columns_of has.columns ∙ is.columns;
      dictionaries = dictionaries_more laws k d body b small read is.dictionaries;
      effect = has.effect;
      kept = has.kept;
      within = λ new e. ap (λ x. are_batches_within (length bytes) new x.items) has.batches ∙ batches_end (length bytes) (length bytes) old new batches (omega arith) (keeps new e) (is.within old there);
      sound = λ new e.
          ap (λ x. are_batches_sound columns bytes new x.items) has.batches
          ∙ ap (λ x. are_batches_sound columns x new batches) (sym (append-nil bytes)) ∙ batches_stay_sound columns bytes [] old new batches (keeps new e) (is.within old there) ∙ is.sound old there;
      rows = λ new e.
          ap (λ x. placed_rows columns bytes new x.items) has.batches
          ∙ ap (λ x. placed_rows columns x new batches) (sym (append-nil bytes)) ∙ batches_keep_rows columns bytes [] old new batches (keeps new e) (is.within old there) ∙ is.rows old there;
      weight = has.weight ∙ is.weight;
      table = is.table;
    }

pub dictionary_added : BatchLaws → (bytes : List ℕ) (f next : Front) (k : Known) (d : RawDictionaryBatch) (body : List ℕ) (b : DictionaryBatch) (lists : List Dictionary) → IsFront bytes f k
    → are_bytes body ≡ true → dictionary_read k.columns k.dictionaries d body ≡ Ok b → lists_of lists ≡ f.dictionaries.lists → HasDictionary bytes f next k b
    → GivesFront bytes (Ok next) (read_after k body (dictionary_header d))
dictionary_added laws bytes f next k d body b lists is small read there has =
    (with_dictionary k b, ap (λ (r : Result DictionaryBatch Fault). r >>= λ b. Ok (with_dictionary k b)) read, front_grown laws bytes f next k d body b lists is small read there has)
