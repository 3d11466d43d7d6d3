-- What is known after the schema.
use Rattle.std.specs.Prelude.{Option, Some, None}
use Rattle.std.proofs.Common.{◌≡◌, ℕ, true, List, [], length, Ok, Err, refl, sym, ap, arith}
use Rattle.arrow_schema.specs.Column.{PlainSchema}
use Rattle.arrow_schema.specs.Limits.{IsWithinLimits}
use Rattle.arrow_schema.specs.View.{schema_of}
use Rattle.std.proofs.lemmas.List.Sums.{AllPass-from_list_all}
use Rattle.cells.specs.Row.{is_row}
use Rattle.dictionary.specs.Kept.{HasInEffect, are_kept_within}
use Rattle.arrays.specs.Dictionaries.{dictionary_columns}
use Rattle.arrays.specs.DictionaryColumns.{dictionary_columns_of}
use Rattle.ipc_message.specs.declared.error.ImportError.{ImportError}
use Rattle.ipc_message.specs.declared.error.ImportError.TheVariants as errors
use Rattle.ipc_message.specs.declared.fault.Fault.{Fault}
use Rattle.ipc_message.specs.Raw.{RawSchema, schema_header}
use Rattle.ipc_message.specs.Framing.{first_some, unless}
use Rattle.ipc_message.specs.Header.{supported_codes}
use Rattle.ipc_message.specs.laws.Accepted.{IsAccepted, accepted}
use Rattle.ipc_message.specs.Checks.{schema_checks, checked_schema}
use Rattle.ipc_message.specs.Convert.{plain_schema_of}
use Rattle.ipc_message.specs.Outcome.{Fails}
use Rattle.ipc_stream.specs.declared.front.Front.{Front}
use Rattle.ipc_stream.specs.Meaning.{known_first, read_header}
use Rattle.ipc_stream.specs.Progress.{IsFront, GivesFront}
use Rattle.ipc_stream.proofs.Dictionaries.{ColumnLaws, first_dictionaries}

pub reported_err : {A : Type 0} (o : Option Fault) (p : A) (fault : Fault) → unless o (Ok p) ≡ Err fault → o ≡ Some fault
reported_err None p fault h = absurd cc
reported_err (Some f) p fault h = cc

pub reported_ok : {A : Type 0} (o : Option Fault) (p q : A) → unless o (Ok p) ≡ Ok q → (o ≡ None) × (p ≡ q)
reported_ok None p q h = (refl, (cc))
reported_ok (Some f) p q h = absurd cc

pub is_accepted : (s : RawSchema) (p : PlainSchema) → checked_schema supported_codes s ≡ Ok p → IsAccepted s
unfolding checked_schema
is_accepted s p h = accepted supported_codes s (reported_ok (first_some (schema_checks supported_codes s)) (plain_schema_of s) p h).0

pub first_refused : (s : RawSchema) (body : List ℕ) (e : ImportError) → Fails e (checked_schema supported_codes s)
    → Fails e (read_header supported_codes None body (schema_header s))
unfolding checked_schema
first_refused s body errors.OutOfMemory h = tt
first_refused s body (errors.Fault fault) h =
    ap (λ (o : Option Fault). unless o (Ok (known_first s))) (reported_err (first_some (schema_checks supported_codes s)) (plain_schema_of s) fault h)

first_front : ColumnLaws → (bytes : List ℕ) (s : RawSchema) (f : Front) → first_some (schema_checks supported_codes s) ≡ None → schema_of f.schema ≡ plain_schema_of s
    → IsWithinLimits (schema_of f.schema) → dictionary_columns_of f.columns ≡ dictionary_columns s → HasInEffect bytes f.dictionaries [] → are_kept_within (length bytes) f.dictionaries ≡ true
    → f.batches.items ≡ [] → f.weight ≡ 0 → IsFront bytes f (known_first s)
first_front laws bytes s f passed schema limits columns effect kept none weight = record {
  schema = schema;
  columns = columns;
  dictionaries = first_dictionaries laws supported_codes s passed;
  effect = effect;
  kept = kept;
  within = λ lists e. rw none refl;
  sound = λ lists e. rw none refl;
  rows = λ lists e. rw none refl;
  weight = weight;
  table = record { schema = rw schema at limits; rows = AllPass-from_list_all (is_row (plain_schema_of s)) [] refl; weight = omega arith };
}

pub first_given : ColumnLaws → (bytes body : List ℕ) (s : RawSchema) (f : Front) → checked_schema supported_codes s ≡ Ok (schema_of f.schema) → IsWithinLimits (schema_of f.schema)
    → dictionary_columns_of f.columns ≡ dictionary_columns s → HasInEffect bytes f.dictionaries [] → are_kept_within (length bytes) f.dictionaries ≡ true → f.batches.items ≡ [] → f.weight ≡ 0
    → GivesFront bytes (Ok f) (read_header supported_codes None body (schema_header s))
unfolding checked_schema
first_given laws bytes body s f h limits columns effect kept none weight =
    let found = reported_ok (first_some (schema_checks supported_codes s)) (plain_schema_of s) (schema_of f.schema) h in
    (known_first s, ap (λ (o : Option Fault). unless o (Ok (known_first s))) found.0, first_front laws bytes s f found.0 (sym found.1) limits columns effect kept none weight)
