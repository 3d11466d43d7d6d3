-- Rows that a stream brings: what the tests of them make of it, one after another.
use Rattle.std.specs.Prelude.{◌⊎◌}
use Rattle.std.proofs.Common.{◌≡◌, ℕ, List, Option, Some, None, Ok, Err, inl, inr, refl, ap, ◌∙◌}
use Rattle.facts.specs.Checks.{unless}
use Rattle.cells.specs.Cell.{PlainTable}
use Rattle.ipc_message.specs.Header.{supported_codes}
use Rattle.ipc_message.specs.Outcome.{Fails}
use Rattle.ipc_message.specs.declared.error.ImportError.{ImportError}
use Rattle.ipc_message.specs.declared.error.ImportError.TheVariants as errors
use Rattle.ipc_stream.specs.Meaning.{meaning}
use Rattle.catalogue.specs.Entries.{PlainEntry}
use Rattle.tables.specs.Refusals.{import_refusal}
use Rattle.tables.specs.Verdict.{of_meaning, too_many_bytes, other_shape, unfit_row}
use Rattle.tables.specs.declared.refusal.Refusal.{Refusal}
use Rattle.tables.specs.declared.refusal.Refusal.TheVariants as refusals
use Rattle.store_runs.specs.Deciding.{given_rows, rows_of_table, streamed_rows}

module _ (bytes : List ℕ) (e : PlainEntry) where
  pub stream_long : (r : Refusal) → too_many_bytes bytes ≡ Some r → streamed_rows bytes e ≡ Err r
  stream_long r long = ap (λ (o : Option Refusal). unless o (of_meaning (meaning supported_codes bytes) (rows_of_table e))) long

  pub stream_faulty : (error : ImportError) → too_many_bytes bytes ≡ None → Fails error (meaning supported_codes bytes)
      → (import_refusal error ≡ refusals.OutOfMemory) ⊎ (streamed_rows bytes e ≡ Err (import_refusal error))
  stream_faulty errors.OutOfMemory few fails = inl refl
  stream_faulty (errors.Fault fault) few fails = inr (λ i. unless (few i) (of_meaning (fails i) (rows_of_table e)))

  module _ (t : PlainTable) (few : too_many_bytes bytes ≡ None) (means : meaning supported_codes bytes ≡ Ok t) where
    pub stream_shaped : (r : Refusal) → other_shape e.schema t.schema ≡ Some r → streamed_rows bytes e ≡ Err r
    stream_shaped r other = (λ i. unless (few i) (of_meaning (means i) (rows_of_table e))) ∙ ap (λ (o : Option Refusal). unless o (given_rows t.rows e)) other

    module _ (shaped : other_shape e.schema t.schema ≡ None) where
      pub stream_unfit : (r : Refusal) → unfit_row e.schema t.rows ≡ Some r → streamed_rows bytes e ≡ Err r
      stream_unfit r unfit =
          (λ i. unless (few i) (of_meaning (means i) (rows_of_table e))) ∙ (λ i. unless (shaped i) (unless (unfit i) (Ok (record { entry = e; rows = t.rows }))))

      pub stream_fits : unfit_row e.schema t.rows ≡ None → streamed_rows bytes e ≡ Ok (record { entry = e; rows = t.rows })
      stream_fits fit =
          (λ i. unless (few i) (of_meaning (means i) (rows_of_table e))) ∙ (λ i. unless (shaped i) (unless (fit i) (Ok (record { entry = e; rows = t.rows }))))
