-- The batches of a whole stream as one part of a table, and what the stream means then.
use Rattle.std.proofs.Common.{◌≡◌, ℕ, suc, true, List, [], ◌∷◌, length, Ok, Result, refl, sym, ap, ◌∙◌, subst}
use Rattle.std.specs.Prelude.{None}
use Rattle.std.proofs.lemmas.Bool.{and_from}
use Rattle.std.proofs.lemmas.List.{append-nil}
use Rattle.arrow_schema.specs.Column.{PlainSchema, Columns, columns_of}
use Rattle.arrow_schema.specs.View.{schema_of}
use Rattle.cells.specs.Cell.{PlainTable}
use Rattle.dictionary.specs.Kept.{lists_of}
use Rattle.ipc_message.specs.declared.error.ImportError.{ImportError}
use Rattle.ipc_message.specs.declared.error.ImportError.TheVariants as errors
use Rattle.ipc_message.specs.declared.fault.Fault.{Fault}
use Rattle.ipc_message.specs.Header.{supported_codes}
use Rattle.ipc_message.specs.Outcome.{Fails}
use Rattle.values.specs.declared.table_part.TablePart.{TablePart}
use Rattle.values.specs.Parts.{are_parts_sound, part_rows, parts_rows, parts_table}
use Rattle.values.specs.Table.{IsTable}
use Rattle.ipc_stream.specs.declared.front.Front.{Front}
use Rattle.ipc_stream.specs.Meaning.{Known, known_table, read_from, meaning, ◌>>=◌}
use Rattle.ipc_stream.specs.Progress.{IsFront, placed_rows, are_batches_sound}

-- a part that keeps the bytes, the dictionaries and the batches of what is known
pub record IsPartOf (f : Front) (p : TablePart) : Type 0 where
  pub lists : lists_of p.dictionaries.items ≡ f.dictionaries.lists
  pub batches : p.batches.items ≡ f.batches.items

pub sound_part : (f : Front) (k : Known) (p : TablePart) (parts : List TablePart) → parts ≡ p ∷ [] → IsFront p.bytes.items f k → IsPartOf f p → are_parts_sound (columns_of (schema_of f.schema).columns) parts ≡ true
sound_part f k p parts one is of =
    let sound : are_batches_sound (columns_of k.schema.columns) p.bytes.items p.dictionaries.items p.batches.items ≡ true =
    ap (are_batches_sound (columns_of k.schema.columns) p.bytes.items p.dictionaries.items) of.batches ∙ is.sound p.dictionaries.items of.lists in
    ap (are_parts_sound (columns_of (schema_of f.schema).columns)) one
    ∙ and_from _ true (ap (λ (s : PlainSchema). are_batches_sound (columns_of s.columns) p.bytes.items p.dictionaries.items p.batches.items) is.schema ∙ sound) refl

pub part_table : (f : Front) (k : Known) (p : TablePart) (parts : List TablePart) → parts ≡ p ∷ [] → IsFront p.bytes.items f k → IsPartOf f p → parts_table (schema_of f.schema) parts ≡ known_table k
part_table f k p parts one is of =
    let columns : Columns = columns_of k.schema.columns in
    let rows : parts_rows columns (p ∷ []) ≡ k.rows =
    append-nil (part_rows columns p) ∙ ap (placed_rows columns p.bytes.items p.dictionaries.items) of.batches ∙ is.rows p.dictionaries.items of.lists in
    (λ j. parts_table (is.schema j) (one j)) ∙ (λ j. record { schema = k.schema; rows = rows j })

pub part_is_table : (f : Front) (k : Known) (p : TablePart) (parts : List TablePart) → parts ≡ p ∷ [] → IsFront p.bytes.items f k → IsPartOf f p → IsTable (parts_table (schema_of f.schema) parts)
part_is_table f k p parts one is of = subst IsTable (sym (part_table f k p parts one is of)) is.table

-- ---- what the stream means

pub meaning_given : (bytes : List ℕ) (k : Known) (t : PlainTable) → read_from supported_codes (suc (length bytes)) None bytes ≡ Ok k → t ≡ known_table k → meaning supported_codes bytes ≡ Ok t
unfolding meaning
meaning_given bytes k t e same = ap (λ (r : Result Known Fault). r >>= λ k. Ok (known_table k)) e ∙ ap Ok (sym same)

pub meaning_refused : (bytes : List ℕ) (e : ImportError) → Fails e (read_from supported_codes (suc (length bytes)) None bytes) → Fails e (meaning supported_codes bytes)
unfolding meaning
meaning_refused bytes errors.OutOfMemory h = tt
meaning_refused bytes (errors.Fault fault) h = ap (λ (r : Result Known Fault). r >>= λ k. Ok (known_table k)) h
