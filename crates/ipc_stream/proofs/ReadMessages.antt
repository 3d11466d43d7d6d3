-- A message that is read, in the words of the format.
use Rattle.std.proofs.Common.{◌≡◌, ℕ, Bool, List, [], ◌∷◌, Result, Ok, refl, sym, ap, ◌∙◌, arith}
use Rattle.std.specs.Prelude.{Option, Some, None}
use Rattle.std.proofs.lemmas.List.FromFn.{length-map-range_with_len, get_or-map-range_with_len, fill_by_all}
use Rattle.ipc_stream.specs.laws.First.{bound}
use Rattle.facts.specs.laws.Checks.{unless_passed}
use Rattle.arrow_schema.specs.Column.{columns_of}
use Rattle.cells.specs.Cell.{Cell}
use Rattle.columns.specs.Array.{Arrays}
use Rattle.columns.specs.CellAt.{row_at, rows_in}
use Rattle.arrays.specs.Dictionaries.{dictionary_read}
use Rattle.ipc_message.specs.declared.fault.Fault.{Fault}
use Rattle.ipc_message.specs.Checks.{schema_checks, checked_schema}
use Rattle.ipc_message.specs.Convert.{plain_schema_of}
use Rattle.ipc_message.specs.Framing.{Envelope, first_some, unless, type_of}
use Rattle.ipc_message.specs.Header.{header}
use Rattle.ipc_message.specs.Raw.{RawSchema, RawBatch, RawHeader, schema_header, dictionary_header, batch_header}
use Rattle.ipc_stream.specs.FramedTable.{AreRowsOf, IsBatch, of_dictionary, of_rows, IsRead, AreRead, IsSchema}
use Rattle.ipc_stream.specs.Meaning.{Known, known_first, with_dictionary, with_rows, order_fault, read_header, read_next, ◌>>=◌}
use Rattle.ipc_stream.specs.Progress.{known_batch}
use Rattle.ipc_stream.proofs.Firsts.{reported_ok}
use Rattle.ipc_stream.proofs.Messages.{schema_number, batch_number}

-- ---- the rows of a record batch

rows_of : (k : Known) (b : RawBatch) (body : List ℕ) (arrays : Arrays) → known_batch k b body ≡ Ok arrays → AreRowsOf k b body (rows_in (columns_of k.schema.columns) arrays b.length)
rows_of k b body arrays read =
    let row : ℕ → List Cell = row_at (columns_of k.schema.columns) arrays in
    record {
      arrays = arrays;
      read = read;
      count = length-map-range_with_len row 0 b.length;
      each = λ j below. get_or-map-range_with_len row 0 b.length j j [] below (omega arith);
    }

rows_are : (k : Known) (b : RawBatch) (body : List ℕ) (rows : List (List Cell)) (are : AreRowsOf k b body rows) → rows ≡ rows_in (columns_of k.schema.columns) are.arrays b.length
rows_are k b body rows are = fill_by_all (row_at (columns_of k.schema.columns) are.arrays) rows b.length [] are.count are.each

-- ---- what is read

abbrev right : Known → Result Known Fault
right k = Ok k

given : (x y : Known) → right x ≡ Ok y → y ≡ x
given x y h = cc

schema_of : (supported : ℕ → Bool) (m : Envelope) (s : RawSchema) (after : Known) → header supported m.metadata ≡ Ok (schema_header s)
    → unless (first_some (schema_checks supported s)) (Ok (known_first s)) ≡ Ok after → IsRead supported None m after
unfolding checked_schema
schema_of supported m s after decoded e =
    let passed = reported_ok (first_some (schema_checks supported s)) (known_first s) after e in
    (s, record { decoded = decoded; checked = ap (λ (o : Option Fault). unless o (Ok (plain_schema_of s))) passed.0 }, sym passed.1)

header_read : (supported : ℕ → Bool) (before : Option Known) (m : Envelope) (h : RawHeader) (after : Known) → header supported m.metadata ≡ Ok h → read_header supported before m.body h ≡ Ok after
    → IsRead supported before m after
header_read supported None m (schema_header s) after decoded e = schema_of supported m s after decoded e
header_read supported None m (dictionary_header d) after decoded e = absurd cc
header_read supported None m (batch_header b) after decoded e = absurd cc
header_read supported (Some k) m (schema_header s) after decoded e = absurd cc
header_read supported (Some k) m (dictionary_header d) after decoded e =
    let found = bound (dictionary_read k.columns k.dictionaries d m.body) (λ b. Ok (with_dictionary k b)) after e in
    of_dictionary d found.0 decoded found.1 (given (with_dictionary k found.0) after found.2)
header_read supported (Some k) m (batch_header b) after decoded e =
    let rows = λ (arrays : Arrays). rows_in (columns_of k.schema.columns) arrays b.length in
    let found = bound (known_batch k b m.body) (λ arrays. Ok (with_rows k (rows arrays))) after e in
    of_rows b (rows found.0) decoded (rows_of k b m.body found.0 found.1) (given (with_rows k (rows found.0)) after found.2)

pub next_is_read : (supported : ℕ → Bool) (before : Option Known) (m : Envelope) (after : Known) → read_next supported before m ≡ Ok after → IsRead supported before m after
unfolding read_next
next_is_read supported before m after e =
    let passed = unless_passed (order_fault before (type_of m.metadata)) (header supported m.metadata >>= read_header supported before m.body) after e in
    let found = bound (header supported m.metadata) (read_header supported before m.body) after passed.1 in
    header_read supported before m found.0 after found.1 found.2

-- ---- the other way

schema_goes : (supported : ℕ → Bool) (m : Envelope) (s : RawSchema) → IsSchema supported m s → read_next supported None m ≡ Ok (known_first s)
unfolding read_next checked_schema
schema_goes supported m s is =
    let number = schema_number supported m.metadata s is.decoded in
    let decoded = is.decoded in
    let passed = (reported_ok (first_some (schema_checks supported s)) (plain_schema_of s) (plain_schema_of s) is.checked).0 in
    rw (number, decoded, passed) refl

batch_goes : (supported : ℕ → Bool) (k : Known) (m : Envelope) (after : Known) → IsBatch supported k m after → read_next supported (Some k) m ≡ Ok after
unfolding read_next
batch_goes supported k m after (of_dictionary d b decoded read is) =
    let number = batch_number supported m.metadata (dictionary_header d) decoded (λ e. cc e) in
    rw (number, decoded, read, is) refl
batch_goes supported k m after (of_rows b rows decoded are is) =
    let number = batch_number supported m.metadata (batch_header b) decoded (λ e. cc e) in
    let read = are.read in
    let same = rows_are k b m.body rows are in
    rw (number, decoded, read, is, same) refl

pub read_goes : (supported : ℕ → Bool) (before : Option Known) (m : Envelope) (after : Known) → IsRead supported before m after → read_next supported before m ≡ Ok after
read_goes supported None m after (s, is, first) = schema_goes supported m s is ∙ ap Ok (sym first)
read_goes supported (Some k) m after is = batch_goes supported k m after is

-- ---- the schema stays

batch_keeps : (supported : ℕ → Bool) (k : Known) (m : Envelope) (after : Known) → IsBatch supported k m after → after.schema ≡ k.schema
batch_keeps supported k m after (of_dictionary d b decoded read is) = ap (λ (x : Known). x.schema) is
batch_keeps supported k m after (of_rows b rows decoded are is) = ap (λ (x : Known). x.schema) is

pub batches_keep : (supported : ℕ → Bool) (k : Known) (ms : List Envelope) (last : Known) → AreRead supported (Some k) ms (Some last) → last.schema ≡ k.schema
batches_keep supported k [] last are = let same : last ≡ k = cc are in ap (λ (x : Known). x.schema) same
batches_keep supported k (m ∷ ms) last are = batches_keep supported are.0 ms last are.2 ∙ batch_keeps supported k m are.0 are.1
