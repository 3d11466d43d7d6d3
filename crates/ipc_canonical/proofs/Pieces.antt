-- The pieces of a table are read one after another, and make the table.
use Rattle.std.specs.Prelude.{Some, None, nat_le, sum_by}
use Rattle.std.specs.List.{AllByRecursion, flat_map, range_with_len}
use Rattle.std.proofs.Common.{◌≡◌, ◌≤◌, ◌+◌, ℕ, List, [], ◌∷◌, ◌++◌, map, length, Ok, refl, sym, ap, subst, ◌∙◌, arith, append_assoc}
use Rattle.std.proofs.lemmas.Bool.{and_parts, leb-true}
use Rattle.std.proofs.lemmas.List.{append-nil, length-map}
use Rattle.std.proofs.lemmas.List.Sums.{sum_by-append}
use Rattle.facts.specs.laws.Checks.{unless_passed}
use Rattle.arrow_schema.specs.Column.{PlainSchema, columns_of}
use Rattle.arrow_schema.specs.Limits.{IsWithinLimits}
use Rattle.cells.specs.Cell.{Cell, PlainTable}
use Rattle.cells.specs.Dictionary.{dictionaries_fit}
use Rattle.cells.specs.Weight.{row_weight, table_weight}
use Rattle.columns.specs.Array.{Array}
use Rattle.columns.specs.Buffers.{buffers_of}
use Rattle.columns.specs.Built.{built_parts}
use Rattle.columns.specs.Tests.{Typed}
use Rattle.arrays.specs.Checks.{batch_read}
use Rattle.dictionary.specs.InEffect.{DictionaryBatch}
use Rattle.arrays.specs.Dictionaries.{dictionary_columns, dictionaries_after}
use Rattle.ipc_message.specs.Checks.{checked_schema, schema_checks}
use Rattle.ipc_message.specs.Convert.{plain_schema_of}
use Rattle.ipc_message.specs.Framing.{Envelope, first_some}
use Rattle.ipc_message.specs.Header.{supported_codes}
use Rattle.ipc_message.specs.Raw.{RawNode}
use Rattle.ipc_message.specs.laws.Accepted.{accepted}
use Rattle.table_cut.specs.Cut.{within_limits}
use Rattle.table_cut.specs.CutRows.{joined}
use Rattle.ipc_write.specs.Decoded.{raw_schema}
use Rattle.ipc_write.specs.Written.{schema_message, schema_envelope, batch_message, batch_envelope, end_of_stream}
use Rattle.table_cut.specs.Piece.{pieces_of, within_piece}
use Rattle.values.specs.Table.{IsTable}
use Rattle.values.specs.PlainTables.{plain_table}
use Rattle.ipc_canonical.specs.WrittenBatch.{raw_nodes, written_batch, written_body, IsWritable}
use Rattle.ipc_canonical.specs.Numbered.{replacing}
use Rattle.ipc_canonical.specs.Canonical.{canonical, piece_messages, entries_messages}
use Rattle.ipc_canonical.specs.Pieces.{IsPieceOf}
use Rattle.ipc_stream.specs.Meaning.{Known, known_first, read_next, meaning}
use Rattle.table_cut.specs.laws.Joined.{pieces_joined}
use Rattle.ipc_canonical.proofs.Entries.{known_with, arrays_in, all_entries_read, dictionaries_for, ids_counted, dictionaries_numbered}
use Rattle.ipc_canonical.proofs.LawsBelow.{SchemaLaw, DictionaryLaw, BatchLaw, EntriesLaw, RowsLaw}
use Rattle.ipc_canonical.proofs.Messages.{Reads, Stands, message_reads, nothing_reads, both_read, whole_means}

-- ---- the schema

schema_passes : (s : PlainSchema) → checked_schema supported_codes (raw_schema s) ≡ Ok s → first_some (schema_checks supported_codes (raw_schema s)) ≡ None
unfolding checked_schema
schema_passes s h = (unless_passed _ (Ok (plain_schema_of (raw_schema s))) s h).0

-- no check of a reader finds anything
abbrev Passes : PlainSchema → Type 0
Passes s = first_some (schema_checks supported_codes (raw_schema s)) ≡ None

first_known : SchemaLaw → (s : PlainSchema) → IsWithinLimits s → known_first (raw_schema s) ≡ known_with s [] []
first_known law s within = ap (λ (r : PlainSchema). record { schema = r; columns = dictionary_columns (raw_schema s); dictionaries = []; rows = [] }) (law.again s within)

schema_is_first : SchemaLaw → (s : PlainSchema) → IsWithinLimits s → Passes s → read_next supported_codes None (schema_envelope s) ≡ Ok (known_first (raw_schema s))
unfolding read_next
schema_is_first law s within passes = rw (law.kind s within, law.decoded s within, passes) refl

schema_reads : SchemaLaw → (s : PlainSchema) → IsWithinLimits s → Passes s → Reads supported_codes None (known_with s [] []) (schema_message s)
schema_reads law s within passes =
    let stands : Stands (schema_message s) (schema_envelope s) = record { found = λ rest. law.found s rest within; after = law.after s } in
    message_reads supported_codes None (known_with s [] []) (schema_message s) (schema_envelope s) stands (schema_is_first law s within passes ∙ ap Ok (first_known law s within))

-- ---- a piece

abbrev nodes_for : PlainSchema → List (List Cell) → List RawNode
nodes_for s rows = raw_nodes (columns_of s.columns) (built_parts (columns_of s.columns) rows)

abbrev buffers_for : PlainSchema → List (List Cell) → List (List ℕ)
buffers_for s rows = buffers_of (columns_of s.columns) (built_parts (columns_of s.columns) rows)

abbrev piece_envelope : PlainSchema → List (List Cell) → Envelope
piece_envelope s rows = batch_envelope (length rows) (nodes_for s rows) (buffers_for s rows)

-- what replaces its dictionaries
abbrev batches_for : PlainSchema → List (List Cell) → List DictionaryBatch
batches_for s rows = replacing 0 (arrays_in (dictionaries_for s rows))

piece_writable : RowsLaw → (s : PlainSchema) (rows : List (List Cell)) → IsPieceOf s rows → IsWritable (columns_of s.columns) rows
piece_writable law s rows piece =
    let limits = (and_parts (within_limits (row_weight s) 4096 16777216 rows) (dictionaries_fit s rows) piece.within).0 in
    let both = and_parts (nat_le (length rows) 4096) (nat_le (sum_by (row_weight s) rows) 16777216) limits in
    let few : length rows ≤ 4096 = leb-true (length rows) 4096 both.0 in
    let light : table_weight s rows ≤ 16777216 = leb-true (sum_by (row_weight s) rows) 16777216 both.1 in
    let cells = law.weight s rows in
    record { can = piece.built; few_columns = piece.table.schema.fields; few_rows = omega (arith, few); weighs = omega (arith, light, cells) }

-- each dictionary in effect is one array
each_alone : (ts : List Typed) → map (λ a. a ∷ []) (arrays_in ts) ≡ map (λ t. t.array ∷ []) ts
each_alone [] = refl
each_alone (t ∷ ts) = ap (λ (rest : List (List Array)). (t.array ∷ []) ∷ rest) (each_alone ts)

-- whatever stood before, the dictionaries of a piece are in effect after its dictionary batches
in_effect_after : SchemaLaw → EntriesLaw → (s : PlainSchema) (batches : List DictionaryBatch) (rows : List (List Cell)) → IsWithinLimits s → Passes s
    → dictionaries_after (batches ++ batches_for s rows) (dictionary_columns (raw_schema s)) ≡ map (λ t. t.array ∷ []) (dictionaries_for s rows)
in_effect_after schema entries s batches rows within passes =
    let ts : List Typed = dictionaries_for s rows in
    let ids = ids_counted schema entries s rows within (accepted supported_codes (raw_schema s) passes) in
    let count : length ts ≡ length (arrays_in ts) = sym (length-map ts (λ (t : Typed). t.array)) in
    entries.effect (dictionary_columns (raw_schema s)) batches (arrays_in ts) (ids ∙ ap (range_with_len 0) count) ∙ each_alone ts

-- its arrays are read, after rows with which it is a table
arrays_read : RowsLaw → (s : PlainSchema) (before rows : List (List Cell)) → IsPieceOf s rows → IsTable (plain_table s (before ++ rows))
    → batch_read s (table_weight s before) (written_batch (columns_of s.columns) (built_parts (columns_of s.columns) rows) (length rows)) (written_body (columns_of s.columns) (built_parts (columns_of s.columns) rows))
    (map (λ t. t.array ∷ []) (dictionaries_for s rows)) ≡ Ok (built_parts (columns_of s.columns) rows)
arrays_read law s before rows piece table =
    let sum : table_weight s (before ++ rows) ≡ table_weight s before + table_weight s rows = sum_by-append (row_weight s) before rows in
    let light : table_weight s before + table_weight s rows ≤ 268435456 = let w = table.weight in omega (arith, sum, w) in
    law.read s (table_weight s before) rows (piece_writable law s rows piece) piece.table.rows light

-- the laws of lower crates, gathered
pub record Laws : Type 0 where
  pub schema : SchemaLaw
  pub dictionary : DictionaryLaw
  pub batch : BatchLaw
  pub entries : EntriesLaw
  pub rows : RowsLaw

batch_is_next : Laws → (s : PlainSchema) (batches : List DictionaryBatch) (before rows : List (List Cell)) → Passes s → IsPieceOf s rows → IsTable (plain_table s (before ++ rows))
    → read_next supported_codes (Some (known_with s (batches ++ batches_for s rows) before)) (piece_envelope s rows) ≡ Ok (known_with s (batches ++ batches_for s rows) (before ++ rows))
unfolding read_next
batch_is_next law s batches before rows passes piece table =
    let small = law.rows.writable (columns_of s.columns) rows (piece_writable law.rows s rows piece) in
    let back = law.rows.back (columns_of s.columns) rows piece.built in
    rw (
      law.batch.kind (length rows) (nodes_for s rows) (buffers_for s rows) small,
      law.batch.decoded (length rows) (nodes_for s rows) (buffers_for s rows) small,
      in_effect_after law.schema law.entries s batches rows piece.table.schema passes,
      arrays_read law.rows s before rows piece table,
    ) (ap (λ (new : List (List Cell)). Ok (known_with s (batches ++ batches_for s rows) (before ++ new))) back)

batch_reads : Laws → (s : PlainSchema) (batches : List DictionaryBatch) (before rows : List (List Cell)) → Passes s → IsPieceOf s rows → IsTable (plain_table s (before ++ rows))
    → Reads supported_codes (Some (known_with s (batches ++ batches_for s rows) before)) (known_with s (batches ++ batches_for s rows) (before ++ rows))
    (batch_message (length rows) (nodes_for s rows) (buffers_for s rows))
batch_reads law s batches before rows passes piece table =
    let small = law.rows.writable (columns_of s.columns) rows (piece_writable law.rows s rows piece) in
    let now : List DictionaryBatch = batches ++ batches_for s rows in
    let stands : Stands (batch_message (length rows) (nodes_for s rows) (buffers_for s rows)) (piece_envelope s rows) = record {
      found = λ rest. law.batch.found (length rows) (nodes_for s rows) (buffers_for s rows) rest small;
      after = law.batch.after (length rows) (nodes_for s rows) (buffers_for s rows);
    } in
    message_reads supported_codes (Some (known_with s now before)) (known_with s now (before ++ rows)) (batch_message (length rows) (nodes_for s rows) (buffers_for s rows)) (piece_envelope s rows) stands
    (batch_is_next law s batches before rows passes piece table)

piece_reads : Laws → (s : PlainSchema) (batches : List DictionaryBatch) (before rows : List (List Cell)) → Passes s → IsPieceOf s rows → IsTable (plain_table s (before ++ rows))
    → Reads supported_codes (Some (known_with s batches before)) (known_with s (batches ++ batches_for s rows) (before ++ rows)) (piece_messages s rows)
unfolding piece_messages
piece_reads law s batches before rows passes piece table =
    let ts : List Typed = dictionaries_for s rows in
    let now : List DictionaryBatch = batches ++ batches_for s rows in
    let numbered = dictionaries_numbered law.schema law.entries s rows piece.table.schema (accepted supported_codes (raw_schema s) passes) (piece_writable law.rows s rows piece) in
    both_read supported_codes (Some (known_with s batches before)) (known_with s now before) (known_with s now (before ++ rows)) (entries_messages 0 ts) (batch_message (length rows) (nodes_for s rows) (buffers_for s rows))
    (all_entries_read law.dictionary law.entries s batches before 0 ts numbered)
    (batch_reads law s batches before rows passes piece table)

-- ---- all pieces, and the table

-- the dictionary batches so far, and those of more pieces
abbrev batches_after : PlainSchema → List DictionaryBatch → List (List (List Cell)) → List DictionaryBatch
batches_after s batches [] = batches
batches_after s batches (p ∷ ps) = batches_after s (batches ++ batches_for s p) ps

pieces_read : Laws → (s : PlainSchema) (batches : List DictionaryBatch) (before : List (List Cell)) (ps : List (List (List Cell))) → Passes s → AllByRecursion (IsPieceOf s) ps
    → IsTable (plain_table s (before ++ joined ps)) → Reads supported_codes (Some (known_with s batches before)) (known_with s (batches_after s batches ps) (before ++ joined ps)) (flat_map (piece_messages s) ps)
pieces_read law s batches before [] passes each table =
    subst (λ (rows : List (List Cell)). Reads supported_codes (Some (known_with s batches before)) (known_with s batches rows) []) (sym (append-nil before)) (nothing_reads supported_codes (known_with s batches before))
pieces_read law s batches before (p ∷ ps) passes each table =
    let same : (before ++ p) ++ joined ps ≡ before ++ (p ++ joined ps) = append_assoc before p (joined ps) in
    let whole : IsTable (plain_table s ((before ++ p) ++ joined ps)) = subst (λ (rows : List (List Cell)). IsTable (plain_table s rows)) (sym same) table in
    let now : List DictionaryBatch = batches ++ batches_for s p in
    let last : List DictionaryBatch = batches_after s now ps in
    let first = piece_reads law s batches before p passes each.0 (law.rows.cut s (before ++ p) (joined ps) whole).0 in
    let others = pieces_read law s now (before ++ p) ps passes each.1 whole in
    subst (λ (rows : List (List Cell)). Reads supported_codes (Some (known_with s batches before)) (known_with s last rows) (piece_messages s p ++ flat_map (piece_messages s) ps)) same
    (both_read supported_codes (Some (known_with s batches before)) (known_with s now (before ++ p)) (known_with s last ((before ++ p) ++ joined ps)) (piece_messages s p) (flat_map (piece_messages s) ps) first others)

-- pieces one after another, however they were cut, mean their rows
pub pieces_mean : Laws → (s : PlainSchema) (ps : List (List (List Cell))) → AllByRecursion (IsPieceOf s) ps → IsTable (plain_table s (joined ps))
    → meaning supported_codes (schema_message s ++ (flat_map (piece_messages s) ps ++ end_of_stream)) ≡ Ok (plain_table s (joined ps))
pieces_mean law s ps each table =
    let passes : Passes s = schema_passes s (law.schema.checked s table.schema) in
    let pieces : List ℕ = flat_map (piece_messages s) ps in
    let last : Known = known_with s (batches_after s [] ps) (joined ps) in
    let all = both_read supported_codes None (known_with s [] []) last (schema_message s) pieces (schema_reads law.schema s table.schema passes) (pieces_read law s [] [] ps passes each table) in
    ap (meaning supported_codes) (sym (append_assoc (schema_message s) pieces end_of_stream))
    ∙ whole_means supported_codes (schema_message s ++ pieces) last all
