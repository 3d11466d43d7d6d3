use Rattle.std.specs.Prelude.{IfOk}
use Rattle.std.proofs.Common.{◌≡◌, List, length, ap, sym, subst, ◌∙◌}
use Rattle.arrow_schema.specs.Column.{PlainSchema, columns_of}
use Rattle.arrow_schema.specs.View.{schema_of}
use Rattle.cells.specs.Cell.{Cell}
use Rattle.columns.specs.View.{fields_of}
use Rattle.ipc_canonical.specs.PieceStreams.{piece_streams, piece_counts}
use Rattle.ipc_encode.specs.View.{streams_in}
use Rattle.ipc_encode.specs.declared.encoder.EncodedPieces.{EncodedPieces}
use Rattle.ipc_encode.specs.inner.Encoding.{encodings}
use Rattle.ipc_encode.proofs.Encoded.{rows_under_encoding, sound_alike}
use Rattle.values.specs.PlainTables.{plain_table}
use Rattle.values.specs.Table.{IsTable}
use Rattle.values.specs.TableView.{table_of}
use Rattle.ipc_encode.proofs.encoder.encode_pieces_behind.Goals as goal

pub encode_parts_pieces-requires-clause-table : goal.encode_parts_pieces-requires-clause-table
encode_parts_pieces-requires-clause-table c =
    let s = schema_of c.args.schema.now in
    let t = table_of c.args.table.now in
    let alike : encodings (columns_of s.columns) ≡ encodings (columns_of t.schema.columns) =
    (λ j. encodings (fields_of (sym c.deref.ensures.value j))) ∙ c.have_same_encodings.ensures c.if-have_same_encodings.true ∙ (λ j. encodings (fields_of (c.deref-in-Some.ensures.value j)))
    ∙ ap (λ (x : PlainSchema). encodings (columns_of x.columns)) c.schema.ensures.schema in
    let same = rows_under_encoding s t c.in-Some.parts.now alike c.in-Some.ensures.rows in
    subst (λ (rows : List (List Cell)). IsTable (plain_table s rows)) same c.requires.table

pub encode_parts_pieces-requires-clause-sound : goal.encode_parts_pieces-requires-clause-sound
encode_parts_pieces-requires-clause-sound c =
    let s = schema_of c.args.schema.now in
    let t = table_of c.args.table.now in
    let alike : encodings (columns_of s.columns) ≡ encodings (columns_of t.schema.columns) =
    (λ j. encodings (fields_of (sym c.deref.ensures.value j))) ∙ c.have_same_encodings.ensures c.if-have_same_encodings.true ∙ (λ j. encodings (fields_of (c.deref-in-Some.ensures.value j)))
    ∙ ap (λ (x : PlainSchema). encodings (columns_of x.columns)) c.schema.ensures.schema in
    sound_alike (columns_of s.columns) (columns_of t.schema.columns) c.in-Some.parts.now alike ∙ c.in-Some.ensures.sound

pub encode_parts_pieces-requires-clause-count : goal.encode_parts_pieces-requires-clause-count
encode_parts_pieces-requires-clause-count c =
    let s = schema_of c.args.schema.now in
    let t = table_of c.args.table.now in
    let alike : encodings (columns_of s.columns) ≡ encodings (columns_of t.schema.columns) =
    (λ j. encodings (fields_of (sym c.deref.ensures.value j))) ∙ c.have_same_encodings.ensures c.if-have_same_encodings.true ∙ (λ j. encodings (fields_of (c.deref-in-Some.ensures.value j)))
    ∙ ap (λ (x : PlainSchema). encodings (columns_of x.columns)) c.schema.ensures.schema in
    let same = rows_under_encoding s t c.in-Some.parts.now alike c.in-Some.ensures.rows in
    c.len.ensures ∙ ap length same

pub returns-then-have_same_encodings-clause-streams : goal.returns-then-have_same_encodings-clause-streams
returns-then-have_same_encodings-clause-streams c =
    let s = schema_of c.args.schema.now in
    let t = table_of c.args.table.now in
    let alike : encodings (columns_of s.columns) ≡ encodings (columns_of t.schema.columns) =
    (λ j. encodings (fields_of (sym c.deref.ensures.value j))) ∙ c.have_same_encodings.ensures c.if-have_same_encodings.true ∙ (λ j. encodings (fields_of (c.deref-in-Some.ensures.value j)))
    ∙ ap (λ (x : PlainSchema). encodings (columns_of x.columns)) c.schema.ensures.schema in
    let same = rows_under_encoding s t c.in-Some.parts.now alike c.in-Some.ensures.rows in
    subst (λ (rows : List (List Cell)). IfOk c.encode_parts_pieces.result (λ (pieces : EncodedPieces). streams_in pieces ≡ piece_streams (plain_table s rows))) (sym same)
    c.encode_parts_pieces.ensures.streams

pub returns-then-have_same_encodings-clause-rows : goal.returns-then-have_same_encodings-clause-rows
returns-then-have_same_encodings-clause-rows c =
    let s = schema_of c.args.schema.now in
    let t = table_of c.args.table.now in
    let alike : encodings (columns_of s.columns) ≡ encodings (columns_of t.schema.columns) =
    (λ j. encodings (fields_of (sym c.deref.ensures.value j))) ∙ c.have_same_encodings.ensures c.if-have_same_encodings.true ∙ (λ j. encodings (fields_of (c.deref-in-Some.ensures.value j)))
    ∙ ap (λ (x : PlainSchema). encodings (columns_of x.columns)) c.schema.ensures.schema in
    let same = rows_under_encoding s t c.in-Some.parts.now alike c.in-Some.ensures.rows in
    subst (λ (rows : List (List Cell)). IfOk c.encode_parts_pieces.result (λ (pieces : EncodedPieces). pieces.rows.items ≡ piece_counts (plain_table s rows))) (sym same)
    c.encode_parts_pieces.ensures.rows
