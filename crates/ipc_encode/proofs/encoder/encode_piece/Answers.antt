use Rattle.std.proofs.Common.{◌≡◌, ◌++◌, List, [], ℕ, map, ap, sym, ◌∙◌, arith, length-append}
use Rattle.std.proofs.lemmas.Result.{IfOk-weaker}
use Rattle.arrow_schema.specs.Column.{PlainSchema}
use Rattle.arrow_schema.specs.View.{schema_of}
use Rattle.ipc_canonical.specs.Canonical.{piece_messages}
use Rattle.ipc_encode.proofs.Steps.{one_stream}
use Rattle.ipc_canonical.specs.PieceStreams.{piece_stream}
use Rattle.ipc_encode.specs.View.{joined_parts}
use Rattle.ipc_encode.specs.inner.Stream.{stream_in}
use Rattle.cells.specs.Cell.{Cell}
use Rattle.ipc_write.specs.Written.{schema_message, end_of_stream}
use Rattle.columns.specs.Borrowed.{borrowed_cells}
use Rattle.ipc_encode.proofs.encoder.encode_piece.Goals as goal

pub returns-clause-stream : goal.returns-clause-stream
returns-clause-stream c =
    let s : PlainSchema = schema_of c.args.schema.now in
    let rows : List (List Cell) = map borrowed_cells c.args.rows.now in
    let front : List ℕ = schema_message s in
    let first : stream_in c.begin_stream-stream.result ≡ [] = c.begin_stream-stream.ensures ∙ c.new.ensures.items in
    let second : stream_in c.write_piece.new.stream ≡ piece_messages s rows = c.in_ok-write_piece.ensures ∙ ap (λ (x : List ℕ). x ++ piece_messages s rows) first in
    let last : stream_in c.end_stream.new.stream ≡ piece_messages s rows ++ end_of_stream = c.in_ok-end_stream.ensures ∙ ap (λ (x : List ℕ). x ++ end_of_stream) second in
    let whole : front ++ stream_in c.end_stream.new.stream ≡ piece_stream s rows = ap (λ (x : List ℕ). front ++ x) last ∙ sym (one_stream s rows c.requires.alone) in
    IfOk-weaker c.into_parts.result _ _ (λ parts is. ap (λ (x : List ℕ). front ++ x) is ∙ whole) c.into_parts.ensures.parts

pub returns-clause-short : goal.returns-clause-short
returns-clause-short c =
    let front : List ℕ = schema_message (schema_of c.args.schema.now) in
    IfOk-weaker c.into_parts.result _ _ (λ parts few. omega (arith, few, c.requires.before, length-append front (joined_parts parts.items))) c.into_parts.ensures.short
