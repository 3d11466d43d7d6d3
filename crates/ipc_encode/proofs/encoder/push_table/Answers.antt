use Rattle.std.specs.Global.{Vec}
use Rattle.std.specs.List.{AllByRecursion}
use Rattle.std.proofs.Common.{◌≡◌, ◌<◌, ◌^◌, ◌+◌, ◌++◌, List, ℕ, [], ◌∷◌, length, map, drop, refl, ap, sym, subst, ◌∙◌, arith}
use Rattle.std.proofs.lemmas.List.{drop_all, length-map, map-append}
use Rattle.batch_build.specs.declared.batch.Buffer.{Buffer}
use Rattle.arrow_schema.specs.Column.{PlainSchema}
use Rattle.arrow_schema.specs.View.{schema_of}
use Rattle.ipc_canonical.specs.Pieces.{IsPieceOf}
use Rattle.ipc_encode.proofs.Alone.{IsAlone, each_alone}
use Rattle.ipc_encode.proofs.Steps.{first_streams, first_counts, last_made, next_made}
use Rattle.ipc_canonical.specs.PieceStreams.{piece_stream, piece_streams, piece_counts}
use Rattle.ipc_encode.specs.View.{joined_parts, streams_behind, with_schema}
use Rattle.cells.specs.Cell.{Cell, PlainTable}
use Rattle.facts.specs.laws.Lists.{all_more}
use Rattle.table_cut.specs.Cut.{pieces}
use Rattle.columns.specs.Borrowed.{borrowed_cells}
use Rattle.ipc_write.specs.Written.{schema_message}
use Rattle.table_cut.specs.Piece.{within_piece}
use Rattle.values.specs.TableView.{table_of}
use Rattle.ipc_encode.proofs.encoder.push_table.Goals as goal

pub loop-from-init : goal.loop-from-init
loop-from-init c =
    let s : PlainSchema = schema_of c.args.schema.now in
    let t : PlainTable = table_of c.args.table.now in
    record {
      within = omega arith;
      each = c.pieces_can_be_built.ensures (with_schema s t) c.requires.table;
      alone = each_alone (within_piece s) t.rows;
      streams = first_streams s t (streams_behind (schema_message s) c.args.pieces.now.parts.items) (ap (streams_behind (schema_message s)) c.requires.none);
      counts = first_counts s t c.args.pieces.now.rows.items c.requires.uncounted;
      message = refl;
      short = rw c.requires.none tt;
    }

pushed_number : (old new : List ℕ) (n m : ℕ) → new ≡ old ++ n ∷ [] → n ≡ m → new ≡ old ++ m ∷ []
pushed_number old new n m pushed same = pushed ∙ ap (λ (k : ℕ). old ++ k ∷ []) same

pub loop-from-preserved : goal.loop-from-preserved
loop-from-preserved c =
    let s : PlainSchema = schema_of c.args.schema.now in
    let t : PlainTable = table_of c.args.table.now in
    let is = c.loop-from.invariant in
    let from = c.loop-from.from in
    let items = c.in_ok-piece.piece.items in
    let next = from + c.len-from.result in
    let piece : List (List Cell) = map borrowed_cells items in
    let old : List (List (List Cell)) = pieces (within_piece s) (drop from t.rows) in
    let rest : List (List (List Cell)) = pieces (within_piece s) (drop next t.rows) in
    let ends : from + length items ≡ next = omega arith in
    let cut : old ≡ piece ∷ rest = c.in_ok-piece.ensures.piece ∙ ap (λ (n : ℕ). piece ∷ pieces (within_piece s) (drop n t.rows)) ends in
    let front : List ℕ = schema_message s in
    let made : List (List ℕ) = streams_behind front c.loop-from.pieces.parts.items in
    let stream : List ℕ = front ++ joined_parts c.in_ok-stream.stream.items in
    let is_stream : stream ≡ piece_stream s piece = rw c.deref.ensures.value at c.in_ok-stream.ensures.stream in
    let pushed : streams_behind front c.push_stream.new.pieces.parts.items ≡ made ++ stream ∷ [] =
    ap (streams_behind front) c.in_ok-push_stream.ensures.streams ∙ map-append (λ (parts : Vec Buffer). front ++ joined_parts parts.items) c.loop-from.pieces.parts.items (c.in_ok-stream.stream ∷ []) in
    let counted : c.push_stream.new.pieces.rows.items ≡ c.loop-from.pieces.rows.items ++ length piece ∷ [] =
    pushed_number c.loop-from.pieces.rows.items c.push_stream.new.pieces.rows.items _ (length piece) c.in_ok-push_stream.ensures.counts (omega (arith, length-map items borrowed_cells)) in
    record {
      within = omega (arith, c.in_ok-piece.ensures.within);
      each = (subst (AllByRecursion (IsPieceOf s)) cut is.each).1;
      alone = (subst (AllByRecursion (IsAlone (within_piece s))) cut is.alone).1;
      streams = next_made (piece_stream s) made (streams_behind front c.push_stream.new.pieces.parts.items) (piece_streams (with_schema s t)) stream piece old rest cut pushed is_stream is.streams;
      counts = next_made length c.loop-from.pieces.rows.items c.push_stream.new.pieces.rows.items (piece_counts (with_schema s t)) (length piece) piece old rest
          cut counted refl is.counts;
      message = c.in_ok-push_stream.ensures.message ∙ is.message;
      short = subst (AllByRecursion (λ (x : List ℕ). length x < 2 ^ 64)) (sym pushed) (all_more (λ (x : List ℕ). length x < 2 ^ 64) made stream is.short c.in_ok-stream.ensures.short);
    }

pub returns-clause-message : goal.returns-clause-message
returns-clause-message c = c.loop-from.invariant.message

pub returns-clause-streams : goal.returns-clause-streams
returns-clause-streams c =
    let s : PlainSchema = schema_of c.args.schema.now in
    let rows : List (List Cell) = (table_of c.args.table.now).rows in
    last_made s (piece_stream s) (streams_behind (schema_message s) c.loop-from.pieces.parts.items) _ (drop c.loop-from.from rows)
    (drop_all c.loop-from.from rows (omega (arith, c.loop-from-test.false))) c.loop-from.invariant.streams

pub returns-clause-rows : goal.returns-clause-rows
returns-clause-rows c =
    let s : PlainSchema = schema_of c.args.schema.now in
    let rows : List (List Cell) = (table_of c.args.table.now).rows in
    last_made s length c.loop-from.pieces.rows.items _ (drop c.loop-from.from rows) (drop_all c.loop-from.from rows (omega (arith, c.loop-from-test.false)))
    c.loop-from.invariant.counts

pub returns-clause-short : goal.returns-clause-short
returns-clause-short c = c.loop-from.invariant.short
