use Rattle.std.specs.List.{AllByRecursion}
use Rattle.std.proofs.Common.{◌≡◌, ◌+◌, ◌++◌, ◌∷◌, [], List, ℕ, length, map, drop, ap, subst, sym, ◌∙◌, arith, rules}
use Rattle.std.proofs.lemmas.List.{drop_all}
use Rattle.arrow_schema.specs.Column.{PlainSchema}
use Rattle.arrow_schema.specs.View.{schema_of}
use Rattle.ipc_canonical.specs.Canonical.{piece_messages, rows_messages}
use Rattle.ipc_canonical.specs.Pieces.{IsPieceOf}
use Rattle.ipc_encode.proofs.Steps.{first_written, last_written, next_written}
use Rattle.ipc_encode.specs.View.{with_schema}
use Rattle.ipc_encode.specs.inner.Stream.{stream_in}
use Rattle.cells.specs.Cell.{Cell, PlainTable}
use Rattle.table_cut.specs.Cut.{pieces}
use Rattle.table_cut.specs.Piece.{within_piece}
use Rattle.columns.specs.Borrowed.{borrowed_cells}
use Rattle.columns.specs.declared.borrowed.Values.{Values}
use Rattle.values.specs.TableView.{table_of}
use Rattle.ipc_encode.proofs.encoder.write_rows.Goals as goal

pub loop-from-init : goal.loop-from-init
loop-from-init c =
    let s : PlainSchema = schema_of c.args.schema.now in
    let t : PlainTable = table_of c.args.table.now in
    record {
      within = omega arith;
      each = c.pieces_can_be_built.ensures (with_schema s t) c.requires;
      written = first_written s t.rows (stream_in c.args.stream.now);
    }

written_rows : {A : Type 0} (f : List A → List ℕ) (old new : List ℕ) (given rows : List A) → new ≡ old ++ f given → given ≡ rows → new ≡ old ++ f rows
written_rows f old new given rows written same = written ∙ ap (λ xs. old ++ f xs) same

piece_given : (s : PlainSchema) (given rows : List Values) → IsPieceOf s (map borrowed_cells rows) → given ≡ rows → IsPieceOf s (map borrowed_cells given)
piece_given s given rows piece same = subst (λ (xs : List Values). IsPieceOf s (map borrowed_cells xs)) (sym same) piece

pub write_piece-requires : goal.write_piece-requires
write_piece-requires c =
    let s : PlainSchema = schema_of c.args.schema.now in
    let first = (subst (AllByRecursion (IsPieceOf s)) c.in_ok-piece.ensures.piece c.loop-from.invariant.each).0 in
    piece_given s _ c.in_ok-piece.piece.items first (search rules)

pub loop-from-preserved : goal.loop-from-preserved
loop-from-preserved c =
    let s : PlainSchema = schema_of c.args.schema.now in
    let t : PlainTable = table_of c.args.table.now in
    let is = c.loop-from.invariant in
    let from = c.loop-from.from in
    let next = from + c.len-from.result in
    let piece : List (List Cell) = map borrowed_cells c.in_ok-piece.piece.items in
    let old : List (List (List Cell)) = pieces (within_piece s) (drop from t.rows) in
    let rest : List (List (List Cell)) = pieces (within_piece s) (drop next t.rows) in
    let count : from + length c.in_ok-piece.piece.items ≡ next = omega arith in
    let cut : old ≡ piece ∷ rest = c.in_ok-piece.ensures.piece ∙ ap (λ (n : ℕ). piece ∷ pieces (within_piece s) (drop n t.rows)) count in
    let pushed : stream_in c.write_piece.new.stream ≡ stream_in c.loop-from.stream ++ piece_messages s piece =
    written_rows (λ (rows : List Values). piece_messages s (map borrowed_cells rows)) (stream_in c.loop-from.stream) (stream_in c.write_piece.new.stream) _ c.in_ok-piece.piece.items c.in_ok-write_piece.ensures (search rules) in
    record {
      within = omega (arith, c.in_ok-piece.ensures.within);
      each = (subst (AllByRecursion (IsPieceOf s)) cut is.each).1;
      written = next_written (piece_messages s) (stream_in c.loop-from.stream) (stream_in c.write_piece.new.stream) [] (stream_in c.args.stream.now ++ rows_messages s t.rows) piece old rest cut pushed is.written;
    }

pub returns : goal.returns
returns c =
    let s : PlainSchema = schema_of c.args.schema.now in
    let t : PlainTable = table_of c.args.table.now in
    let none = drop_all c.loop-from.from t.rows (omega (arith, c.loop-from-test.false)) in
    last_written s (stream_in c.loop-from.stream) (stream_in c.args.stream.now ++ rows_messages s t.rows) (drop c.loop-from.from t.rows) none c.loop-from.invariant.written
