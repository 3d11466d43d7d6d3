-- The pieces of a table are tables, which their streams mean.
use Rattle.std.specs.Prelude.{nat_eq, Ok}
use Rattle.std.specs.List.{AllByRecursion, flat_map, starts_with}
use Rattle.std.proofs.Common.{◌≡◌, ℕ, ◌≤◌, true, List, [], ◌∷◌, ◌++◌, length, refl, arith, length-append}
use Rattle.std.proofs.lemmas.Bool.Decides.{Decides-eqb}
use Rattle.std.proofs.lemmas.Slice.Eq.{starts_is}
use Rattle.arrow_schema.specs.Column.{PlainSchema}
use Rattle.ipc_canonical.specs.Canonical.{canonical, piece_messages}
use Rattle.ipc_canonical.specs.Pieces.{IsPieceOf}
use Rattle.ipc_encode.proofs.Steps.{few_rows}
use Rattle.ipc_canonical.specs.PieceStreams.{piece_stream}
use Rattle.ipc_encode.specs.Pieces.{IsPiece}
use Rattle.cells.specs.Cell.{Cell, PlainTable}
use Rattle.ipc_message.specs.Header.{supported_codes}
use Rattle.ipc_stream.specs.Meaning.{meaning}
use Rattle.ipc_write.specs.Written.{schema_message, end_of_stream}
use Rattle.table_cut.specs.Piece.{pieces_of}
use Rattle.values.specs.Table.{IsTable}
use Rattle.values.specs.PlainTables.{plain_table}

stream_begins : (s : PlainSchema) (rows : List (List Cell)) → starts_with nat_eq (piece_stream s rows) (schema_message s) ≡ true
unfolding canonical
stream_begins s rows =
    (starts_is Decides-eqb (piece_stream s rows) (schema_message s) (starts_with nat_eq (piece_stream s rows) (schema_message s)) refl).1
    (flat_map (piece_messages s) (pieces_of (plain_table s rows)) ++ end_of_stream) refl

stream_some : (s : PlainSchema) (rows : List (List Cell)) → 1 ≤ length (piece_stream s rows)
unfolding canonical
stream_some s rows =
    let messages : List ℕ = flat_map (piece_messages s) (pieces_of (plain_table s rows)) in
    omega (arith, length-append (schema_message s) (messages ++ end_of_stream), length-append messages end_of_stream)

-- what is known of streams: a clause of a law
abbrev pub MeansLaw : Type 0
MeansLaw = (t : PlainTable) → IsTable t → meaning supported_codes (canonical t) ≡ Ok t

one_meant : MeansLaw → (s : PlainSchema) (rows : List (List Cell)) → IsPieceOf s rows → IsPiece s rows
one_meant law s rows piece = record {
  table = piece.table;
  some = piece.some;
  few = few_rows s rows piece.within;
  means = law (plain_table s rows) piece.table;
  begins = stream_begins s rows;
  bytes = stream_some s rows;
}

pub all_meant : MeansLaw → (s : PlainSchema) (ps : List (List (List Cell))) → AllByRecursion (IsPieceOf s) ps → AllByRecursion (IsPiece s) ps
all_meant law s [] each = tt
all_meant law s (p ∷ ps) each = (one_meant law s p each.0, all_meant law s ps each.1)
