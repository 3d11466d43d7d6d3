-- The streams of a table's pieces hold its rows.
use Rattle.std.specs.Prelude.{nat_le, if◌then◌else◌}
use Rattle.std.specs.List.{AllByRecursion, list_all}
use Rattle.std.proofs.Common.{◌≡◌, ℕ, ◌≤◌, true, List, [], ◌∷◌, map, length, Some, None, refl, sym, ap, ◌∙◌, eq-eqb}
use Rattle.std.proofs.lemmas.List.{length-map}
use Rattle.std.proofs.lemmas.List.Concat.{flat_map-cons}
use Rattle.std.proofs.lemmas.Bool.{and_from, le-leb}
use Rattle.arrow_schema.specs.Column.{PlainSchema}
use Rattle.cells.specs.Cell.{Cell, PlainTable}
use Rattle.table_cut.specs.Piece.{pieces_of}
use Rattle.table_cut.specs.CutRows.{joined}
use Rattle.ipc_canonical.specs.PieceStreams.{piece_stream, piece_streams, piece_counts}
use Rattle.ipc_encode.specs.Pieces.{IsPiece}
use Rattle.catalogue.specs.declared.limits.TheConstants.{MAX_SEGMENT_ROWS}
use Rattle.catalogue.specs.Entries.{is_between}
use Rattle.store_runs.specs.Held.{rows_where, rows_in_bytes, joined_rows}
use Rattle.store_runs.specs.Changes.{stream_rows}

-- the stream of one piece
one_held : (s : PlainSchema) (rows : List (List Cell)) → IsPiece s rows → rows_in_bytes s (length rows) (Some (piece_stream s rows)) ≡ Some rows
one_held s rows is =
    (λ i. if is.begins i then rows_where (length rows) (is.means i) else None) ∙ ap (λ b. if b then Some rows else None) (eq-eqb (length rows) (length rows) refl)

each_held : (s : PlainSchema) (ps : List (List (List Cell))) → AllByRecursion (IsPiece s) ps → stream_rows s (map (piece_stream s) ps) (map length ps) ≡ Some (joined ps)
unfolding stream_rows
each_held s [] all = refl
each_held s (p ∷ ps) all = (λ i. joined_rows (one_held s p all.0 i) (each_held s ps all.1 i)) ∙ ap Some (sym (flat_map-cons (λ piece. piece) p ps))

pub pieces_held : (t : PlainTable) → AllByRecursion (IsPiece t.schema) (pieces_of t) → joined (pieces_of t) ≡ t.rows → stream_rows t.schema (piece_streams t) (piece_counts t) ≡ Some t.rows
unfolding piece_streams piece_counts
pieces_held t all whole = each_held t.schema (pieces_of t) all ∙ ap Some whole

-- there are as many streams as numbers of rows
pub pieces_each : (t : PlainTable) → length (piece_streams t) ≡ length (piece_counts t)
unfolding piece_streams piece_counts
pieces_each t = length-map (pieces_of t) (piece_stream t.schema) ∙ sym (length-map (pieces_of t) length)

-- each stream has some bytes, and each piece as many rows as a segment may have
each_some : (s : PlainSchema) (ps : List (List (List Cell))) → AllByRecursion (IsPiece s) ps → AllByRecursion (λ (stream : List ℕ). 1 ≤ length stream) (map (piece_stream s) ps)
each_some s [] all = tt
each_some s (p ∷ ps) all = (all.0.bytes, each_some s ps all.1)

pub pieces_some : (t : PlainTable) → AllByRecursion (IsPiece t.schema) (pieces_of t) → AllByRecursion (λ (stream : List ℕ). 1 ≤ length stream) (piece_streams t)
unfolding piece_streams
pieces_some t all = each_some t.schema (pieces_of t) all

each_few : (s : PlainSchema) (ps : List (List (List Cell))) → AllByRecursion (IsPiece s) ps → list_all (is_between 1 MAX_SEGMENT_ROWS) (map length ps) ≡ true
each_few s [] all = refl
each_few s (p ∷ ps) all =
    and_from (is_between 1 MAX_SEGMENT_ROWS (length p)) (list_all (is_between 1 MAX_SEGMENT_ROWS) (map length ps))
    (and_from (nat_le 1 (length p)) (nat_le (length p) MAX_SEGMENT_ROWS) (le-leb 1 (length p) all.0.some) (le-leb (length p) MAX_SEGMENT_ROWS all.0.few)) (each_few s ps all.1)

pub pieces_few : (t : PlainTable) → AllByRecursion (IsPiece t.schema) (pieces_of t) → list_all (is_between 1 MAX_SEGMENT_ROWS) (piece_counts t) ≡ true
unfolding piece_counts
pieces_few t all = each_few t.schema (pieces_of t) all
