-- What is written: a run and the bytes that go into it, whether owned or borrowed.
use Rattle.std.specs.Prelude.{ℕ, List, map}
use Rattle.std.specs.List.{flat_map}
use Rattle.segments.specs.declared.run.Run.{Run}
use Rattle.segments.specs.declared.piece.PiecePart.{PiecePart}
use Rattle.segments.specs.declared.piece.PiecePart.TheVariants.{Made, Borrowed}
use Rattle.segments.specs.declared.piece.Piece.{Piece}

-- a run, and bytes
pub record PlainPiece : Type 0 where
  pub run : Run
  pub bytes : List ℕ

-- the bytes of a part, owned or borrowed
abbrev pub part_bytes : PiecePart → List ℕ
part_bytes (Made v) = v.items
part_bytes (Borrowed b) = b.now

-- the bytes of parts in order
abbrev pub bytes_of_parts : List PiecePart → List ℕ
bytes_of_parts parts = flat_map part_bytes parts

-- a piece as its run and its bytes
abbrev pub plain_piece : Piece → PlainPiece
plain_piece p = record { run = p.run; bytes = bytes_of_parts p.parts.items }

abbrev pub plain_pieces : List Piece → List PlainPiece
plain_pieces pieces = map plain_piece pieces
