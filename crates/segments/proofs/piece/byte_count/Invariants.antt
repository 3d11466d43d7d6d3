use Rattle.std.proofs.Common.{◌≡◌, length, take}
use Rattle.segments.specs.Pieces.{bytes_of_parts}
use Rattle.segments.proofs.piece.byte_count.Given as goal

abbrev pub invariant-loop-part : goal.invariant-loop-part
invariant-loop-part l = l.count ≡ length (bytes_of_parts (take l.part-index l.parts))
