use Rattle.std.proofs.Common.{take}
use Rattle.sha2.specs.Hashers.{Holds256}
use Rattle.segments.specs.Pieces.{bytes_of_parts}
use Rattle.store_changes.proofs.new_digests.digest_of_parts.Given as goal

-- the hasher holds the bytes of the parts so far
abbrev pub invariant-loop-part : goal.invariant-loop-part
invariant-loop-part l = Holds256 l.hasher (bytes_of_parts (take l.part-index l.parts))
