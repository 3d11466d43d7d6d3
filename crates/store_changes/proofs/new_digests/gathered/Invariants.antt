use Rattle.std.proofs.Common.{◌≡◌, take}
use Rattle.segments.specs.Pieces.{bytes_of_parts}
use Rattle.store_changes.proofs.new_digests.gathered.Given as goal

-- the bytes of the parts so far
abbrev pub invariant-loop-part : goal.invariant-loop-part
invariant-loop-part l = l.bytes.items ≡ bytes_of_parts (take l.part-index l.parts)
