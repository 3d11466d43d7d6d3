use Rattle.std.proofs.Common.{◌≡◌, map, take, Some}
use Rattle.std.specs.Global.{Vec}
use Rattle.sha2.specs.Sha256.{sha256}
use Rattle.segments.specs.declared.piece.PiecePart.{PiecePart}
use Rattle.segments.specs.Pieces.{bytes_of_parts}
use Rattle.store_changes.proofs.new_digests.digests_of.Given as goal

-- the digests of the streams so far
abbrev pub invariant-loop-place : goal.invariant-loop-place
invariant-loop-place l = l.digests.items ≡ map (λ (parts : Vec PiecePart). Some (sha256 (bytes_of_parts parts.items))) (take l.place l.streams)
