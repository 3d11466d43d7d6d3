use Rattle.std.proofs.Common.{◌≡◌, ◌*◌, ◌+◌, ◌-◌, take, drop, Some, arith}
use Rattle.std.specs.Global.{Vec}
use Rattle.sha2.specs.Sha256.{sha256}
use Rattle.segments.specs.declared.piece.PiecePart.{PiecePart}
use Rattle.segments.specs.Pieces.{bytes_of_parts}
use Rattle.sha256_lanes.specs.laws.Fours.{fours_more, four_left}
use Rattle.store_changes.proofs.NewDigests.{some_four}
use Rattle.store_changes.proofs.new_digests.digests_by_fours.Goals as goal

pub loop-group-preserved : goal.loop-group-preserved
loop-group-preserved c =
    let streams = c.args.streams.now in
    let place = 4 * c.loop-group.group in
    let four : place + 4 - place ≡ 4 = omega arith in
    let own = some_four (λ (parts : Vec PiecePart). sha256 (bytes_of_parts parts.items)) (take 4 (drop place streams)) c.in_ok-first.field-0 (four_left place streams (omega arith)) (rw four at c.in_ok-first.ensures) in
    fours_more (λ (parts : Vec PiecePart). Some (sha256 (bytes_of_parts parts.items))) streams place (4 * (c.loop-group.group + 1)) _ c.loop-group.digests.items c.extend_from_slice.new.self.items
    (omega arith) own c.loop-group.invariant c.in_ok-extend_from_slice.ensures.items
