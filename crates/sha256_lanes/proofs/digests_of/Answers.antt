use Rattle.std.specs.Borrow.{Bor}
use Rattle.std.proofs.Common.{◌≡◌, ◌*◌, ◌+◌, ◌-◌, ℕ, List, map, take, drop, refl, arith}
use Rattle.sha2.specs.Sha256.{sha256}
use Rattle.sha256_lanes.specs.laws.Fours.{fours_more}
use Rattle.sha256_lanes.proofs.digests_of.Goals as goal

pub loop-group-preserved : goal.loop-group-preserved
loop-group-preserved c =
    let messages = c.args.messages.now in
    let place = 4 * c.loop-group.group in
    let four : place + 4 - place ≡ 4 = omega arith in
    fours_more (λ (m : Bor (List ℕ)). sha256 m.now) messages place (4 * (c.loop-group.group + 1)) (map (λ (m : Bor (List ℕ)). sha256 m.now) (take 4 (drop place messages)))
    c.loop-group.digests.items c.push_four.new.digests.items (omega arith) refl c.loop-group.invariant (rw four at c.in_ok-push_four.ensures)
