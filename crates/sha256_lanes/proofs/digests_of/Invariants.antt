-- The digests of the messages so far.
use Rattle.std.specs.Borrow.{Bor}
use Rattle.std.proofs.Common.{◌≡◌, ◌*◌, ℕ, List, map, take}
use Rattle.sha2.specs.Sha256.{sha256}
use Rattle.sha256_lanes.proofs.digests_of.Given as goal

abbrev pub invariant-loop-group : goal.invariant-loop-group
invariant-loop-group l = l.digests.items ≡ map (λ (m : Bor (List ℕ)). sha256 m.now) (take (4 * l.group) l.messages)

abbrev pub invariant-loop-place : goal.invariant-loop-place
invariant-loop-place l = l.digests.items ≡ map (λ (m : Bor (List ℕ)). sha256 m.now) (take l.place l.messages)
