use Rattle.std.proofs.Common.{◌≡◌, ℕ, ◌<◌, length, ◌*◌}
use Rattle.sha2.specs.Sha256.{IsRoundsAt, word_at}
use Rattle.sha256_lanes.specs.inner.Lanes.{lane, lane_at, words_of, of_four}
use Rattle.sha256_lanes.proofs.block.compress.Given as goal

abbrev pub invariant-load : goal.invariant-load
invariant-load l = (length l.w ≡ 16) × ((j k : ℕ) → j < 4 → k < l.i → lane_at l.w k j ≡ word_at (of_four l.first l.second l.third l.fourth j) (4 * k))

abbrev pub invariant-schedule : goal.invariant-schedule
invariant-schedule l = (j : ℕ) → j < 4 → IsRoundsAt (of_four l.first l.second l.third l.fourth j) (lane j l.state) (words_of j l.w) (lane j l.v) (16 * l.turn)
