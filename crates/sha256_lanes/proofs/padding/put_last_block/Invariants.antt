use Rattle.std.proofs.Common.{◌≡◌, ℕ, ◌<◌, ◌+◌, ◌*◌, length, slice_index}
use Rattle.sha2.specs.Sha256.{padded_message}
use Rattle.sha256_lanes.proofs.padding.put_last_block.Given as goal

abbrev pub invariant-bytes : goal.invariant-bytes
invariant-bytes l = (length l.block ≡ 64) × ((k : ℕ) → k < l.i → slice_index l.block k ≡ slice_index (padded_message l.message) (64 * l.n + k))
