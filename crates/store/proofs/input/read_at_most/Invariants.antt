-- What is kept so far is what the reader gave, in order, and the chunk has room.
use Rattle.std.proofs.Common.{◌-◌, ◌<◌, ◌≤◌, vec_len, vec_items}
use Rattle.std.specs.Io.KnownBytes.{Consumes}
use Rattle.store.proofs.input.read_at_most.Given as goal

abbrev pub invariant-loop-bytes : goal.invariant-loop-bytes
invariant-loop-bytes g l = Consumes (g.R.Read.remaining l.initial.reader) (g.R.Read.remaining l.reader) (vec_items l.bytes) × (0 < vec_len l.chunk) × (vec_len l.bytes ≤ l.largest)

abbrev pub decreases-loop-bytes : goal.decreases-loop-bytes
decreases-loop-bytes g l = l.largest - vec_len l.bytes
