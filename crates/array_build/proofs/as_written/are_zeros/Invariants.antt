use Rattle.std.proofs.Common.{◌≡◌, drop}
use Rattle.array_build.specs.inner.Runs.{are_zeros}
use Rattle.array_build.proofs.as_written.are_zeros.Given as goal

abbrev pub invariant-loop-byte : goal.invariant-loop-byte
invariant-loop-byte l = are_zeros (drop l.byte-index l.bytes) ≡ are_zeros l.bytes
