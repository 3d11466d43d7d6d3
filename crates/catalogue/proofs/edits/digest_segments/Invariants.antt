use Rattle.std.proofs.Common.{◌≡◌, ◌++◌, length, take, drop}
use Rattle.catalogue.specs.Edits.{with_digests}
use Rattle.catalogue.proofs.edits.digest_segments.Given as goal

abbrev pub invariant-loop-place : goal.invariant-loop-place
invariant-loop-place l = record {
  count : length l.segments.items ≡ length l.digests;
  so_far : take l.place l.segments.items ++ with_digests (drop l.place l.segments.items) (drop l.place l.digests) ≡ with_digests l.fn.segments.items l.digests;
}
