-- Those so far are the ones in their places.
use Rattle.std.proofs.Common.{◌≡◌, take}
use Rattle.table_archive.proofs.named.first_other.Given as goal

abbrev pub invariant-loop-place : goal.invariant-loop-place
invariant-loop-place l = take l.place l.names ≡ take l.place l.found
