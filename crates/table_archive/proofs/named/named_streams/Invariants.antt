-- The streams of the entries so far.
use Rattle.std.proofs.Common.{◌≡◌, take}
use Rattle.table_archive.specs.Found.{streams_in}
use Rattle.table_archive.specs.inner.Named.{digests_with, contents}
use Rattle.table_archive.proofs.named.named_streams.Given as goal

abbrev pub invariant-loop-place : goal.invariant-loop-place
invariant-loop-place l = record {
  names : l.named.names.items ≡ digests_with (take l.place l.streams.entries);
  streams : contents l.named.streams.items ≡ streams_in (take l.place l.streams.entries);
}
