-- The first digests are known.
use Rattle.std.proofs.Common.{take}
use Rattle.table_archive.specs.Wanted.{Knows}
use Rattle.table_archive.proofs.wanted.WantedDigests.beside.Given as goal

abbrev pub invariant-loop-digest : goal.invariant-loop-digest
invariant-loop-digest l = Knows l.wanted (take l.digest-index l.had)
