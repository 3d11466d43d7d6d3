-- The lines so far state the digests so far.
use Rattle.std.proofs.Common.{take}
use Rattle.facts.specs.Texts.{text_list}
use Rattle.table_archive.specs.Digests.{StateDigests}
use Rattle.table_archive.proofs.digests.parse_digests.Given as goal

abbrev pub invariant-loop-place : goal.invariant-loop-place
invariant-loop-place l = StateDigests (take l.place (text_list l.parts.items)) l.digests.items
