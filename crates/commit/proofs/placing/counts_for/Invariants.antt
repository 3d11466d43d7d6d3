use Rattle.std.proofs.Common.{◌≡◌, ◌++◌, map, take}
use Rattle.segments.specs.Sectors.{sector_count}
use Rattle.commit.specs.Placing.{AreShort, plain_contents, sectors_of}
use Rattle.commit.proofs.placing.counts_for.Given as goal

abbrev pub invariant-loop-parts : goal.invariant-loop-parts
invariant-loop-parts l = record {
  counts : l.counts.items ≡ map sectors_of (plain_contents (take l.parts-index l.contents));
  short : AreShort (plain_contents (take l.parts-index l.contents));
}

abbrev pub invariant-loop-bytes : goal.invariant-loop-bytes
invariant-loop-bytes l = record {
  counts : l.counts.items ≡ map sectors_of (plain_contents l.contents) ++ map sector_count (take l.bytes-index l.pages);
  short : AreShort (plain_contents l.contents);
}
