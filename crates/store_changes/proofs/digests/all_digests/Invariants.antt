use Rattle.std.proofs.Common.{map, take}
use Rattle.sector_dev.specs.Disk.{now, shown_image}
use Rattle.catalogue.specs.Entries.{plain_entry}
use Rattle.store_runs.specs.Calls.{done}
use Rattle.store_runs.specs.Reading.{OnlyReadsDevice}
use Rattle.store_runs.specs.Digesting.{AllDigested, AreRead}
use Rattle.store_changes.proofs.digests.all_digests.Given as goal

-- the tables so far were read, and these are the digests of their segments
abbrev pub invariant-loop-entry : goal.invariant-loop-entry
invariant-loop-entry g l = let D = g.D.SectorDevice in record {
  reads : OnlyReadsDevice D.size D.story D.failed D.tells done l.fn.device l.device;
  read : AreRead D.tells (shown_image (now (D.story l.fn.device))) (map plain_entry l.entries) l.entry-index;
  own : AllDigested D.tells (shown_image (now (D.story l.fn.device))) (map plain_entry (take l.entry-index l.entries)) l.digests.items;
}
