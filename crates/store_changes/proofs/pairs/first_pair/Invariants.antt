use Rattle.std.proofs.Common.{map}
use Rattle.sector_dev.specs.Disk.{now, shown_image}
use Rattle.catalogue.specs.Entries.{plain_entry}
use Rattle.store_runs.specs.Calls.{done}
use Rattle.store_runs.specs.Reading.{OnlyReadsDevice}
use Rattle.store_runs.specs.Compacting.{AllStay}
use Rattle.store_changes.proofs.pairs.first_pair.Given as goal

-- the pairs of the tables so far stay two segments
abbrev pub invariant-loop-entry : goal.invariant-loop-entry
invariant-loop-entry g l = let D = g.D.SectorDevice in record {
  reads : OnlyReadsDevice D.size D.story D.failed D.tells done l.fn.device l.device;
  stay : AllStay D.tells (shown_image (now (D.story l.fn.device))) (map plain_entry l.entries) l.entry-index;
}
