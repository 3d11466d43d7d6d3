use Rattle.sector_dev.specs.Disk.{now, shown_image}
use Rattle.catalogue.specs.Entries.{plain_entry}
use Rattle.store_runs.specs.Calls.{done}
use Rattle.store_runs.specs.Reading.{OnlyReadsDevice}
use Rattle.store_runs.specs.Compacting.{FirstStay}
use Rattle.store_changes.proofs.pairs.first_pair_of.Given as goal

-- the pairs so far stay two segments
abbrev pub invariant-loop-place : goal.invariant-loop-place
invariant-loop-place g l = let D = g.D.SectorDevice in record {
  reads : OnlyReadsDevice D.size D.story D.failed D.tells done l.fn.device l.device;
  stay : FirstStay D.tells (shown_image (now (D.story l.fn.device))) (plain_entry l.entry) l.place;
}
