-- The first segments are listed, and the store was only read.
use Rattle.std.proofs.Common.{◌≡◌, Some, take}
use Rattle.sector_dev.specs.Disk.{now, shown_image}
use Rattle.catalogue.specs.Edits.{entry_of}
use Rattle.catalogue.specs.Entries.{PlainEntry}
use Rattle.store_runs.specs.Calls.{done}
use Rattle.store.specs.Fits.{device_of, listed_in}
use Rattle.store.specs.Reading.{OnlyReadsStore}
use Rattle.store.specs.Sending.{ListsSegments}
use Rattle.store.proofs.store.Store.list_segments.Given as goal

abbrev pub invariant-loop-place : goal.invariant-loop-place
invariant-loop-place g l = let D = g.D.SectorDevice in record {
  reads : OnlyReadsStore D.size D.story D.failed D.tells done l.fn.self l.self;
  listed : (e : PlainEntry) → entry_of (listed_in l.fn.self) l.name ≡ Some e
      → ListsSegments D.tells (shown_image (now (D.story (device_of l.fn.self)))) e.schema (take l.place e.segments) l.listed.items;
}
