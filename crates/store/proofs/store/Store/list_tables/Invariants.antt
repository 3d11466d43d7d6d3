-- The first tables are listed, and the store was only read.
use Rattle.std.proofs.Common.{take, map, string_bytes}
use Rattle.sector_dev.specs.Disk.{now, shown_image}
use Rattle.table_archive.specs.Manifest.{plain_listed, AreWithin}
use Rattle.store_runs.specs.Calls.{done}
use Rattle.store.specs.Fits.{device_of, listed_in}
use Rattle.store.specs.Reading.{OnlyReadsStore}
use Rattle.store.specs.Sending.{ListsTables}
use Rattle.store.proofs.store.Store.list_tables.Given as goal

abbrev pub invariant-loop-name : goal.invariant-loop-name
invariant-loop-name g l = let D = g.D.SectorDevice in record {
  reads : OnlyReadsStore D.size D.story D.failed D.tells done l.fn.self l.self;
  listed : ListsTables D.tells (shown_image (now (D.story (device_of l.fn.self)))) (listed_in l.fn.self)
      (take l.name-index (map (λ t. (string_bytes t.0, t.1)) l.names)) (map plain_listed l.tables.items);
  within : AreWithin l.tables.items;
}
