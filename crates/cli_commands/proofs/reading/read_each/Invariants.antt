use Rattle.std.proofs.Common.{◌≡◌, true, take, map, string_bytes}
use Rattle.std.specs.List.{AllByRecursion}
use Rattle.sector_dev.specs.Disk.{now, shown_image}
use Rattle.store_runs.specs.Calls.{done}
use Rattle.store.specs.Fits.{device_of, is_halted, listed_in}
use Rattle.store.specs.Reading.{OnlyReadsStore}
use Rattle.cli_commands.specs.Reading.{IsReadable}
use Rattle.cli_commands.proofs.reading.read_each.Given as goal

-- the tables so far can be read, the store was only read, and nothing is hinted
abbrev pub invariant-loop-table : goal.invariant-loop-table
invariant-loop-table g l = let D = g.D.SectorDevice in record {
  read : D.tells ≡ true
      → AllByRecursion (IsReadable (is_halted l.fn.store) (shown_image (now (D.story (device_of l.fn.store)))) (listed_in l.fn.store)) (take l.table-index (map (λ t. (string_bytes t.0, t.1)) l.tables));
  reads : OnlyReadsStore D.size D.story D.failed D.tells done l.fn.store l.store;
  hint : l.hint ≡ l.fn.hint;
}
