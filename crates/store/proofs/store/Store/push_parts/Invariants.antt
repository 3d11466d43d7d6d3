-- The commands of the first tables are there, and the store was only read.
use Rattle.std.proofs.Common.{◌≡◌, ◌++◌, List, map, take}
use Rattle.table_archive.specs.Manifest.{plain_listed}
use Rattle.tables.specs.Commands.{PlainCommand}
use Rattle.tables.specs.View.{command_of}
use Rattle.store_runs.specs.Calls.{done}
use Rattle.store.specs.Fits.{listed_in}
use Rattle.store.specs.Reading.{OnlyReadsStore}
use Rattle.store.specs.Receiving.{AreParts}
use Rattle.store.proofs.store.Store.push_parts.Given as goal

abbrev pub invariant-loop-table : goal.invariant-loop-table
invariant-loop-table g l = let D = g.D.SectorDevice in record {
  reads : OnlyReadsStore D.size D.story D.failed D.tells done l.fn.self l.self;
  parts : List PlainCommand;
  are : AreParts (listed_in l.fn.self) (take l.table-index (map plain_listed l.tables)) parts;
  pushed : map command_of l.commands.items ≡ map command_of l.fn.commands.items ++ parts;
}
