-- The streams of the first segments are appended, and the store was only read.
use Rattle.std.proofs.Common.{◌≡◌, ◌++◌, ℕ, List, map, take}
use Rattle.table_archive.specs.Archive.{AreStreamsOf}
use Rattle.tables.specs.Commands.{append_stream}
use Rattle.tables.specs.View.{command_of}
use Rattle.store_runs.specs.Calls.{done}
use Rattle.store.specs.Reading.{OnlyReadsStore}
use Rattle.store.proofs.store.Store.push_appends.Given as goal

abbrev pub invariant-loop-listed : goal.invariant-loop-listed
invariant-loop-listed g l = let D = g.D.SectorDevice in record {
  reads : OnlyReadsStore D.size D.story D.failed D.tells done l.fn.self l.self;
  streams : List (List ℕ);
  are : AreStreamsOf (take l.listed-index l.segments) streams;
  pushed : map command_of l.commands.items ≡ map command_of l.fn.commands.items ++ map (append_stream l.name) streams;
}
