-- The store was only read.
use Rattle.store_runs.specs.Calls.{done}
use Rattle.store.specs.Reading.{OnlyReadsStore}
use Rattle.store.proofs.store.Store.read_table_places.Given as goal

abbrev pub invariant-loop-found : goal.invariant-loop-found
invariant-loop-found g l = let D = g.D.SectorDevice in OnlyReadsStore D.size D.story D.failed D.tells done l.fn.self l.self
