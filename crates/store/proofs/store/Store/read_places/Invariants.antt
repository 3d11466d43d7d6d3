-- The store was only read.
use Rattle.store_runs.specs.Calls.{done}
use Rattle.store.specs.Reading.{OnlyReadsStore}
use Rattle.store.proofs.store.Store.read_places.Given as goal

abbrev pub invariant-loop-name : goal.invariant-loop-name
invariant-loop-name g l = let D = g.D.SectorDevice in OnlyReadsStore D.size D.story D.failed D.tells done l.fn.self l.self
