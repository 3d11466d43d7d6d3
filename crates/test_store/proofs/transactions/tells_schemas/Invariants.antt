use Rattle.store.specs.Transactions.{IsBegun}
use Rattle.test_store.proofs.transactions.tells_schemas.Given as goal

-- a transaction was begun, and its store was only read since then
abbrev pub invariant-loop-step : goal.invariant-loop-step
invariant-loop-step g l = let D = g.D.SectorDevice in record { begun : IsBegun D.size D.story D.failed D.tells l.store l.transaction }
