use Rattle.std.specs.Prelude.{take}
use Rattle.std.proofs.Common.{◌∷◌}
use Rattle.store.proofs.KeptRuns.{KeptSoFar}
use Rattle.store.proofs.summary.sectors_kept.Given as goal

abbrev pub invariant-loop-run : goal.invariant-loop-run
invariant-loop-run l = KeptSoFar l.sectors (l.fn.text ∷ l.fn.used) (take l.run-index l.kept) l.map l.count
