use Rattle.std.proofs.Common.{take, ◌∷◌}
use Rattle.commit.specs.laws.Apart.{HasEntered}
use Rattle.commit.proofs.entering.occupy_each.Given as goal

abbrev pub invariant-loop-run : goal.invariant-loop-run
invariant-loop-run l = HasEntered l.sectors l.map (l.fn.text ∷ take l.run-index l.runs)
