use Rattle.std.proofs.Common.{◌≡◌, drop}
use Rattle.commit.specs.Standing.{all_on_device}
use Rattle.commit.proofs.entering.are_on_device.Given as goal

abbrev pub invariant-loop-run : goal.invariant-loop-run
invariant-loop-run l = all_on_device l.size l.runs ≡ all_on_device l.size (drop l.run-index l.runs)
