use Rattle.std.proofs.Common.{◌≡◌, drop, map}
use Rattle.catalogue.specs.Entries.{ascends, root_names, plain_root}
use Rattle.catalogue.proofs.roots.are_in_order.Given as goal

abbrev pub invariant-loop-place : goal.invariant-loop-place
invariant-loop-place l = ascends (root_names (map plain_root (drop l.place l.entries))) ≡ ascends (root_names (map plain_root l.entries))
