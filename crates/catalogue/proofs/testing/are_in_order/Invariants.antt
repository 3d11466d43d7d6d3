use Rattle.std.proofs.Common.{◌≡◌, drop, map}
use Rattle.catalogue.specs.Entries.{ascends, names_of, plain_entry}
use Rattle.catalogue.proofs.testing.are_in_order.Given as goal

abbrev pub invariant-loop-place : goal.invariant-loop-place
invariant-loop-place l = ascends (names_of (map plain_entry (drop l.place l.entries))) ≡ ascends (names_of (map plain_entry l.entries))
