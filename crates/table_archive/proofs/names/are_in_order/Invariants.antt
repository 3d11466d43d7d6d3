-- Whether all names ascend is whether those that are left do.
use Rattle.std.proofs.Common.{◌≡◌, drop, map}
use Rattle.catalogue.specs.Entries.{ascends}
use Rattle.table_archive.specs.Manifest.{plain_listed, listed_names}
use Rattle.table_archive.proofs.names.are_in_order.Given as goal

abbrev pub invariant-loop-place : goal.invariant-loop-place
invariant-loop-place l = ascends (listed_names (map plain_listed (drop l.place l.tables))) ≡ ascends (listed_names (map plain_listed l.tables))
