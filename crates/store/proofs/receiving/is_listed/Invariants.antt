-- None of the tables so far has the name.
use Rattle.std.proofs.Common.{◌≡◌, drop, map}
use Rattle.table_archive.specs.Manifest.{plain_listed}
use Rattle.store.specs.Receiving.{is_listed}
use Rattle.store.proofs.receiving.is_listed.Given as goal

abbrev pub invariant-loop-table : goal.invariant-loop-table
invariant-loop-table l = is_listed l.name (map plain_listed (drop l.table-index l.tables)) ≡ is_listed l.name (map plain_listed l.tables)
