-- The segments of the tables so far and of those that are left are all segments.
use Rattle.std.proofs.Common.{◌≡◌, ◌++◌, map, drop}
use Rattle.std.specs.Prelude.{flat_map}
use Rattle.table_archive.specs.Manifest.{plain_listed}
use Rattle.store.specs.Sending.{located_in}
use Rattle.store.specs.inner.Sending.{plain_item}
use Rattle.store.proofs.sending.items_of.Given as goal

abbrev pub invariant-loop-table : goal.invariant-loop-table
invariant-loop-table l =
    map plain_item l.items.items ++ flat_map located_in (map plain_listed (drop l.table-index l.tables)) ≡ flat_map located_in (map plain_listed l.tables)
