-- The segments so far and those that are left are all segments.
use Rattle.std.proofs.Common.{◌≡◌, ◌++◌, map, drop, string_bytes}
use Rattle.table_archive.specs.Manifest.{plain_listed}
use Rattle.store.specs.Sending.{located_in, located_from}
use Rattle.store.specs.inner.Sending.{plain_item}
use Rattle.store.proofs.sending.push_items.Given as goal

abbrev pub invariant-loop-place : goal.invariant-loop-place
invariant-loop-place l =
    map plain_item l.items.items ++ located_from (string_bytes l.table.name) l.place (drop l.place l.table.segments.items)
    ≡ map plain_item l.fn.items.items ++ located_in (plain_listed l.table)
