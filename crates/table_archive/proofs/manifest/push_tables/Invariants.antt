-- The lines so far and those of the tables that are left are all lines.
use Rattle.std.proofs.Common.{◌≡◌, ◌++◌, drop, map}
use Rattle.table_archive.specs.Manifest.{plain_listed, table_lines, AreWithin}
use Rattle.table_archive.proofs.manifest.push_tables.Given as goal

abbrev pub invariant-loop-table : goal.invariant-loop-table
invariant-loop-table l =
    (l.out.items ++ table_lines (map plain_listed (drop l.table-index l.tables)) ≡ l.fn.out.items ++ table_lines (map plain_listed l.tables))
    × AreWithin (drop l.table-index l.tables)
