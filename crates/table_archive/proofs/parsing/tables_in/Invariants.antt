-- The schemas of the tables so far are within the limits.
use Rattle.table_archive.specs.Manifest.{AreWithin}
use Rattle.table_archive.proofs.parsing.tables_in.Given as goal

abbrev pub invariant-loop : goal.invariant-loop
invariant-loop l = AreWithin l.tables.items
