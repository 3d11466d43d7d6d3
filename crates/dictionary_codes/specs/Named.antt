-- The entries that were seen, and those of them that the slots of a column name.
use Rattle.std.specs.Prelude.{List, map}
use Rattle.dictionary_codes.specs.declared.known_entries.KnownEntries.{KnownEntries}
use Rattle.dictionary_codes.specs.inner.Seen.{cells_numbered}
use Rattle.cells.specs.Cell.{Cell}
use Rattle.cells.specs.Entry.{entry_cell}

abbrev pub seen_cells : KnownEntries → List Cell
seen_cells e = map entry_cell e.seen.keys

-- in the order in which they were first named
abbrev pub named_cells : KnownEntries → List Cell
named_cells e = cells_numbered (seen_cells e) e.named.items
