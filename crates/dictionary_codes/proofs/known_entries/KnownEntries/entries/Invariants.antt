use Rattle.std.proofs.Common.{◌≡◌, ◌≤◌, ◌+◌, ◌++◌, drop, length, map, vec_len, vec_capacity}
use Rattle.cells.specs.Entry.{entry_cell}
use Rattle.dictionary_codes.specs.Named.{named_cells, seen_cells}
use Rattle.dictionary_codes.specs.inner.Seen.{cells_numbered}
use Rattle.dictionary_codes.proofs.known_entries.KnownEntries.entries.Given as goal

-- those that are made, and those that are left
abbrev pub invariant-loop-number : goal.invariant-loop-number
invariant-loop-number l = record {
  entries : map entry_cell l.entries.items ++ cells_numbered (seen_cells l.self) (drop l.number-index l.number-items) ≡ named_cells l.self;
  room : vec_len l.entries + length (drop l.number-index l.number-items) ≤ vec_capacity l.entries;
}
