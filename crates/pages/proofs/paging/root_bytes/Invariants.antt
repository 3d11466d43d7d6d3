use Rattle.std.proofs.Common.{◌≡◌, ◌≤◌, ◌+◌, ◌*◌, take, map}
use Rattle.catalogue.specs.Entries.{plain_entry}
use Rattle.pages.specs.Paging.{root_bytes}
use Rattle.pages.proofs.paging.root_bytes.Given as goal

abbrev pub invariant-loop-entry : goal.invariant-loop-entry
invariant-loop-entry l = record { bytes : l.bytes ≡ root_bytes (map plain_entry (take l.entry-index l.entries)); most : l.bytes ≤ 4 + 92 * l.entry-index }
