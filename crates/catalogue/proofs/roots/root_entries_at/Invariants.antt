use Rattle.std.proofs.Common.{◌≡◌, ◌-◌, map}
use Rattle.catalogue.specs.Entries.{plain_root}
use Rattle.catalogue.specs.Reading.{many_at, root_entry_at}
use Rattle.catalogue.proofs.Parts.{with_front}
use Rattle.catalogue.proofs.roots.root_entries_at.Given as goal

abbrev pub invariant-loop : goal.invariant-loop
invariant-loop l = with_front (map plain_root l.entries.items) (many_at root_entry_at (l.count - l.counter) l.rest) ≡ many_at root_entry_at l.count l.bytes
