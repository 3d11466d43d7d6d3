use Rattle.std.proofs.Common.{◌≡◌, ◌-◌, map}
use Rattle.catalogue.specs.Entries.{plain_entry}
use Rattle.catalogue.specs.Reading.{many_at, entry_at}
use Rattle.catalogue.proofs.Parts.{with_front}
use Rattle.catalogue.proofs.decoding.entries_at.Given as goal

abbrev pub invariant-loop : goal.invariant-loop
invariant-loop l = with_front (map plain_entry l.entries.items) (many_at (entry_at l.form) (l.count - l.counter) l.rest) ≡ many_at (entry_at l.form) l.count l.bytes
