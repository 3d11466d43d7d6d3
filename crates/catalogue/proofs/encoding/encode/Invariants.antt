use Rattle.std.proofs.Common.{◌≡◌, ◌++◌, length, take, map}
use Rattle.std.specs.List.{flat_map}
use Rattle.byteorder.specs.Endian.{little_bytes}
use Rattle.catalogue.specs.Entries.{plain_entry}
use Rattle.catalogue.specs.Text.{entry_text}
use Rattle.catalogue.proofs.encoding.encode.Given as goal

abbrev pub invariant-loop-entry : goal.invariant-loop-entry
invariant-loop-entry l = l.out.items ≡ little_bytes 4 (length l.entries) ++ flat_map entry_text (map plain_entry (take l.entry-index l.entries))
