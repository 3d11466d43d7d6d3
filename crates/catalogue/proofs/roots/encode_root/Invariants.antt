use Rattle.std.proofs.Common.{◌≡◌, ◌++◌, length, take, map}
use Rattle.std.specs.List.{flat_map}
use Rattle.byteorder.specs.Endian.{little_bytes}
use Rattle.catalogue.specs.Entries.{plain_root}
use Rattle.catalogue.specs.Text.{root_entry_text}
use Rattle.catalogue.proofs.roots.encode_root.Given as goal

abbrev pub invariant-loop-entry : goal.invariant-loop-entry
invariant-loop-entry l = l.out.items ≡ little_bytes 4 (length l.entries) ++ flat_map root_entry_text (map plain_root (take l.entry-index l.entries))
