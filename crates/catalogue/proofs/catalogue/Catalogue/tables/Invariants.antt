use Rattle.std.proofs.Common.{◌≡◌, take, map}
use Rattle.std.specs.Prelude.{string_bytes}
use Rattle.catalogue.specs.Entries.{plain_entry}
use Rattle.catalogue.specs.Edits.{tables_of}
use Rattle.catalogue.proofs.catalogue.Catalogue.tables.Given as goal

abbrev pub invariant-loop-entry : goal.invariant-loop-entry
invariant-loop-entry l = map (λ t. (string_bytes t.0, t.1)) l.tables.items ≡ tables_of (map plain_entry (take l.entry-index l.self.entries.items))
