use Rattle.std.proofs.Common.{map}
use Rattle.std.specs.Prelude.{string_bytes}
use Rattle.catalogue.specs.Entries.{plain_entry}
use Rattle.catalogue.specs.Edits.{renamed}
use Rattle.catalogue.proofs.Seats.{changed_kept, renamed_kept}
use Rattle.catalogue.proofs.catalogue.Catalogue.rename.Goals as goal

pub invariant_of-self : goal.invariant_of-self
invariant_of-self c =
    let old = map plain_entry c.args.self.now.entries.items in
    let to = string_bytes c.args.to in
    record {
      kept = changed_kept c.rename_entry.result old (map plain_entry c.rename_entry.new.entries.items) (renamed old c.args.from.now to) c.rename_entry.ensures.renamed c.rename_entry.ensures.err c.args.self.now.kept
          (renamed_kept old c.args.from.now to c.args.self.now.kept c.requires.name);
    }
