use Rattle.std.proofs.Common.{map}
use Rattle.catalogue.specs.Entries.{plain_entry}
use Rattle.catalogue.specs.Edits.{with_entry}
use Rattle.catalogue.specs.laws.Changed.{put_stands}
use Rattle.catalogue.proofs.Seats.{changed_kept}
use Rattle.catalogue.proofs.catalogue.Catalogue.put.Goals as goal

pub invariant_of-self : goal.invariant_of-self
invariant_of-self c =
    let old = map plain_entry c.args.self.now.entries.items in
    let e = plain_entry c.args.entry in
    record {
      kept = changed_kept c.put_entry.result old (map plain_entry c.put_entry.new.entries.items) (with_entry old e) c.put_entry.ensures.put c.put_entry.ensures.err c.args.self.now.kept
          (put_stands old e c.args.self.now.kept c.requires.entry c.requires.tables c.requires.most);
    }
