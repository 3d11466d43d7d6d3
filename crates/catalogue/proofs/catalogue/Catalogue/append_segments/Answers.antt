use Rattle.std.proofs.Common.{map}
use Rattle.catalogue.specs.Entries.{plain_entry}
use Rattle.catalogue.proofs.Seats.{more_kept}
use Rattle.catalogue.proofs.catalogue.Catalogue.append_segments.Goals as goal

pub invariant_of-self : goal.invariant_of-self
invariant_of-self c =
    let old = map plain_entry c.args.self.now.entries.items in
    record {
      kept = more_kept c.append_to.result old (map plain_entry c.append_to.new.entries.items) c.args.name.now c.args.more.now c.append_to.ensures.appended c.append_to.ensures.err c.args.self.now.kept c.requires.segments c.requires.most;
    }
