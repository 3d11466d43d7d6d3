use Rattle.std.proofs.Common.{map}
use Rattle.catalogue.specs.Entries.{plain_entry}
use Rattle.catalogue.specs.Edits.{with_exchanged}
use Rattle.catalogue.specs.laws.Kept.{passes_catalogue}
use Rattle.catalogue.proofs.Seats.{changed_kept}
use Rattle.catalogue.proofs.catalogue.Catalogue.exchange_segments.Goals as goal

pub invariant_of-self : goal.invariant_of-self
invariant_of-self c =
    let old = map plain_entry c.args.self.now.entries.items in
    let changed = with_exchanged old c.args.name.now c.args.place c.args.count c.args.others.now in
    record {
      kept = changed_kept c.exchange_in.result old (map plain_entry c.exchange_in.new.entries.items) changed c.exchange_in.ensures.exchanged c.exchange_in.ensures.err c.args.self.now.kept (passes_catalogue changed c.requires);
    }
