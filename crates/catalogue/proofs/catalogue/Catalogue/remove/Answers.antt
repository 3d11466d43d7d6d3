use Rattle.std.proofs.Common.{◌∙◌, map, ap}
use Rattle.catalogue.specs.Entries.{plain_entry, is_catalogue}
use Rattle.catalogue.specs.laws.Changed.{removed_stands}
use Rattle.catalogue.proofs.catalogue.Catalogue.remove.Goals as goal

pub invariant_of-self : goal.invariant_of-self
invariant_of-self c = record { kept = ap is_catalogue c.take_entry.ensures.removed ∙ removed_stands (map plain_entry c.args.self.now.entries.items) c.args.name.now c.args.self.now.kept }
