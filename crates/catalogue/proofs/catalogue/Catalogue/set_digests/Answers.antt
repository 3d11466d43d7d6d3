use Rattle.std.proofs.Common.{◌∙◌, List, map, ap}
use Rattle.catalogue.specs.declared.entry.TableEntry.{TableEntry}
use Rattle.catalogue.specs.Edits.{digested}
use Rattle.catalogue.specs.Entries.{plain_entry, is_catalogue}
use Rattle.catalogue.specs.laws.Digests.{digested_stands}
use Rattle.catalogue.proofs.catalogue.Catalogue.set_digests.Goals as goal

pub invariant_of-self : goal.invariant_of-self
invariant_of-self c =
    record {
      kept = ap is_catalogue (c.in_ok-self.ensures ∙ ap (λ (es : List TableEntry). digested (map plain_entry es) c.args.digests.now) c.deref.ensures.value)
          ∙ digested_stands (map plain_entry c.args.self.now.entries.items) c.args.digests.now c.args.self.now.kept c.requires.digests;
    }
