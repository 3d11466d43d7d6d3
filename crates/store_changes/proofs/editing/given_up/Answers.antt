use Rattle.std.proofs.Common.{sym}
use Rattle.catalogue.specs.Entries.{plain_entry, is_entry}
use Rattle.catalogue.specs.View.{catalogue_of}
use Rattle.catalogue.specs.laws.Changed.{found_passes}
use Rattle.store_changes.specs.Change.{edit_of}
use Rattle.store_changes.proofs.EditedCounts.{can_give}
use Rattle.store_changes.proofs.editing.given_up.Goals as goal

pub given_by-requires-clause-sound : goal.given_by-requires-clause-sound
given_by-requires-clause-sound c =
    found_passes is_entry (catalogue_of c.args.catalogue.now) c.in-Some.name.now (plain_entry c.in-Some-get.entry.now) c.get.ensures.kept.entries (sym c.in-Some-get.ensures.entry)

pub given_by-requires-clause-edit : goal.given_by-requires-clause-edit
given_by-requires-clause-edit c =
    can_give (catalogue_of c.args.catalogue.now) (edit_of c.args.edit.now) c.requires.edit.0 c.in-Some.name.now (plain_entry c.in-Some-get.entry.now) c.requires.edit.1 (sym c.in-Some.ensures) (sym c.in-Some-get.ensures.entry)
