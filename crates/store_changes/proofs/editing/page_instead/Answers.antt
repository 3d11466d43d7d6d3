use Rattle.std.proofs.Common.{sym}
use Rattle.catalogue.specs.Entries.{plain_entry, is_entry}
use Rattle.catalogue.specs.View.{catalogue_of}
use Rattle.catalogue.specs.laws.Changed.{found_passes}
use Rattle.store_changes.proofs.editing.page_instead.Goals as goal

pub page_over-requires-clause-old : goal.page_over-requires-clause-old
page_over-requires-clause-old c = found_passes is_entry (catalogue_of c.args.catalogue.now) c.args.name.now (plain_entry c.in-Some.old.now) c.get.ensures.kept.entries (sym c.in-Some.ensures.entry)
