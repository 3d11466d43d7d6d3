use Rattle.std.proofs.Common.{sym, subst}
use Rattle.arrow_schema.specs.Limits.{IsWithinLimits}
use Rattle.catalogue.specs.Entries.{plain_entry}
use Rattle.catalogue.specs.laws.Kept.{entry_is}
use Rattle.store_changes.proofs.editing.page_over.Goals as goal

pub have_one_message-requires-clause-first : goal.have_one_message-requires-clause-first
have_one_message-requires-clause-first c = subst IsWithinLimits (sym c.schema.ensures) (entry_is (plain_entry c.args.old.now) c.requires.old).schema
