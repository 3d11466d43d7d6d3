use Rattle.std.proofs.Common.{◌∙◌, sym, subst}
use Rattle.arrow_schema.specs.Limits.{IsWithinLimits}
use Rattle.catalogue.specs.Entries.{PlainEntry, is_entry, plain_entry}
use Rattle.catalogue.specs.laws.Changed.{found_passes}
use Rattle.catalogue.specs.laws.Kept.{entry_is}
use Rattle.store.proofs.listing.schema_named.Goals as goal

pub returns-in_ok-copy-in-Some-clause-within : goal.returns-in_ok-copy-in-Some-clause-within
returns-in_ok-copy-in-Some-clause-within c =
    let e : PlainEntry = plain_entry c.in-Some.entry.now in
    let own = found_passes is_entry _ c.args.name.now e c.in-Some.ensures.kept.entries (sym c.in-Some.ensures.entry) in
    subst IsWithinLimits (sym (c.in_ok-copy-in-Some.ensures ∙ c.schema.ensures)) (entry_is e own).schema
