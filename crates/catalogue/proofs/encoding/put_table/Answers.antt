use Rattle.std.proofs.Common.{sym, subst}
use Rattle.arrow_schema.specs.Column.{PlainSchema}
use Rattle.arrow_schema.specs.Limits.{IsWithinLimits}
use Rattle.catalogue.specs.Entries.{plain_entry}
use Rattle.catalogue.specs.laws.Kept.{entry_is}
use Rattle.catalogue.proofs.encoding.put_table.Goals as goal

pub encode_schema-requires : goal.encode_schema-requires
encode_schema-requires c = subst (λ (s : PlainSchema). IsWithinLimits s) (sym c.schema.ensures) (entry_is (plain_entry c.args.entry.now) c.requires.sound).schema
