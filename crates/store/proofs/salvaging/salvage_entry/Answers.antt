use Rattle.std.proofs.Common.{sym, subst, ◌∙◌}
use Rattle.sector_dev.specs.Disk.{now, shown_image}
use Rattle.arrow_schema.specs.Limits.{IsWithinLimits}
use Rattle.arrow_schema.specs.View.{schema_of}
use Rattle.catalogue.specs.Entries.{plain_entry}
use Rattle.catalogue.specs.laws.Kept.{entry_is}
use Rattle.store.specs.Salvaging.{plain_left}
use Rattle.store.proofs.Salvaged.{salvages_all}
use Rattle.store.proofs.salvaging.salvage_entry.Goals as goal

pub write_front-requires : goal.write_front-requires
write_front-requires g c = subst IsWithinLimits (sym c.schema-own.ensures) (entry_is (plain_entry c.args.entry.now) c.requires.sound).schema

pub returns-in-Ok-write_last-clause-salvaged : goal.returns-in-Ok-write_last-clause-salvaged
returns-in-Ok-write_last-clause-salvaged g c =
    let D = g.D.SectorDevice in
    let within = subst IsWithinLimits (sym c.schema-own.ensures) (entry_is (plain_entry c.args.entry.now) c.requires.sound).schema in
    let message = c.deref.ensures.value ∙ c.in-Ok.ensures.message in
    salvages_all D.tells (shown_image (now (D.story c.args.device.now))) (plain_entry c.args.entry.now) (schema_of c.schema-own.result.now) c.segments.result.now _ _ _ _ (plain_left c.in-Ok-salvage_segments.left_out.items)
    c.schema-own.ensures c.segments.ensures c.in-Ok.ensures.written (c.in-Ok-salvage_segments.ensures.salvaged (schema_of c.schema-own.result.now) within message) c.in-Ok-write_last.ensures.written
