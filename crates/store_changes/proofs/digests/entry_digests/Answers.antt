use Rattle.std.specs.List.{list_all}
use Rattle.std.proofs.Common.{◌≡◌, ℕ, true, List, refl, sym, ap, ◌∙◌, subst}
use Rattle.sector_dev.specs.Disk.{now, shown_image}
use Rattle.arrow_schema.specs.Limits.{IsWithinLimits}
use Rattle.catalogue.specs.declared.entry.Segment.{Segment}
use Rattle.catalogue.specs.Entries.{plain_entry, is_segment, runs_in_segments}
use Rattle.catalogue.specs.laws.Kept.{entry_is}
use Rattle.commit.specs.Standing.{all_on_device}
use Rattle.ipc_write.specs.Written.{schema_message}
use Rattle.tables.specs.declared.refusal.Refusal.TheVariants.{OutOfMemory}
use Rattle.store_runs.specs.Calls.{refused}
use Rattle.store_runs.specs.Changes.{rows_under}
use Rattle.store_runs.specs.Reading.{Unreads}
use Rattle.store_changes.specs.inner.Digesting.{DigestsRows}
use Rattle.store_changes.specs.laws.ReadTables.{reads_quiet}
use Rattle.store_changes.specs.laws.ReadRows.{rows_are_read}
use Rattle.store_changes.proofs.digests.entry_digests.Goals as goal

pub encode_schema-requires : goal.encode_schema-requires
encode_schema-requires g c = subst IsWithinLimits (sym c.schema.ensures) (entry_is (plain_entry c.args.entry.now) c.requires.sound).schema

pub segment_digests-requires-clause-placed : goal.segment_digests-requires-clause-placed
segment_digests-requires-clause-placed g c =
    let size = g.D.SectorDevice.size c.args.device.now in
    subst (λ (gs : List Segment). all_on_device size (runs_in_segments gs) ≡ true) (sym c.segments.ensures) c.requires.placed

pub segment_digests-requires-clause-sound : goal.segment_digests-requires-clause-sound
segment_digests-requires-clause-sound g c =
    subst (λ (gs : List Segment). list_all is_segment gs ≡ true) (sym c.segments.ensures) (entry_is (plain_entry c.args.entry.now) c.requires.sound).segments

pub returns-in-Ok-segment_digests-clause-found : goal.returns-in-Ok-segment_digests-clause-found
returns-in-Ok-segment_digests-clause-found g c =
    let D = g.D.SectorDevice in
    let image = shown_image (now (D.story c.args.device.now)) in
    let e = plain_entry c.args.entry.now in
    let within = (entry_is e c.requires.sound).schema in
    let message = c.deref.ensures.value ∙ c.in-Ok.ensures.message ∙ ap schema_message c.schema.ensures in
    let digests = c.in-Ok-segment_digests.digests.items in
    let found = subst (λ (gs : List Segment). (weight : ℕ) × DigestsRows D.tells image e.schema gs weight digests) c.segments.ensures
    (c.in-Ok-segment_digests.ensures.found e.schema within message) in
    let table = rows_under e.schema found.1.0 in
    record { table = table; read = rows_are_read c.table_laws.ensures D.tells image e table refl found.1.1; own = found.1.3 }

pub returns-in-Ok-clause-unread : goal.returns-in-Ok-clause-unread
returns-in-Ok-clause-unread g c =
    let D = g.D.SectorDevice in
    let image = shown_image (now (D.story c.args.device.now)) in
    let e = plain_entry c.args.entry.now in
    let within = (entry_is e c.requires.sound).schema in
    let message = c.deref.ensures.value ∙ c.in-Ok.ensures.message ∙ ap schema_message c.schema.ensures in
    let refusal = c.in-Err-segment_digests.refusal in
    subst (λ (gs : List Segment). Unreads D.tells image (record { name = e.name; schema = e.schema; segments = gs; page = e.page }) refusal) c.segments.ensures
    (c.in-Err-segment_digests.ensures.unread e.schema e.name e.page within message)

-- without memory no call of the device is made
pub returns-clause-reads : goal.returns-clause-reads
returns-clause-reads g c = let D = g.D.SectorDevice in reads_quiet D.size D.story D.failed D.tells (refused OutOfMemory) c.args.device.now refl
