use Rattle.std.specs.List.{list_all}
use Rattle.std.proofs.Common.{◌≡◌, true, [], List, refl, sym, ap, ◌∙◌, subst}
use Rattle.std.proofs.lemmas.Bool.{eqb-true}
use Rattle.std.proofs.lemmas.List.{nil_from_length}
use Rattle.sector_dev.specs.Disk.{now, shown_image}
use Rattle.arrow_schema.specs.Limits.{IsWithinLimits}
use Rattle.catalogue.specs.declared.entry.Segment.{Segment}
use Rattle.catalogue.specs.Entries.{plain_entry, is_segment}
use Rattle.catalogue.specs.laws.Kept.{entry_is}
use Rattle.ipc_write.specs.Written.{schema_message}
use Rattle.tables.specs.declared.refusal.Refusal.TheVariants.{OutOfMemory}
use Rattle.store_runs.specs.Calls.{refused}
use Rattle.store_runs.specs.Changes.{rows_under}
use Rattle.store_runs.specs.Reading.{Unreads}
use Rattle.store_changes.specs.inner.ReadRows.{ReadsRows, WeighsRows}
use Rattle.store_changes.specs.Source.{AreReadable}
use Rattle.store_changes.specs.laws.ReadTables.{reads_none, reads_quiet}
use Rattle.store_changes.specs.laws.ReadRows.{no_rows, reads_none_of, rows_are_read}
use Rattle.store_changes.proofs.weighing.weigh_entry.Goals as goal

pub message_of-requires : goal.message_of-requires
message_of-requires g c = subst IsWithinLimits (sym c.schema.ensures) (entry_is (plain_entry c.args.entry.now) c.requires.sound).schema

pub weigh_segments-requires-clause-readable : goal.weigh_segments-requires-clause-readable
weigh_segments-requires-clause-readable g c =
    subst (AreReadable (g.D.SegmentSource.can_read c.args.device.now)) (sym c.segments-segments.ensures) c.requires.readable

pub weigh_segments-requires-clause-sound : goal.weigh_segments-requires-clause-sound
weigh_segments-requires-clause-sound g c =
    subst (λ (gs : List Segment). list_all is_segment gs ≡ true) (sym c.segments-segments.ensures) (entry_is (plain_entry c.args.entry.now) c.requires.sound).segments

pub returns-in-Ok-weigh_segments-clause-weight : goal.returns-in-Ok-weigh_segments-clause-weight
returns-in-Ok-weigh_segments-clause-weight g c =
    let D = g.D.SegmentSource in
    let image = shown_image (now (D.story c.args.device.now)) in
    let e = plain_entry c.args.entry.now in
    let within = (entry_is e c.requires.sound).schema in
    let message = c.deref.ensures.value ∙ c.in-Ok.ensures ∙ ap schema_message c.schema.ensures in
    let weight = c.in-Ok-weigh_segments.weight in
    let own = subst (λ (gs : List Segment). WeighsRows D.tells image e.schema gs weight) c.segments-segments.ensures (c.in-Ok-weigh_segments.ensures.weight e.schema within message) in
    (rows_under e.schema own.0, rows_are_read c.table_laws.ensures D.tells image e (rows_under e.schema own.0) refl own.1, own.2)

pub returns-in-Ok-clause-unread : goal.returns-in-Ok-clause-unread
returns-in-Ok-clause-unread g c =
    let D = g.D.SegmentSource in
    let image = shown_image (now (D.story c.args.device.now)) in
    let e = plain_entry c.args.entry.now in
    let within = (entry_is e c.requires.sound).schema in
    let message = c.deref.ensures.value ∙ c.in-Ok.ensures ∙ ap schema_message c.schema.ensures in
    let refusal = c.in-Err-weigh_segments.refusal in
    subst (λ (gs : List Segment). Unreads D.tells image (record { name = e.name; schema = e.schema; segments = gs; page = e.page }) refusal) c.segments-segments.ensures
    (c.in-Err-weigh_segments.ensures.unread e.schema e.name e.page within message)

-- without memory no call of the device is made
pub returns-clause-reads : goal.returns-clause-reads
returns-clause-reads g c = let D = g.D.SegmentSource in reads_quiet D.size D.story D.failed D.tells (refused OutOfMemory) c.args.device.now refl

pub returns-clause-goes_on : goal.returns-clause-goes_on
returns-clause-goes_on g c = g.met.D.SegmentSource.stays c.args.device.now

-- ---- without segments nothing is read

pub returns-then-is_empty-clause-reads : goal.returns-then-is_empty-clause-reads
returns-then-is_empty-clause-reads g c = let D = g.D.SegmentSource in reads_none D.size D.story D.failed D.tells c.args.device.now

pub returns-then-is_empty-clause-goes_on : goal.returns-then-is_empty-clause-goes_on
returns-then-is_empty-clause-goes_on g c = g.met.D.SegmentSource.stays c.args.device.now

pub returns-then-is_empty-clause-weight : goal.returns-then-is_empty-clause-weight
returns-then-is_empty-clause-weight g c =
    let D = g.D.SegmentSource in
    let image = shown_image (now (D.story c.args.device.now)) in
    let e = plain_entry c.args.entry.now in
    let none : e.segments ≡ [] = sym c.segments-segments.ensures ∙ nil_from_length c.segments-segments.result.now (eqb-true _ 0 (sym c.is_empty.ensures ∙ c.if-is_empty.true)) in
    let read : ReadsRows D.tells image e.schema e.segments [] =
    subst (λ (gs : List Segment). ReadsRows D.tells image e.schema gs []) (sym none) (reads_none_of D.tells image e.schema (no_rows e.schema (entry_is e c.requires.sound).schema)) in
    (rows_under e.schema [], rows_are_read c.table_laws.ensures D.tells image e (rows_under e.schema []) refl read, refl)
