use Rattle.std.proofs.Common.{◌≡◌, true, List, refl, sym, ap, ◌∙◌, subst}
use Rattle.sector_dev.specs.Disk.{now, shown_image}
use Rattle.arrow_schema.specs.Column.{PlainSchema}
use Rattle.arrow_schema.specs.Limits.{IsWithinLimits}
use Rattle.cells.specs.Cell.{PlainTable}
use Rattle.catalogue.specs.Entries.{PlainEntry, plain_entry}
use Rattle.catalogue.specs.laws.Kept.{entry_is}
use Rattle.catalogue.specs.declared.entry.Segment.{Segment}
use Rattle.commit.specs.Standing.{is_on_device}
use Rattle.ipc_write.specs.Written.{schema_message}
use Rattle.tables.specs.declared.refusal.Refusal.TheVariants.{OutOfMemory}
use Rattle.store_runs.specs.Calls.{refused}
use Rattle.store_changes.specs.inner.ReadRows.{ReadsRows}
use Rattle.store_changes.specs.inner.TableBuilder.{table_so_far}
use Rattle.store_runs.specs.Reading.{Unreads}
use Rattle.segments.specs.declared.extent.Extent.{Extent}
use Rattle.store_changes.specs.Source.{AreReadable}
use Rattle.store_changes.specs.laws.Sources.{on_device_readable}
use Rattle.store_changes.specs.laws.ReadTables.{reads_quiet}
use Rattle.store_changes.specs.laws.ReadRows.{rows_are_read}
use Rattle.store_changes.proofs.reading.gather_entry.Goals as goal

pub start_table-requires : goal.start_table-requires
start_table-requires g c = record { limits = subst IsWithinLimits (sym c.schema.ensures) (entry_is (plain_entry c.args.entry.now) c.requires.sound).schema }

pub returns-in-Ok-read_segments-clause-table : goal.returns-in-Ok-read_segments-clause-table
returns-in-Ok-read_segments-clause-table g c =
    let D = g.D.SectorDevice in
    let image = shown_image (now (D.story c.args.device.now)) in
    let e = plain_entry c.args.entry.now in
    let start : (table_so_far c.in-Ok.empty).schema ≡ e.schema = ap (λ (t : PlainTable). t.schema) c.in-Ok.ensures.empty ∙ c.schema.ensures in
    let segments : c.segments.result.now ≡ e.segments = c.segments.ensures in
    let gathered = c.in-Ok-read_segments.gathered in
    rows_are_read c.table_laws.ensures D.tells image e (table_so_far gathered) (c.in-Ok-read_segments.ensures.schema ∙ start)
    (subst (λ (gs : List Segment). ReadsRows D.tells image e.schema gs (table_so_far gathered).rows) segments
    (subst (λ (s : PlainSchema). ReadsRows D.tells image s c.segments.result.now (table_so_far gathered).rows) start c.in-Ok-read_segments.ensures.read))

pub returns-in-Ok-clause-unread : goal.returns-in-Ok-clause-unread
returns-in-Ok-clause-unread g c =
    let D = g.D.SectorDevice in
    let image = shown_image (now (D.story c.args.device.now)) in
    let e = plain_entry c.args.entry.now in
    let start : (table_so_far c.in-Ok.empty).schema ≡ e.schema = ap (λ (t : PlainTable). t.schema) c.in-Ok.ensures.empty ∙ c.schema.ensures in
    let segments : c.segments.result.now ≡ e.segments = c.segments.ensures in
    let same : record { name = e.name; schema = (table_so_far c.in-Ok.empty).schema; segments = c.segments.result.now; page = e.page } ≡ e = λ i. record { name = e.name; schema = start i; segments = segments i; page = e.page } in
    subst (λ (x : PlainEntry). Unreads D.tells image x c.in-Err-read_segments.refusal) same (c.in-Err-read_segments.ensures.unread e.name e.page)

-- ---- what is asked of the reading of its segments

pub read_segments-requires-clause-readable : goal.read_segments-requires-clause-readable
read_segments-requires-clause-readable g c =
    let size = g.D.SectorDevice.size c.args.device.now in
    subst (AreReadable (λ (place : Extent). is_on_device size place.run ≡ true)) (sym c.segments.ensures) (on_device_readable size (plain_entry c.args.entry.now).segments c.requires.placed)

pub read_segments-requires-clause-limits : goal.read_segments-requires-clause-limits
read_segments-requires-clause-limits g c = subst IsWithinLimits (sym (ap (λ (t : PlainTable). t.schema) c.in-Ok.ensures.empty ∙ c.schema.ensures)) (entry_is (plain_entry c.args.entry.now) c.requires.sound).schema

pub read_segments-requires-clause-message : goal.read_segments-requires-clause-message
read_segments-requires-clause-message g c = c.deref.ensures.value ∙ c.in-Ok.ensures.message ∙ ap schema_message (sym (ap (λ (t : PlainTable). t.schema) c.in-Ok.ensures.empty))

pub read_segments-requires-clause-none : goal.read_segments-requires-clause-none
read_segments-requires-clause-none g c = ap (λ (t : PlainTable). t.rows) c.in-Ok.ensures.empty

-- ---- without memory no call of the device is made

pub returns-clause-reads : goal.returns-clause-reads
returns-clause-reads g c = let D = g.D.SectorDevice in reads_quiet D.size D.story D.failed D.tells (refused OutOfMemory) c.args.device.now refl
