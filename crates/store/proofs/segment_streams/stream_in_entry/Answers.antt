use Rattle.std.specs.Prelude.{slice_get}
use Rattle.std.proofs.Common.{◌≡◌, ◌∙◌, List, Some, None, refl, sym, subst}
use Rattle.std.proofs.lemmas.Result.{IfOk-weaker, IfErr-weaker}
use Rattle.std.proofs.lemmas.Option.{slice_get_read, slice_get_past}
use Rattle.sector_dev.specs.Disk.{now, shown_image}
use Rattle.arrow_schema.specs.Limits.{IsWithinLimits}
use Rattle.arrow_schema.specs.View.{schema_of}
use Rattle.catalogue.specs.declared.entry.Segment.{Segment}
use Rattle.catalogue.specs.Entries.{plain_entry}
use Rattle.catalogue.specs.laws.Kept.{entry_is}
use Rattle.tables.specs.declared.refusal.Refusal.TheVariants.{OutOfMemory}
use Rattle.store_changes.specs.laws.StepParts.{segment_placed}
use Rattle.store.proofs.Streamed.{stream_at, refuses_at_place, refuses_past, sound_here}
use Rattle.store.proofs.segment_streams.stream_in_entry.Goals as goal

pub encode_schema-requires : goal.encode_schema-requires
encode_schema-requires g c = subst IsWithinLimits (sym c.schema.ensures) (entry_is (plain_entry c.args.entry.now) c.requires.sound).schema

pub returns-in_default-clause-told : goal.returns-in_default-clause-told
returns-in_default-clause-told g c =
    let D = g.D.SectorDevice in
    let none = subst (λ (gs : List Segment). slice_get gs c.args.place ≡ None) c.segments.ensures (slice_get_past c.segments.result.now c.args.place c.in_default.ensures.lookup.3) in
    refuses_past D.tells (shown_image (now (D.story c.args.device.now))) (plain_entry c.args.entry.now) c.args.place none

pub returns-in_default-encode_schema-clause-told : goal.returns-in_default-encode_schema-clause-told
returns-in_default-encode_schema-clause-told g c =
    let D = g.D.SectorDevice in
    let e = plain_entry c.args.entry.now in
    let segment = c.in-Some.segment.now in
    let at = subst (λ (gs : List Segment). slice_get gs c.args.place ≡ Some segment) c.segments.ensures (slice_get_read c.segments.result.now _ c.args.place segment refl c.in-Some.ensures.lookup.3.0 (c.in-Some.ensures.lookup.3.1 _)) in
    refuses_at_place D.tells (shown_image (now (D.story c.args.device.now))) e c.args.place e.schema segment refl at OutOfMemory tt

pub read_stream-requires-clause-placed : goal.read_stream-requires-clause-placed
read_stream-requires-clause-placed g c =
    let e = plain_entry c.args.entry.now in
    let segment = c.in-Some.segment.now in
    let at = subst (λ (gs : List Segment). slice_get gs c.args.place ≡ Some segment) c.segments.ensures (slice_get_read c.segments.result.now _ c.args.place segment refl c.in-Some.ensures.lookup.3.0 (c.in-Some.ensures.lookup.3.1 _)) in
    segment_placed (g.D.SectorDevice.size c.args.device.now) e.segments c.args.place segment c.requires.placed at

pub read_stream-requires-clause-sound : goal.read_stream-requires-clause-sound
read_stream-requires-clause-sound g c =
    let e = plain_entry c.args.entry.now in
    let segment = c.in-Some.segment.now in
    let at = subst (λ (gs : List Segment). slice_get gs c.args.place ≡ Some segment) c.segments.ensures (slice_get_read c.segments.result.now _ c.args.place segment refl c.in-Some.ensures.lookup.3.0 (c.in-Some.ensures.lookup.3.1 _)) in
    sound_here e.segments c.args.place segment (entry_is e c.requires.sound).segments at

pub returns-clause-stream : goal.returns-clause-stream
returns-clause-stream g c =
    let D = g.D.SectorDevice in
    let e = plain_entry c.args.entry.now in
    let segment = c.in-Some.segment.now in
    let at = subst (λ (gs : List Segment). slice_get gs c.args.place ≡ Some segment) c.segments.ensures (slice_get_read c.segments.result.now _ c.args.place segment refl c.in-Some.ensures.lookup.3.0 (c.in-Some.ensures.lookup.3.1 _)) in
    let s = schema_of c.schema.result.now in
    IfOk-weaker c.read_stream.result _ _ (λ stream has. stream_at D.tells (shown_image (now (D.story c.args.device.now))) e c.args.place s segment c.schema.ensures at stream
    (has s (c.deref.ensures.value ∙ c.in-Ok.ensures.message))) c.read_stream.ensures.stream

pub returns-clause-told : goal.returns-clause-told
returns-clause-told g c =
    let D = g.D.SectorDevice in
    let e = plain_entry c.args.entry.now in
    let segment = c.in-Some.segment.now in
    let at = subst (λ (gs : List Segment). slice_get gs c.args.place ≡ Some segment) c.segments.ensures (slice_get_read c.segments.result.now _ c.args.place segment refl c.in-Some.ensures.lookup.3.0 (c.in-Some.ensures.lookup.3.1 _)) in
    let s = schema_of c.schema.result.now in
    IfErr-weaker c.read_stream.result _ _ (λ r lacks. refuses_at_place D.tells (shown_image (now (D.story c.args.device.now))) e c.args.place s segment c.schema.ensures at r
    (lacks s (c.deref.ensures.value ∙ c.in-Ok.ensures.message))) c.read_stream.ensures.told
