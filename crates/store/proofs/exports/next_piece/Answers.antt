use Rattle.std.specs.Prelude.{◌==◌, option_map, slice_get, if◌then◌else◌}
use Rattle.std.proofs.Common.{◌≡◌, ◌≢◌, ◌-◌, length, ℕ, suc, false, List, Some, None, refl, sym, ap, ◌∙◌, subst, arith}
use Rattle.std.proofs.lemmas.Option.{slice_get_read, slice_get_past}
use Rattle.ipc_write.specs.Written.{schema_message, end_of_stream}
use Rattle.std.proofs.lemmas.Result.{IfOk-weaker, IfErr-weaker}
use Rattle.sector_dev.specs.Disk.{now, shown_image}
use Rattle.catalogue.specs.declared.entry.Segment.{Segment}
use Rattle.export_book.specs.Book.{PlainExport}
use Rattle.export_book.specs.Plain.{plain_export}
use Rattle.tables.specs.declared.refusal.Refusal.TheVariants.{OutOfMemory}
use Rattle.store_runs.specs.Calls.{is_failure, done}
use Rattle.store_runs.specs.Reading.{HasRows, LacksRows}
use Rattle.store_changes.specs.laws.ReadTables.{reads_quiet, reads_ended}
use Rattle.store_changes.specs.laws.StepParts.{segment_placed}
use Rattle.store.proofs.ExportAnswers.{piece_first, refused_first, piece_behind, refused_behind}
use Rattle.arrow_schema.specs.Column.{PlainSchema}
use Rattle.arrow_schema.specs.Limits.{IsWithinLimits}
use Rattle.catalogue.specs.laws.Kept.{is_within}
use Rattle.store.proofs.exports.next_piece.Goals as goal

pub returns-then-export-eq0-clause-reads : goal.returns-then-export-eq0-clause-reads
returns-then-export-eq0-clause-reads g c =
    let D = g.D.SectorDevice in
    reads_ended D.size D.story D.failed D.tells c.first_piece.result c.args.device.now c.args.device.now
    (IfErr-weaker c.first_piece.result (λ e. e ≡ OutOfMemory) (λ e. is_failure e ≡ false) (λ e is. ap is_failure is) c.first_piece.ensures.memory)
    (reads_quiet D.size D.story D.failed D.tells done c.args.device.now refl)

pub returns-then-export-eq0-clause-piece : goal.returns-then-export-eq0-clause-piece
returns-then-export-eq0-clause-piece g c =
    let D = g.D.SectorDevice in
    let b : PlainExport = plain_export c.args.export.now in
    IfOk-weaker c.first_piece.result _ _ (λ piece is. piece_first D.tells (shown_image (now (D.story c.args.device.now))) b b.given _ c.if-export-eq0.true (is ∙ ap (λ (s : PlainSchema). Some (schema_message s)) c.schema.ensures)) c.first_piece.ensures.message

pub returns-then-export-eq0-clause-told : goal.returns-then-export-eq0-clause-told
returns-then-export-eq0-clause-told g c =
    let D = g.D.SectorDevice in
    let b : PlainExport = plain_export c.args.export.now in
    IfErr-weaker c.first_piece.result _ _ (λ e is. refused_first D.tells (shown_image (now (D.story c.args.device.now))) b b.given e c.if-export-eq0.true is) c.first_piece.ensures.memory

pub first_piece-requires : goal.first_piece-requires
first_piece-requires g c = subst IsWithinLimits (sym c.schema.ensures) (is_within (plain_export c.args.export.now).schema c.requires.sound.within)

pub segment_piece-requires-clause-limits : goal.segment_piece-requires-clause-limits
segment_piece-requires-clause-limits g c = subst IsWithinLimits (sym c.schema-in-Some.ensures) (is_within (plain_export c.args.export.now).schema c.requires.sound.within)

-- ---- the segment at a place

-- the next number
behind : (n : ℕ) → n ≢ 0 → n ≡ suc (n - 1)
behind n other = omega (arith, other)

pub segment_piece-requires-clause-placed : goal.segment_piece-requires-clause-placed
segment_piece-requires-clause-placed g c =
    let segments = (plain_export c.args.export.now).segments in
    let place = c.args.export.now.given - 1 in
    let segment = c.in-Some.segment.now in
    let at = subst (λ (gs : List Segment). slice_get gs place ≡ Some segment) c.segments.ensures (slice_get_read c.segments.result.now _ place segment refl c.in-Some.ensures.lookup.3.0 (c.in-Some.ensures.lookup.3.1 _)) in
    segment_placed (g.D.SectorDevice.size c.args.device.now) segments place segment c.requires.sound.placed at

pub returns-in-Some-clause-piece : goal.returns-in-Some-clause-piece
returns-in-Some-clause-piece g c =
    let D = g.D.SectorDevice in
    let b : PlainExport = plain_export c.args.export.now in
    let place = b.given - 1 in
    let segment = c.in-Some.segment.now in
    let at = subst (λ (gs : List Segment). slice_get gs place ≡ Some segment) c.segments.ensures (slice_get_read c.segments.result.now _ place segment refl c.in-Some.ensures.lookup.3.0 (c.in-Some.ensures.lookup.3.1 _)) in
    IfOk-weaker c.segment_piece.result _ _ (λ piece of. piece_behind D.tells (shown_image (now (D.story c.args.device.now))) b b.given place (Some segment) _ (behind b.given c.if-export-eq0.false) at (subst (λ (s : PlainSchema). HasRows D.tells (shown_image (now (D.story c.args.device.now))) s segment (option_map (λ v. v.items) piece)) c.schema-in-Some.ensures of)) c.segment_piece.ensures.piece

pub returns-in-Some-clause-told : goal.returns-in-Some-clause-told
returns-in-Some-clause-told g c =
    let D = g.D.SectorDevice in
    let b : PlainExport = plain_export c.args.export.now in
    let place = b.given - 1 in
    let segment = c.in-Some.segment.now in
    let at = subst (λ (gs : List Segment). slice_get gs place ≡ Some segment) c.segments.ensures (slice_get_read c.segments.result.now _ place segment refl c.in-Some.ensures.lookup.3.0 (c.in-Some.ensures.lookup.3.1 _)) in
    IfErr-weaker c.segment_piece.result _ _ (λ e of. refused_behind D.tells (shown_image (now (D.story c.args.device.now))) b b.given place (Some segment) e (behind b.given c.if-export-eq0.false) at (subst (λ (s : PlainSchema). LacksRows D.tells (shown_image (now (D.story c.args.device.now))) s segment place e) c.schema-in-Some.ensures of)) c.segment_piece.ensures.told

pub returns-in-None-clause-piece : goal.returns-in-None-clause-piece
returns-in-None-clause-piece g c =
    let D = g.D.SectorDevice in
    let b : PlainExport = plain_export c.args.export.now in
    let place = b.given - 1 in
    let none = subst (λ (gs : List Segment). slice_get gs place ≡ None) c.segments.ensures (slice_get_past c.segments.result.now place c.in-None.ensures.lookup.3) in
    let count = ap (λ (gs : List Segment). length gs) c.segments-in-None.ensures in
    IfOk-weaker c.last_piece.result _ _
    (λ piece end. piece_behind D.tells (shown_image (now (D.story c.args.device.now))) b b.given place None _ (behind b.given c.if-export-eq0.false) none (end ∙ ap (λ (n : ℕ). if place == n then Some end_of_stream else None) count))
    c.last_piece.ensures.end
