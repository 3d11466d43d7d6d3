use Rattle.std.specs.Io.KnownBytes.{Appends}
use Rattle.std.proofs.Common.{◌≡◌, false, ap, subst}
use Rattle.std.proofs.lemmas.Result.{on_ok_weaker, IfErr-weaker}
use Rattle.sector_dev.specs.Disk.{now, shown_image}
use Rattle.tables.specs.declared.refusal.Refusal.TheVariants.{Write}
use Rattle.store_runs.specs.Calls.{is_failure}
use Rattle.store.specs.Salvaging.{plain_left}
use Rattle.store_changes.specs.laws.ReadTables.{reads_ended}
use Rattle.store.proofs.Salvaged.{salvaged_rows, breaks_writing}
use Rattle.store.proofs.salvaging.salvage_segment.Goals as goal

-- ---- the rows are written

pub returns-in-Ok-Some-clause-reads : goal.returns-in-Ok-Some-clause-reads
returns-in-Ok-Some-clause-reads g c =
    let D = g.D.SectorDevice in
    let reads = c.in-Ok-Some.ensures.reads in
    reads_ended D.size D.story D.failed D.tells c.write_bytes.result c.args.device.now c.messages_of.new.device
    (IfErr-weaker c.write_bytes.result (λ e. e ≡ Write) (λ e. is_failure e ≡ false) (λ e is. ap is_failure is) c.write_bytes.ensures.fails)
    (record { same = reads.same; moments = reads.moments; count = reads.count })

pub returns-in-Ok-Some-clause-salvaged : goal.returns-in-Ok-Some-clause-salvaged
returns-in-Ok-Some-clause-salvaged g c =
    let D = g.D.SectorDevice in
    let W = g.W.Write in
    let finds = rw c.in-Ok-Some.field-0-is at c.in-Ok-Some.ensures.found in
    on_ok_weaker c.write_bytes.result
    (λ wrote s within message. salvaged_rows D.tells (shown_image (now (D.story c.args.device.now))) s c.args.segment c.args.place c.in-Ok-Some.messages.items _ _ (plain_left c.args.left_out.now.items) (finds s within message)
    (subst (Appends (W.contents c.args.writer.now) (W.contents c.write_bytes.new.writer)) c.deref.ensures.value wrote))
    c.write_bytes.ensures.written

pub returns-in-Ok-Some-clause-fails : goal.returns-in-Ok-Some-clause-fails
returns-in-Ok-Some-clause-fails g c = IfErr-weaker c.write_bytes.result _ _ (λ e is s message. breaks_writing e is) c.write_bytes.ensures.fails
