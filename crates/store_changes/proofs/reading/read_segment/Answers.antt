use Rattle.std.proofs.lemmas.Result.{IfOk-weaker, IfErr-weaker}
use Rattle.sector_dev.specs.Disk.{now, shown_image}
use Rattle.store_changes.specs.laws.Digests.{lacks_rows}
use Rattle.store_changes.specs.laws.ReadTables.{reads_ended}
use Rattle.store_changes.proofs.SegmentBytes.{lacks_table}
use Rattle.store_changes.proofs.reading.read_segment.Goals as goal

-- ---- the bytes are given

pub returns-in-Ok-clause-reads : goal.returns-in-Ok-clause-reads
returns-in-Ok-clause-reads g c =
    let D = g.D.SectorDevice in
    reads_ended D.size D.story D.failed D.tells c.segment_in_bytes.result c.args.device.now c.read_bytes.new.device c.segment_in_bytes.ensures.quiet
    c.in-Ok.ensures.reads

pub returns-in-Ok-clause-means : goal.returns-in-Ok-clause-means
returns-in-Ok-clause-means g c =
    IfOk-weaker c.segment_in_bytes.result _ _
    (λ w means. record { bytes = c.in-Ok.bytes.items; copy = c.in-Ok.ensures.copy; means = means }) c.segment_in_bytes.ensures.means

pub returns-in-Ok-clause-lacks : goal.returns-in-Ok-clause-lacks
returns-in-Ok-clause-lacks g c =
    let D = g.D.SectorDevice in
    let image = shown_image (now (D.story c.args.device.now)) in
    IfErr-weaker c.segment_in_bytes.result _ _ (λ e lacks. lacks D.tells image c.in-Ok.ensures.copy) c.segment_in_bytes.ensures.lacks

pub returns-in-Ok-clause-rows : goal.returns-in-Ok-clause-rows
returns-in-Ok-clause-rows g c =
    IfOk-weaker c.segment_in_bytes.result _ _
    (λ w rows. λ s message. record { bytes = c.in-Ok.bytes.items; copy = c.in-Ok.ensures.copy; means = rows s message })
    c.segment_in_bytes.ensures.rows

pub returns-in-Ok-clause-told : goal.returns-in-Ok-clause-told
returns-in-Ok-clause-told g c =
    let D = g.D.SectorDevice in
    let image = shown_image (now (D.story c.args.device.now)) in
    IfErr-weaker c.segment_in_bytes.result _ _ (λ e told. λ s message. told D.tells image s c.in-Ok.ensures.copy message) c.segment_in_bytes.ensures.told

-- ---- they are not given

pub returns-in-Err-clause-lacks : goal.returns-in-Err-clause-lacks
returns-in-Err-clause-lacks g c =
    let D = g.D.SectorDevice in
    lacks_table D.tells (shown_image (now (D.story c.args.device.now))) c.args.front.now c.args.segment c.args.place c.in-Err.refusal c.in-Err.ensures.told

pub returns-in-Err-clause-told : goal.returns-in-Err-clause-told
returns-in-Err-clause-told g c = λ s message.
    let D = g.D.SectorDevice in
    lacks_rows D.tells (shown_image (now (D.story c.args.device.now))) s c.args.segment c.args.place c.in-Err.refusal c.in-Err.ensures.told
