use Rattle.std.proofs.lemmas.Result.{IfOk-weaker, IfErr-weaker}
use Rattle.sector_dev.specs.Disk.{now, shown_image}
use Rattle.store_changes.specs.Ahead.{segment_ahead}
use Rattle.store_changes.specs.laws.Digests.{lacks_rows}
use Rattle.store_changes.specs.laws.ReadTables.{reads_ended}
use Rattle.store_changes.proofs.SegmentBytes.{lacks_table, lacks_next, lacks_unread}
use Rattle.store_changes.proofs.reading.read_next_segment.Goals as goal

-- ---- the bytes are given

pub returns-in-Ok-clause-reads : goal.returns-in-Ok-clause-reads
returns-in-Ok-clause-reads g c =
    let D = g.D.SegmentSource in
    reads_ended D.size D.story D.failed D.tells c.next_in_bytes.result c.args.device.now c.next_bytes.new.device c.next_in_bytes.ensures.quiet
    c.in-Ok.ensures.reads

pub returns-in-Ok-clause-means : goal.returns-in-Ok-clause-means
returns-in-Ok-clause-means g c =
    IfOk-weaker c.next_in_bytes.result _ _
    (λ w means. record { bytes = c.in-Ok.bytes.items; copy = c.in-Ok.ensures.copy; means = means }) c.next_in_bytes.ensures.means

pub returns-in-Ok-clause-lacks : goal.returns-in-Ok-clause-lacks
returns-in-Ok-clause-lacks g c =
    let D = g.D.SegmentSource in
    let image = shown_image (now (D.story c.args.device.now)) in
    IfErr-weaker c.next_in_bytes.result _ _ (λ e lacks. lacks D.tells image c.in-Ok.ensures.copy) c.next_in_bytes.ensures.lacks

pub returns-in-Ok-clause-rows : goal.returns-in-Ok-clause-rows
returns-in-Ok-clause-rows g c =
    IfOk-weaker c.next_in_bytes.result _ _
    (λ w rows. λ s message. record { bytes = c.in-Ok.bytes.items; copy = c.in-Ok.ensures.copy; means = rows s message })
    c.next_in_bytes.ensures.rows

pub returns-in-Ok-clause-unread : goal.returns-in-Ok-clause-unread
returns-in-Ok-clause-unread g c =
    let D = g.D.SegmentSource in
    let image = shown_image (now (D.story c.args.device.now)) in
    IfErr-weaker c.next_in_bytes.result _ _
    (λ e unread. λ s rows within message weighs. unread D.tells image s rows c.in-Ok.ensures.copy within message weighs) c.next_in_bytes.ensures.unread

-- ---- they are not given

pub returns-in-Err-clause-lacks : goal.returns-in-Err-clause-lacks
returns-in-Err-clause-lacks g c =
    let D = g.D.SegmentSource in
    let image = shown_image (now (D.story c.args.device.now)) in
    let front = c.args.front.now in
    let segment = (segment_ahead c.args.ahead.now c.args.place) in
    let place = c.args.place in
    let refusal = c.in-Err.refusal in
    lacks_next D.tells image front segment c.args.before place refusal
    (lacks_table D.tells image front segment place refusal c.in-Err.ensures.told)

pub returns-in-Err-clause-unread : goal.returns-in-Err-clause-unread
returns-in-Err-clause-unread g c = λ s rows within message weighs.
    let D = g.D.SegmentSource in
    let image = shown_image (now (D.story c.args.device.now)) in
    let segment = (segment_ahead c.args.ahead.now c.args.place) in
    let place = c.args.place in
    let refusal = c.in-Err.refusal in
    lacks_unread D.tells image s rows segment place refusal (lacks_rows D.tells image s segment place refusal c.in-Err.ensures.told)
