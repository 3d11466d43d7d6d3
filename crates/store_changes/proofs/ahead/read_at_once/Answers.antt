use Rattle.std.proofs.Common.{rules, ◌≡◌, ◌+◌, true, sym}
use Rattle.sector_dev.specs.Disk.{now, shown_image}
use Rattle.store_runs.specs.Calls.{done}
use Rattle.store_runs.specs.Reading.{OnlyReadsDevice, ended}
use Rattle.store_changes.specs.Ahead.{HasBytes}
use Rattle.store_changes.specs.laws.ReadTables.{reads_more, image_then}
use Rattle.store_changes.proofs.ReadEarly.{bytes_then, each_weaker}
use Rattle.store_changes.proofs.ahead.read_at_once.Goals as goal

-- ---- the device fails while one behind it is read

pub returns-in_err-early-clause-reads : goal.returns-in_err-early-clause-reads
returns-in_err-early-clause-reads g c =
    let D = g.D.SegmentSource in
    let reply = ended c.from_residual-in_err-early.result in
    let mid = c.read_untested.new.device in
    let own : OnlyReadsDevice D.size D.story D.failed D.tells reply mid c.read_three.new.device = search rules in
    reads_more D.size D.story D.failed D.tells reply c.args.device.now mid c.read_three.new.device c.in_ok-bytes.ensures.reads own

-- ---- its bytes have its digest

pub returns-then-undamaged-clause-reads : goal.returns-then-undamaged-clause-reads
returns-then-undamaged-clause-reads g c =
    let D = g.D.SegmentSource in
    reads_more D.size D.story D.failed D.tells done c.args.device.now c.read_untested.new.device c.read_three.new.device c.in_ok-bytes.ensures.reads c.in_ok-early.ensures.reads

pub returns-then-undamaged-clause-early : goal.returns-then-undamaged-clause-early
returns-then-undamaged-clause-early g c =
    let D = g.D.SegmentSource in
    let mid = D.story c.read_untested.new.device in
    let last = D.story c.read_three.new.device in
    let before = shown_image (now mid) in
    let image = shown_image (now last) in
    let same : D.tells ≡ true → before ≡ image = λ told. sym (image_then mid last (c.in_ok-early.ensures.reads.moments told)) in
    c.test_at_once-undamaged.ensures.early D.tells image
    (each_weaker (HasBytes D.tells before) (HasBytes D.tells image) c.args.segments.now (c.args.place + 1) c.in_ok-early.early (λ segment bytes h. bytes_then D.tells image before segment bytes same h)
    c.in_ok-early.ensures.bytes)

-- ---- they have another one

pub returns-else-undamaged-clause-reads : goal.returns-else-undamaged-clause-reads
returns-else-undamaged-clause-reads g c =
    let D = g.D.SegmentSource in
    let reads = reads_more D.size D.story D.failed D.tells done c.args.device.now c.read_untested.new.device c.read_three.new.device c.in_ok-bytes.ensures.reads c.in_ok-early.ensures.reads in
    record { same = reads.same; moments = reads.moments; count = reads.count }
