use Rattle.std.proofs.Common.{rules, ◌+◌}
use Rattle.sector_dev.specs.Disk.{now, shown_image}
use Rattle.store_runs.specs.Calls.{done}
use Rattle.store_runs.specs.Reading.{OnlyReadsDevice, ended}
use Rattle.store_changes.specs.Ahead.{segment_at}
use Rattle.store_changes.specs.laws.Ahead.{still_readable}
use Rattle.store_changes.specs.laws.ReadTables.{reads_more, image_then}
use Rattle.store_changes.proofs.ReadEarly.{bytes_then, if_weaker}
use Rattle.store_changes.proofs.ahead.read_three.Goals as goal

-- ---- the second segment

pub returns-in_err-second-clause-reads : goal.returns-in_err-second-clause-reads
returns-in_err-second-clause-reads g c =
    let D = g.D.SegmentSource in
    let reply = ended c.from_residual-in_err-second.result in
    let own : OnlyReadsDevice D.size D.story D.failed D.tells reply c.read_early.new.device c.read_early-2.new.device = search rules in
    reads_more D.size D.story D.failed D.tells reply c.args.device.now c.read_early.new.device c.read_early-2.new.device c.in_ok-first.ensures.reads own

-- ---- the third

pub read_early-requires-3-clause-readable : goal.read_early-requires-3-clause-readable
read_early-requires-3-clause-readable g c =
    let D = g.D.SegmentSource in
    let laws = g.met.D.SegmentSource in
    let start = c.args.device.now in
    let mid = c.read_early.new.device in
    let device = c.read_early-2.new.device in
    still_readable (D.can_read start) (D.can_read device) c.args.segments.now
    (λ place. laws.still start device place (laws.onward start mid device c.in_ok-first.ensures.goes_on c.in_ok-second.ensures.goes_on)) c.requires.readable

pub returns-in_err-third-clause-reads : goal.returns-in_err-third-clause-reads
returns-in_err-third-clause-reads g c =
    let D = g.D.SegmentSource in
    let start = c.args.device.now in
    let two = c.read_early-2.new.device in
    let reply = ended c.from_residual-in_err-third.result in
    let own : OnlyReadsDevice D.size D.story D.failed D.tells reply two c.read_early-3.new.device = search rules in
    reads_more D.size D.story D.failed D.tells reply start two c.read_early-3.new.device
    (reads_more D.size D.story D.failed D.tells done start c.read_early.new.device two c.in_ok-first.ensures.reads c.in_ok-second.ensures.reads) own

-- ---- all three

pub returns-clause-reads : goal.returns-clause-reads
returns-clause-reads g c =
    let D = g.D.SegmentSource in
    let start = c.args.device.now in
    let two = c.read_early-2.new.device in
    reads_more D.size D.story D.failed D.tells done start two c.read_early-3.new.device
    (reads_more D.size D.story D.failed D.tells done start c.read_early.new.device two c.in_ok-first.ensures.reads c.in_ok-second.ensures.reads) c.in_ok-third.ensures.reads

pub returns-clause-bytes : goal.returns-clause-bytes
returns-clause-bytes g c =
    let D = g.D.SegmentSource in
    let segments = c.args.segments.now in
    let place = c.args.place in
    let start = c.args.device.now in
    let one = c.read_early.new.device in
    let two = c.read_early-2.new.device in
    let image = shown_image (now (D.story start)) in
    let first = c.in_ok-first.ensures.reads in
    let both = reads_more D.size D.story D.failed D.tells done start one two first c.in_ok-second.ensures.reads in
    record {
      first = c.in_ok-first.ensures.bytes;
      second = if_weaker _ _ c.in_ok-second.second
          (λ bytes h. bytes_then D.tells image (shown_image (now (D.story one))) (segment_at segments (place + 1)) bytes.items (λ told. image_then (D.story start) (D.story one) (first.moments told)) h)
          c.in_ok-second.ensures.bytes;
      third = if_weaker _ _ c.in_ok-third.third
          (λ bytes h. bytes_then D.tells image (shown_image (now (D.story two))) (segment_at segments (place + 2)) bytes.items (λ told. image_then (D.story start) (D.story two) (both.moments told)) h)
          c.in_ok-third.ensures.bytes;
    }
