use Rattle.std.proofs.Common.{◌<◌, List, sym, ap, arith}
use Rattle.std.specs.Prelude.{length}
use Rattle.catalogue.specs.declared.limits.TheConstants.{MAX_SEGMENTS}
use Rattle.catalogue.specs.declared.entry.Segment.{Segment}
use Rattle.catalogue.specs.Entries.{plain_entry}
use Rattle.catalogue.proofs.Seats.{too_many}
use Rattle.catalogue.proofs.testing.have_few_segments.Goals as goal

pub returns-then-count-left : goal.returns-then-count-left
returns-then-count-left c =
    let more : c.loop-entry.left < length (plain_entry c.entry-item.result).segments = let lt = c.if-count-left.true in let same = ap (λ (ss : List Segment). length ss) c.segments.ensures in omega (arith, lt, same) in
    sym (too_many c.args.entries.now c.loop-entry.entry-index c.loop-entry.left MAX_SEGMENTS c.entry-item.result c.loop-entry-test.true c.entry-item.is c.loop-entry.invariant more)
