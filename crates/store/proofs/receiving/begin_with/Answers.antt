use Rattle.std.proofs.Common.{map, sym, arith}
use Rattle.std.proofs.lemmas.List.{length-map}
use Rattle.store.specs.declared.segment_streams.SegmentInfo.{SegmentInfo}
use Rattle.store.proofs.Received.{begin_short}
use Rattle.store.proofs.receiving.begin_with.Goals as goal

pub returns-then-own-listed : goal.returns-then-own-listed
returns-then-own-listed c =
    let longer = c.if-own-listed.true in
    let count = length-map c.args.own.now (λ (i : SegmentInfo). i.digest) in
    sym (begin_short (map (λ (i : SegmentInfo). i.digest) c.args.own.now) c.args.listed.now (omega (arith, count, longer)))
