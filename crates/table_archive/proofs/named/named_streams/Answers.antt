use Rattle.std.proofs.Common.{ap}
use Rattle.table_archive.specs.Found.{Entry, stream_in}
use Rattle.table_archive.specs.inner.Named.{digest_with, contents}
use Rattle.table_archive.proofs.NamedLemmas.{one_more}
use Rattle.table_archive.proofs.named.named_streams.Goals as goal

pub loop-place-init : goal.loop-place-init
loop-place-init c = record { names = c.new.ensures.items; streams = ap contents c.new-2.ensures.items }

pub loop-place-preserved : goal.loop-place-preserved
loop-place-preserved c =
    let entries = c.args.streams.now.entries in
    let next = c.in_ok-push_at.ensures in
    let was = c.loop-place.invariant in
    record {
      names = one_more (λ (e : Entry). digest_with e.0 e.1) entries c.loop-place.place next.0 _ _ next.1 was.names next.2;
      streams = one_more (λ (e : Entry). stream_in e.1) entries c.loop-place.place next.0 _ _ next.1 was.streams next.3;
    }
