use Rattle.std.proofs.Common.{arith}
use Rattle.catalogue.specs.View.{catalogue_of}
use Rattle.pages.proofs.Passing.{stands_at}
use Rattle.pages.proofs.paging.page_sizes.Goals as goal

pub page_size-requires-clause-sound : goal.page_size-requires-clause-sound
page_size-requires-clause-sound c =
    (stands_at c.entries-entries.result.now c.loop-entry.entry-index c.entry-item.result (catalogue_of c.args.list.now) c.entries-entries.ensures.entries c.entries-entries.ensures.kept c.loop-entry-test.true c.entry-item.is).sound

pub page_size-requires-clause-segments : goal.page_size-requires-clause-segments
page_size-requires-clause-segments c =
    let few = (stands_at c.entries-entries.result.now c.loop-entry.entry-index c.entry-item.result (catalogue_of c.args.list.now) c.entries-entries.ensures.entries c.entries-entries.ensures.kept c.loop-entry-test.true c.entry-item.is).few in
    omega (arith, few)
