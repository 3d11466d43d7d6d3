use Rattle.std.proofs.Common.{◌≡◌, ◌<◌, List, length, get_or, subst, ap, arith}
use Rattle.catalogue.specs.declared.entry.Segment.{Segment}
use Rattle.catalogue.specs.declared.entry.TableEntry.{TableEntry}
use Rattle.catalogue.proofs.Rows.{counted_within, few_segments}
use Rattle.catalogue.proofs.catalogue.Catalogue.segment_count.Goals as goal

pub overflow_add-count : goal.overflow_add-count
overflow_add-count c =
    let es = c.args.self.now.entries.items in
    let same = c.deref-entry-items.ensures.value in
    let lt = subst (λ (xs : List TableEntry). c.loop-entry.entry-index < length xs) same c.loop-entry-test.true in
    let is = subst (λ (xs : List TableEntry). c.entry-item.result ≡ get_or xs c.loop-entry.entry-index c.entry-item.result) same c.entry-item.is in
    let within = counted_within es c.loop-entry.entry-index c.entry-item.result lt is in
    let most = few_segments es c.args.self.now.kept in
    let so_far = c.loop-entry.invariant in
    let count = ap (λ (ss : List Segment). length ss) c.segments.ensures in
    omega (arith, within, most, so_far, count)
