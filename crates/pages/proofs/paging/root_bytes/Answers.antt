use Rattle.std.proofs.Common.{◌+◌, ℕ, List, length, ap, arith}
use Rattle.catalogue.specs.Entries.{PlainEntry}
use Rattle.catalogue.specs.View.{catalogue_of}
use Rattle.pages.proofs.Passing.{stands_at, next_sum}
use Rattle.pages.proofs.paging.root_bytes.Goals as goal

pub loop-entry-preserved : goal.loop-entry-preserved
loop-entry-preserved c =
    let es = c.entries-entries.result.now in
    let i = c.loop-entry.entry-index in
    let x = c.entry-item.result in
    let short = (stands_at es i x (catalogue_of c.args.list.now) c.entries-entries.ensures.entries c.entries-entries.ensures.kept c.loop-entry-test.true c.entry-item.is).short in
    let sum = next_sum (λ (e : PlainEntry). 28 + length e.name) es i x c.loop-entry-test.true c.entry-item.is in
    let named = ap (λ (bytes : List ℕ). length bytes) c.name.ensures in
    record { bytes = omega (arith, sum, named, c.loop-entry.invariant.bytes); most = omega (arith, short, named, c.loop-entry.invariant.most) }
