use Rattle.std.proofs.Common.{arith}
use Rattle.values.specs.inner.Starts.{batch_lengths_at}
use Rattle.values.proofs.PartLemmas.{many_starts, kept_starts}
use Rattle.values.proofs.StartLemmas.{kept_start, as_many}
use Rattle.values.proofs.batches.Batches.batch_start.Goals as goal

pub index-requires : goal.index-requires
index-requires c =
    omega (arith, c.requires.in_parts, many_starts c.args.self.now.parts.items c.args.self.now.batch_starts.items c.args.self.now.batches_start)

pub index-requires-2 : goal.index-requires-2
index-requires-2 c =
    let starts = kept_starts c.args.self.now.parts.items c.args.self.now.batch_starts.items c.args.part c.index.result.now c.args.self.now.batches_start c.requires.in_parts c.index.ensures in
    omega (arith, c.requires.in_part, as_many (batch_lengths_at c.args.self.now.parts.items c.args.part) c.index.result.now.items starts)

pub returns : goal.returns
returns c =
    let starts = kept_starts c.args.self.now.parts.items c.args.self.now.batch_starts.items c.args.part c.index.result.now c.args.self.now.batches_start c.requires.in_parts c.index.ensures in
    kept_start (batch_lengths_at c.args.self.now.parts.items c.args.part) c.index.result.now.items c.args.batch c.index-2.result.now starts c.requires.in_part c.index-2.ensures
