use Rattle.std.proofs.Common.{arith}
use Rattle.values.specs.inner.Starts.{part_lengths}
use Rattle.values.proofs.PartLemmas.{many_parts}
use Rattle.values.proofs.StartLemmas.{kept_start, as_many}
use Rattle.values.proofs.batches.Batches.part_start.Goals as goal

pub index-requires : goal.index-requires
index-requires c =
    let parts = c.args.self.now.parts.items in
    omega (arith, c.requires, many_parts parts, as_many (part_lengths parts) c.args.self.now.part_starts.items c.args.self.now.parts_start)

pub returns : goal.returns
returns c =
    let parts = c.args.self.now.parts.items in
    kept_start (part_lengths parts) c.args.self.now.part_starts.items c.args.part c.index.result.now c.args.self.now.parts_start (omega (arith, c.requires, many_parts parts)) c.index.ensures
