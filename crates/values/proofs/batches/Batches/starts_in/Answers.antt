use Rattle.std.proofs.Common.{◌∙◌, arith}
use Rattle.values.proofs.PartLemmas.{many_starts, kept_starts}
use Rattle.values.proofs.batches.Batches.starts_in.Goals as goal

pub index-requires : goal.index-requires
index-requires c =
    omega (arith, c.requires, many_starts c.args.self.now.parts.items c.args.self.now.batch_starts.items c.args.self.now.batches_start)

pub returns : goal.returns
returns c =
    c.deref.ensures.value
    ∙ kept_starts c.args.self.now.parts.items c.args.self.now.batch_starts.items c.args.part c.index.result.now c.args.self.now.batches_start c.requires c.index.ensures
