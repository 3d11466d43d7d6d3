use Rattle.std.specs.Prelude.{replicate}
use Rattle.std.proofs.Common.{ℕ, ◌+◌, ◌-◌, ◌∙◌, List, ap}
use Rattle.array_build.proofs.RunContents.{offsets_with, null_offset}
use Rattle.columns.specs.Offsets.{width_of}
use Rattle.array_build.proofs.run_offsets.push_null_offsets.Goals as goal

pub loop-preserved : goal.loop-preserved
loop-preserved c = λ rest.
    let w : ℕ = width_of c.args.width in
    ap (λ (written : List ℕ). offsets_with w written c.args.start (replicate (c.args.count - (c.loop.counter + 1)) 0) rest) c.in_ok-push_offset.ensures.ok
    ∙ null_offset w c.loop.offsets.items c.args.start c.args.count c.loop.counter rest c.loop-test.true ∙ c.loop.invariant rest
