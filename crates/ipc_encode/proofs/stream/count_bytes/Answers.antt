use Rattle.std.proofs.Common.{◌≡◌, List, length, drop, ap, arith}
use Rattle.std.proofs.lemmas.List.{drop_all}
use Rattle.batch_build.specs.declared.batch.Buffer.{Buffer}
use Rattle.ipc_encode.specs.View.{joined_parts}
use Rattle.ipc_encode.proofs.BufferLemmas.{joined_len}
use Rattle.ipc_encode.proofs.stream.count_bytes.Goals as goal

pub loop-part-preserved : goal.loop-part-preserved
loop-part-preserved c =
    let next = joined_len c.args.parts.now c.loop-part.part-index c.part-item.result c.bytes.result.now c.loop-part-test.true c.part-item.is c.bytes.ensures in
    omega (arith, next, c.loop-part.invariant)

pub returns : goal.returns
returns c =
    let none : length (joined_parts (drop c.loop-part.part-index c.args.parts.now)) ≡ 0 = ap (λ (parts : List Buffer). length (joined_parts parts)) (drop_all c.loop-part.part-index c.args.parts.now c.loop-part-test.false) in
    omega (arith, none, c.loop-part.invariant)
