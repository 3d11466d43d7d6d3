use Rattle.std.proofs.Common.{◌≡◌, ◌<◌, List, ℕ, [], ◌∷◌, ◌++◌, ◌∙◌, map, length, get_or, take_all, ap, sym, arith}
use Rattle.std.proofs.lemmas.List.{take_more}
use Rattle.batch_build.specs.Batch.{buffers_in}
use Rattle.batch_build.specs.declared.batch.BuiltBuffer.{BuiltBuffer}
use Rattle.ipc_encode.proofs.BufferLemmas.{lengths_more}
use Rattle.ipc_encode.proofs.front.have_lengths.Goals as goal

pub loop-i-preserved : goal.loop-i-preserved
loop-i-preserved c =
    let i = c.loop-i.i in
    let n : ℕ = c.in-Some.length in
    let more = lengths_more c.args.buffers.now i c.index-buffers-i.result n c.loop-i-test.true c.index-buffers-i.is c.in-Some.ensures in
    let within : i < length c.args.lengths.now = omega arith in
    let same : n ≡ get_or c.args.lengths.now i 0 = omega arith in
    more ∙ (λ j. c.loop-i.invariant j ++ same j ∷ []) ∙ sym (take_more c.args.lengths.now i 0 within)

pub returns : goal.returns
returns c = λ _.
    ap (λ (bs : List BuiltBuffer). map length (buffers_in bs)) (sym (take_all c.loop-i.i c.args.buffers.now c.loop-i-test.false))
    ∙ c.loop-i.invariant
    ∙ take_all c.loop-i.i c.args.lengths.now (omega arith)
