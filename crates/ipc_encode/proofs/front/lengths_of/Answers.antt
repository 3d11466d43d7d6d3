use Rattle.std.proofs.Common.{◌≡◌, ◌+◌, List, ℕ, [], ◌∷◌, ◌++◌, ◌∙◌, map, length, take, take_all, ap, arith, sym}
use Rattle.batch_build.specs.Batch.{buffers_in}
use Rattle.batch_build.specs.declared.batch.BuiltBuffer.{BuiltBuffer}
use Rattle.ipc_encode.proofs.BufferLemmas.{lengths_more}
use Rattle.ipc_encode.proofs.front.lengths_of.Goals as goal

pub push_reserved-requires : goal.push_reserved-requires
push_reserved-requires c = omega (arith, c.loop-buffer-test.true, c.loop-buffer.invariant.len, c.loop-buffer.invariant.room)

pub loop-buffer-preserved : goal.loop-buffer-preserved
loop-buffer-preserved c =
    let bs = c.args.buffers.now in
    let i = c.loop-buffer.buffer-index in
    let n : ℕ = c.in-Some.length in
    let before : List ℕ = map length (buffers_in (take i bs)) in
    let more : map length (buffers_in (take (i + 1) bs)) ≡ before ++ n ∷ [] = lengths_more bs i c.buffer-item.result n c.loop-buffer-test.true c.buffer-item.is c.in-Some.ensures in
    let pushed : c.push_reserved.new.self.items ≡ c.loop-buffer.lengths.items ++ n ∷ [] = c.push_reserved.ensures.items in
    record {
      lengths = pushed ∙ ap (λ (ns : List ℕ). ns ++ n ∷ []) c.loop-buffer.invariant.lengths ∙ sym more;
      len = omega (arith, c.push_reserved.ensures.len, c.loop-buffer.invariant.len);
      room = omega (arith, c.push_reserved.ensures.capacity, c.loop-buffer.invariant.room);
    }

pub returns : goal.returns
returns c = c.loop-buffer.invariant.lengths ∙ ap (λ (bs : List BuiltBuffer). map length (buffers_in bs)) (take_all c.loop-buffer.buffer-index c.args.buffers.now c.loop-buffer-test.false)
