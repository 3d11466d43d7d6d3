use Rattle.std.proofs.Common.{◌≡◌, ◌++◌, ◌∙◌, ℕ, List, ap, sym, append-nil}
use Rattle.std.proofs.lemmas.List.{drop_all}
use Rattle.ipc_encode.specs.View.{joined_parts}
use Rattle.ipc_encode.proofs.BufferLemmas.{joined_more}
use Rattle.ipc_encode.proofs.stream.join.Goals as goal

pub loop-part-preserved : goal.loop-part-preserved
loop-part-preserved c =
    joined_more c.args.parts.now c.loop-part.part-index c.part-item.result c.bytes.result.now c.loop-part.bytes.items c.extend_from_slice.new.self.items _ c.loop-part-test.true c.part-item.is c.bytes.ensures
    c.in_ok-extend_from_slice.ensures.items c.loop-part.invariant

pub returns : goal.returns
returns c =
    let all : c.loop-part.bytes.items ≡ joined_parts c.args.parts.now = sym (append-nil c.loop-part.bytes.items) ∙ (rw (drop_all c.loop-part.part-index c.args.parts.now c.loop-part-test.false) at c.loop-part.invariant) in
    c.in_ok-extend_from_slice-2.ensures.items ∙ ap (λ (xs : List ℕ). xs ++ c.args.last.now) all
