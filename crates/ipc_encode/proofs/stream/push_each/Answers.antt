use Rattle.std.proofs.Common.{◌∙◌, append-nil, sym}
use Rattle.std.proofs.lemmas.List.{drop_all}
use Rattle.ipc_encode.specs.View.{joined_parts}
use Rattle.ipc_encode.proofs.BufferLemmas.{part_joined, slice_joined}
use Rattle.ipc_encode.proofs.stream.push_each.Goals as goal

pub loop-slice-preserved : goal.loop-slice-preserved
loop-slice-preserved c =
    slice_joined c.args.slices.now c.loop-slice.slice-index _ (joined_parts c.loop-slice.parts.items) (joined_parts c.push.new.self.items) _ c.loop-slice-test.true
    (part_joined c.loop-slice.parts.items c.push.new.self.items _ c.in_ok-push.ensures.items) c.loop-slice.invariant

pub returns : goal.returns
returns c = sym (append-nil (joined_parts c.loop-slice.parts.items)) ∙ (rw (drop_all c.loop-slice.slice-index c.args.slices.now c.loop-slice-test.false) at c.loop-slice.invariant)
