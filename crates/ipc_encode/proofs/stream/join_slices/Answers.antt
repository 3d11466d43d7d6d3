use Rattle.std.proofs.Common.{◌∙◌, append-nil, sym}
use Rattle.std.proofs.lemmas.List.{drop_all}
use Rattle.ipc_encode.proofs.BufferLemmas.{slice_joined}
use Rattle.ipc_encode.proofs.stream.join_slices.Goals as goal

pub loop-slice-preserved : goal.loop-slice-preserved
loop-slice-preserved c =
    slice_joined c.args.slices.now c.loop-slice.slice-index _ c.loop-slice.last.items c.extend_from_slice.new.self.items _ c.loop-slice-test.true c.in_ok-extend_from_slice.ensures.items
    c.loop-slice.invariant

pub returns : goal.returns
returns c = sym (append-nil c.loop-slice.last.items) ∙ (rw (drop_all c.loop-slice.slice-index c.args.slices.now c.loop-slice-test.false) at c.loop-slice.invariant)
