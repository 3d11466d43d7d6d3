use Rattle.std.proofs.Common.{◌≡◌, List, ℕ, map, ap, sym, ◌∙◌}
use Rattle.batch_build.specs.Batch.{buffers_in, node_in}
use Rattle.ipc_encode.specs.inner.Messages.{built_batch}
use Rattle.ipc_encode.proofs.front.BatchFront.new.Goals as goal

pub front_bytes-requires : goal.front_bytes-requires
front_bytes-requires c = (buffers_in c.args.buffers.now, (sym (c.deref-2.ensures.value ∙ c.in_ok-lengths.ensures), c.requires))

pub invariant_of-result : goal.invariant_of-result
invariant_of-result c =
    let own : c.in_ok-own.own.items ≡ c.args.nodes.items = c.in_ok-own.ensures.items ∙ c.deref.ensures.value in
    record {
      begins = λ buffers same. c.in_ok-bytes.ensures buffers (same ∙ sym c.deref-2.ensures.value)
          ∙ ap (λ (ns : List (ℕ × ℕ)). built_batch c.args.rows (map node_in ns) buffers) (sym own);
    }

pub returns : goal.returns
returns c = c.in_ok-bytes.ensures (buffers_in c.args.buffers.now) (sym (c.deref-2.ensures.value ∙ c.in_ok-lengths.ensures))
