use Rattle.std.specs.Vec.Iter.{into_iter_items}
use Rattle.std.proofs.Common.{◌≡◌, ◌++◌}
use Rattle.batch_build.specs.Batch.{buffers_in}
use Rattle.ipc_encode.specs.inner.Stream.{stream_in}
use Rattle.ipc_write.specs.Written.{body}
use Rattle.ipc_encode.proofs.stream.push_body.Given as goal

-- what is written, and the buffers that are left
abbrev pub invariant-loop-buffer : goal.invariant-loop-buffer
invariant-loop-buffer l =
    let left = into_iter_items l.buffer-iterator in
    record {
      next : goal.iterator-loop-buffer.can_next l.buffer-iterator;
      ends : goal.iterator-loop-buffer.is_finite l.buffer-iterator;
      written : stream_in l.stream ++ body (buffers_in left) ≡ stream_in l.fn.stream ++ body (buffers_in l.fn.buffers.items);
    }
