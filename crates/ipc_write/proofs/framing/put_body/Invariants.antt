use Rattle.std.proofs.Common.{◌≡◌, ◌++◌, map, drop, take, length}
use Rattle.ipc_write.specs.Written.{body}
use Rattle.ipc_write.proofs.framing.put_body.Given as goal

-- what is written, and the body of the buffers that are left
abbrev pub invariant-loop-buffer : goal.invariant-loop-buffer
invariant-loop-buffer l =
    (l.out.items ++ body (map (λ b. b.now) (drop l.buffer-index l.buffers)) ≡ l.initial.out.items ++ body (map (λ b. b.now) l.buffers))
    × (take (length l.initial.out.items) l.out.items ≡ l.initial.out.items)
