use Rattle.std.proofs.Common.{◌≡◌, ◌≤◌, length, map, take, vec_len, vec_capacity}
use Rattle.ipc_write.proofs.framing.lengths_of.Given as goal

abbrev pub invariant-loop-buffer : goal.invariant-loop-buffer
invariant-loop-buffer l = record {
  lengths : l.lengths.items ≡ map length (map (λ b. b.now) (take l.buffer-index l.buffers));
  len : vec_len l.lengths ≡ l.buffer-index;
  room : length l.buffers ≤ vec_capacity l.lengths;
}
