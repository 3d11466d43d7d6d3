use Rattle.std.proofs.Common.{◌≡◌, drop}
use Rattle.std.specs.List.{list_any}
use Rattle.ipc_message.specs.Raw.{buffers_in}
use Rattle.arrays.specs.Checks.{is_outside}
use Rattle.arrays.proofs.lengths.any_outside.Given as goal

abbrev pub invariant-loop-i : goal.invariant-loop-i
invariant-loop-i l = list_any (is_outside l.body) (drop l.i (buffers_in l.buffers)) ≡ list_any (is_outside l.body) (buffers_in l.buffers)
