use Rattle.std.proofs.Common.{◌≡◌, drop, map}
use Rattle.ipc_message.specs.Same.{same_pairs}
use Rattle.ipc_message.specs.View.{key_value}
use Rattle.ipc_message.proofs.same.have_same_pairs.Given as goal

abbrev pub invariant-loop-i : goal.invariant-loop-i
invariant-loop-i l = same_pairs (map key_value (drop l.i l.one)) (map key_value (drop l.i l.other)) ≡ same_pairs (map key_value l.one) (map key_value l.other)
