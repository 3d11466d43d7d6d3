use Rattle.std.proofs.Common.{◌≡◌, drop}
use Rattle.std.specs.List.{list_any}
use Rattle.ipc_message.specs.Raw.{nodes_in}
use Rattle.arrays.specs.Checks.{is_bad_length}
use Rattle.arrays.proofs.lengths.any_bad_length.Given as goal

abbrev pub invariant-loop-i : goal.invariant-loop-i
invariant-loop-i l = list_any (λ n. is_bad_length n.length) (drop l.i (nodes_in l.nodes)) ≡ list_any (λ n. is_bad_length n.length) (nodes_in l.nodes)
