use Rattle.std.proofs.Common.{◌≡◌, false, drop}
use Rattle.std.specs.List.{list_any, zip}
use Rattle.ipc_message.specs.Raw.{nodes_in}
use Rattle.arrays.specs.Checks.{is_miscounted, typed_is_short}
use Rattle.arrays.specs.inner.Every.{all_of}
use Rattle.arrays.proofs.array_checks.any_miscounted.Given as goal

abbrev pub invariant-loop-i : goal.invariant-loop-i
invariant-loop-i l = record {
  long : list_any typed_is_short (all_of (drop l.i l.every)) ≡ false;
  same : list_any is_miscounted (zip (drop l.i (nodes_in l.nodes)) (all_of (drop l.i l.every))) ≡ list_any is_miscounted (zip (nodes_in l.nodes) (all_of l.every));
}
