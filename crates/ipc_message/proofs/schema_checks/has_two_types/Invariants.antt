use Rattle.std.specs.Ordering.{nat_cmp}
use Rattle.std.specs.BTreeMap.{get}
use Rattle.ipc_message.specs.inner.Listed.{listed}
use Rattle.ipc_message.proofs.Firsts.{HaveIds, HaveFirsts}
use Rattle.ipc_message.proofs.schema_checks.has_two_types.Given as goal

abbrev pub invariant-loop-i : goal.invariant-loop-i
invariant-loop-i l = HaveIds (listed l.fields) (get nat_cmp l.firsts) × HaveFirsts (listed l.fields) (get nat_cmp l.firsts) l.i
