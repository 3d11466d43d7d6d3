use Rattle.std.proofs.Common.{◌≡◌, ◌++◌, ◌-◌, replicate}
use Rattle.batch_build.proofs.value_bytes.push_zeros.Given as goal

abbrev pub invariant-loop : goal.invariant-loop
invariant-loop l = l.values.items ++ replicate (l.count - l.counter) 0 ≡ l.fn.values.items ++ replicate l.count 0
