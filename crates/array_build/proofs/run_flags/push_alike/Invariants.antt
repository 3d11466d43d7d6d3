use Rattle.std.specs.Prelude.{replicate}
use Rattle.std.proofs.Common.{◌≡◌, ◌≤◌, ◌+◌, ◌++◌, ◌-◌, vec_len, vec_capacity}
use Rattle.array_build.proofs.run_flags.push_alike.Given as goal

-- those so far and those that are left, for which there is room
abbrev pub invariant-loop : goal.invariant-loop
invariant-loop l = record {
  flags : l.flags.items ++ replicate (l.count - l.counter) l.flag ≡ l.fn.flags.items ++ replicate l.count l.flag;
  room : vec_len l.flags + (l.count - l.counter) ≤ vec_capacity l.flags;
}
