use Rattle.std.proofs.Common.{◌≡◌, ◌≤◌, ◌+◌, ◌-◌, ◌++◌, reverse, vec_len, vec_capacity}
use Rattle.segments.proofs.gap_buffer.move_gap.Given as goal

abbrev pub invariant-loop-behind : goal.invariant-loop-behind
invariant-loop-behind l = record {
  entries : l.before.items ++ reverse l.behind.items ≡ l.fn.before.items ++ reverse l.fn.behind.items;
  len : vec_len l.before + vec_len l.behind ≡ vec_len l.fn.before + vec_len l.fn.behind;
  onward : vec_capacity l.before ≡ vec_capacity l.fn.before;
  back : vec_capacity l.behind ≡ vec_capacity l.fn.behind;
}

abbrev pub decreases-loop-behind : goal.decreases-loop-behind
decreases-loop-behind l = vec_len l.before

abbrev pub invariant-loop-before : goal.invariant-loop-before
invariant-loop-before l = record {
  entries : l.before.items ++ reverse l.behind.items ≡ l.fn.before.items ++ reverse l.fn.behind.items;
  len : vec_len l.before + vec_len l.behind ≡ vec_len l.fn.before + vec_len l.fn.behind;
  onward : vec_capacity l.before ≡ vec_capacity l.fn.before;
  place : vec_len l.before ≤ l.place;
}

abbrev pub decreases-loop-before : goal.decreases-loop-before
decreases-loop-before l = l.place - vec_len l.before
