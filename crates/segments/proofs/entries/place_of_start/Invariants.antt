use Rattle.std.proofs.Common.{◌≤◌, ◌<◌, ◌-◌, ℕ, length, get_or}
use Rattle.segments.specs.declared.entries.UsageEntry.{UsageEntry}
use Rattle.segments.proofs.entries.place_of_start.Given as goal

abbrev pub invariant-loop-low : goal.invariant-loop-low
invariant-loop-low l = record {
  order : l.low ≤ l.high;
  within : l.high ≤ length l.entries;
  before : (k : ℕ) (d : UsageEntry) → k < l.low → (get_or l.entries k d).run.start < l.start;
  behind : (k : ℕ) (d : UsageEntry) → l.high ≤ k → k < length l.entries → l.start ≤ (get_or l.entries k d).run.start;
}

abbrev pub decreases-loop-low : goal.decreases-loop-low
decreases-loop-low l = l.high - l.low
