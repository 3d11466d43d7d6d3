use Rattle.std.proofs.Common.{◌≡◌, ◌≤◌, ◌-◌, drop, length, map, Err}
use Rattle.catalogue.specs.Entries.{plain_entry}
use Rattle.catalogue.specs.inner.Places.{seat_of}
use Rattle.catalogue.proofs.places.seat_of.Given as goal

-- the place is counted from `low` on as from the start, and from `high` on all entries have greater names
abbrev pub invariant-loop-low : goal.invariant-loop-low
invariant-loop-low l = record {
  order : l.low ≤ l.high;
  within : l.high ≤ length l.entries;
  less : seat_of l.name l.low (drop l.low (map plain_entry l.entries)) ≡ seat_of l.name 0 (map plain_entry l.entries);
  greater : seat_of l.name l.high (drop l.high (map plain_entry l.entries)) ≡ Err l.high;
}

abbrev pub decreases-loop-low : goal.decreases-loop-low
decreases-loop-low l = l.high - l.low
