use Rattle.sha256_lanes.specs.inner.Lanes.{lane}
use Rattle.sha256_lanes.specs.inner.Hashed.{IsHashed}
use Rattle.sha256_lanes.proofs.lanes.digests_at_once.Given as goal

abbrev pub invariant-turns : goal.invariant-turns
invariant-turns l = record {
  first : IsHashed l.first (lane 0 l.state) l.first_digest l.n;
  second : IsHashed l.second (lane 1 l.state) l.second_digest l.n;
  third : IsHashed l.third (lane 2 l.state) l.third_digest l.n;
  fourth : IsHashed l.fourth (lane 3 l.state) l.fourth_digest l.n;
}
