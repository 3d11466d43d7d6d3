use Rattle.std.proofs.Common.{◌≡◌, ◌<◌, ◌≤◌, ℕ}
use Rattle.sector_dev.specs.FileHistory.{marked_at}
use Rattle.sector_dev.specs.inner.Stored.{stored_at, settled}
use Rattle.sector_dev.proofs.stored.make_marked_durable.Given as goal

abbrev pub invariant-loop-n : goal.invariant-loop-n
invariant-loop-n l = record {
  below : (k : ℕ) → k < l.n → stored_at l.stored k ≡ settled (marked_at l.marks k) (stored_at l.fn.stored k);
  above : (k : ℕ) → l.n ≤ k → stored_at l.stored k ≡ stored_at l.fn.stored k;
}
